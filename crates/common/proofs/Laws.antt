-- Laws of tests and of lists that the proofs of every crate cite. Assumes nothing.
use borrow.Author.Tests.{eq-eqb, ne_eqb, lt-ltb, le-ltb, le-leb, lt-leb, leb-true, leb-false}
use lib.Dec.{leb}
use Prim.Native.Nat.{ℕ, ◌+◌, ◌-◌, ◌≤◌, ◌<◌}
use mathlib.Core.Bool.{Bool, true, false, cond, ◌&&◌, false≢true}
use mathlib.Core.Path.{◌≡◌, refl, sym, ap, ◌∙◌}
use mathlib.Core.List.{List, [], ◌∷◌, ◌++◌, append_assoc, append-nil}
use native.Mathlib.Omega.{arith}
use native.Mathlib.Nat.{zero-add, add-zero, add_assoc}
use native.Mathlib.Numerals.{add-one}
use lib.ListN.{length, get_or, take, drop, length-take, length-append, length-drop, drop_of_length-le, take-append-drop}
use lib.Seq.{slice-cons, paste, take-length, length-take-le, take_all, drop-drop, drop-append-add, take_at}
use Rattle.common.specs.Bytes.{inside, part, placed, stored, piece, front}

-- a test of numbers from its fact
pub ruleset tests = (eq-eqb, ne_eqb, lt-ltb, le-ltb, le-leb, lt-leb)

-- what holds of both choices holds of the one taken
pub cond-elim : {A : Type 0} (P : A → Type 0) (b : Bool) (x y : A) → (b ≡ true → P x) → (b ≡ false → P y) → P (cond b x y)
cond-elim P true x y t f = t refl
cond-elim P false x y t f = f refl

pub cond_same : {A : Type 0} (b : Bool) (x : A) → cond b x x ≡ x
cond_same true x = refl
cond_same false x = refl

-- both parts of a test that holds
pub and_left : (a b : Bool) → a && b ≡ true → a ≡ true
and_left true b e = refl
and_left false b e = e

pub and_right : (a b : Bool) → a && b ≡ true → b ≡ true
and_right true b e = e
and_right false b e = absurd (false≢true e)

pub and-false : (b : Bool) → b && false ≡ false
and-false true = refl
and-false false = refl

module _ {A : Type 0} where
  -- of the first n elements, what is left at i: the element at i, and what is left after it
  pub rest-cons : (l : List A) (n i : ℕ) (d : A) → n ≤ length l → i < n → drop i (take n l) ≡ get_or l i d ∷ drop (i + 1) (take n l)
  rest-cons l n i d h k = rw add-one (slice-cons i n l d k h)

  pub rest-nil : (l : List A) (n i : ℕ) → n ≤ i → drop i (take n l) ≡ []
  rest-nil l n i h = let k : length (take n l) ≤ i = rw (length-take n l) (omega arith) in drop_of_length-le (take n l) k

  -- a copy of `&s[f..f + n]` over `&mut d[at..at + n]`, as the three parts come back
  pub copied-part : (s d : List A) (f n at : ℕ) → f + n ≤ length s → at + n ≤ length d
      → take at d ++ (take (f + n - f) (drop f s) ++ drop (at + n - at) (drop at d)) ≡ placed d at (part f n s)
  unfolding placed
  copied-part s d f n at hs hd =
      let e : f + n - f ≡ n = omega arith in
      let k : at + n - at ≡ n = omega arith in
      let l : n ≤ length (drop f s) = simp length-drop (omega arith) in
      rw (e, k) (simp (drop-drop, length-take-le n (drop f s) l))

  -- what `stored` says: of a part that runs past its end, nothing; else the part at its place
  pub stored_short : (d s : List A) (at f n : ℕ) → inside s f n ≡ false → d ≡ stored d at s f n
  unfolding stored
  stored_short d s at f n e = rw e

  pub stored-full : (d s : List A) (at f n : ℕ) → inside s f n ≡ true → inside d at n ≡ false → d ≡ stored d at s f n
  unfolding stored
  stored-full d s at f n e k = rw (e, k)

  pub stored-part : (d s : List A) (at f n : ℕ) → inside s f n ≡ true → inside d at n ≡ true → stored d at s f n ≡ placed d at (part f n s)
  unfolding stored
  stored-part d s at f n e k = rw (e, k)

  -- all of s where d has the room
  pub stored-whole : (d s : List A) (at n : ℕ) → n ≡ length s → at + n ≤ length d → stored d at s 0 n ≡ placed d at s
  stored-whole d s at n e l =
      let h : 0 + n ≤ length s = omega arith in
      stored-part d s at 0 n (le-leb _ _ h) (le-leb _ _ l) ∙ ap (λ (t : List A). placed d at t) (take_all n s (omega arith))

  -- all of s over all of d
  pub stored-over : (d s : List A) (n : ℕ) → n ≡ length s → length d ≡ length s → stored d 0 s 0 n ≡ s
  unfolding placed
  stored-over d s n e l =
      let h : 0 + n ≤ length d = omega arith in
      let k : length d ≤ 0 + length s = omega arith in
      stored-whole d s 0 n e h ∙ rw (drop_of_length-le d k) (append-nil s)

  -- a copy to the front of a room
  pub stored-front : (r s : List A) (f n : ℕ) → stored r 0 s f n ≡ front (piece f n s) r
  unfolding stored placed piece front
  stored-front r s f n = at (inside s f n) refl
    where
      at : (t : Bool) → inside s f n ≡ t → cond (inside s f n && inside r 0 n) (take 0 r ++ (part f n s ++ drop (0 + length (part f n s)) r)) r ≡ cond (leb (length (cond (inside s f n) (part f n s) [])) (length r)) (cond (inside s f n) (part f n s) [] ++ drop (length (cond (inside s f n) (part f n s) [])) r) r
      at true e =
          let h : n ≤ length (drop f s) = let k : f + n ≤ length s = leb-true (f + n) (length s) e in simp length-drop (omega arith) in
          rw (e, length-take-le n (drop f s) h, zero-add n)
      at false e = rw e (sym (cond_same (leb 0 (length r)) r))

  -- nothing written leaves the room
  pub front-nil : (room : List A) → room ≡ front [] room
  unfolding front
  front-nil room = sym (cond_same (leb 0 (length room)) room)

  -- the first n are at most n
  pub at_most : (n : ℕ) (l : List A) → length (take n l) ≤ n
  at_most n l = rw (length-take n l) (omega arith)

  -- what is placed leaves the length
  pub length-placed : (d s : List A) (at : ℕ) → at + length s ≤ length d → length (placed d at s) ≡ length d
  unfolding placed
  length-placed d s at l =
      let h : at ≤ length d = omega arith in
      simp (length-append, length-take-le at d h, length-drop) (omega arith)

  -- nothing placed changes nothing
  pub placed-nil : (d : List A) (at : ℕ) → placed d at [] ≡ d
  unfolding placed
  placed-nil d at = rw (add-zero at) (take-append-drop at d)

  drop_past : (xs ys : List A) (k n : ℕ) → length xs ≡ k → drop (k + n) (xs ++ ys) ≡ drop n ys
  drop_past xs ys k n e = rw (← e) (drop-append-add xs ys n)

  -- one part placed behind another is both placed
  pub placed-more : (d s t : List A) (at : ℕ) → at + length s + length t ≤ length d → placed (placed d at s) (at + length s) t ≡ placed d at (s ++ t)
  unfolding placed
  placed-more d s t at l =
      let k = at + length s in
      let h : at ≤ length d = omega arith in
      let e : length (take at d ++ s) ≡ at + length s = simp (length-append, length-take-le at d h) in
      let q : take at d ++ (s ++ drop k d) ≡ take at d ++ s ++ drop k d = sym (append_assoc (take at d) s (drop k d)) in
      rw q
      (rw (take_at (take at d ++ s) (drop k d) k e)
      (rw (drop_past (take at d ++ s) (drop k d) k (length t) e)
      (simp (drop-drop, length-append, append_assoc, add_assoc))))

  -- a whole copy, as the library has it
  pub paste_all : (d s : List A) (at : ℕ) → paste d at s (length s) ≡ placed d at s
  unfolding placed
  paste_all d s at = rw (take-length s) (append_assoc (take at d) s (drop (at + length s) d))
