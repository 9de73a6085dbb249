-- Laws of lists that stand in bytes entry by entry, and of the loops that read and write them. Assumes nothing.
use Prim.Native.Nat.{ℕ, zero, suc, ◌+◌, ◌-◌, ◌*◌, ◌≤◌, ◌<◌}
use mathlib.Core.Path.{◌≡◌, refl, sym, ap, ap₂, ◌∙◌}
use mathlib.Core.List.{List, [], ◌∷◌, ◌++◌, append-nil, append_assoc}
use native.Mathlib.Omega.{arith}
use native.Mathlib.Nat.{add-zero, mul-zero, mul-suc, add_comm, sub-zero, zero-add}
use native.Mathlib.Numerals.{add-one}
use lib.ListN.{length, get_or, set, take, drop, length-append, length-set, length-drop, drop_of_length-le}
use borrow.Author.Tests.{le-leb}
use lib.Dec.{leb}
use lib.Seq.{drop-drop, get_or-take, get_or-drop, set_split, length-take-le, take_all}
use Rattle.std.proofs.lemmas.List.{take_more, take_more_set}
use Rattle.std.proofs.lemmas.Grind.{common_steps}
use Rattle.common.specs.Bytes.{placed, part, stored}
use Rattle.common.proofs.Laws.{placed-nil, placed-more, length-placed, stored-part}
use Rattle.record_bytes.specs.Layout.{endpoint_size, endpoint_coded}
use Rattle.record_bytes.specs.Codes.{joined, entries, numbered}

-- an element of a part
pub get_d_part : {A : Type 0} (s : List A) (at n i : ℕ) (z : A) → i < n → get_or (part at n s) i z ≡ get_or s (at + i) z
get_d_part s at n i z l = get_or-take n (drop at s) i z l ∙ get_or-drop at s i z

-- what stands over a whole list
pub placed-over : {A : Type 0} (d s : List A) → length d ≡ length s → placed d 0 s ≡ s
unfolding placed
placed-over d s e =
    let l : length d ≤ 0 + length s = omega arith in
    rw (drop_of_length-le d l) (append-nil s)

pub stood : {A : Type 0} (d : List A) (i : ℕ) (x : A) → i < length d → set d i x ≡ placed d i (x ∷ [])
unfolding placed
stood d i x h = rw add-one (set_split d i x h)

-- one element stored, then the others
pub set-placed : {A : Type 0} (d t : List A) (i : ℕ) (x : A) → i + 1 + length t ≤ length d → placed (set d i x) (i + 1) t ≡ placed d i (x ∷ t)
set-placed {A} d t i x l =
    let h : i < length d = omega arith in
    ap (λ (u : List A). placed u (i + 1) t) (stood d i x h) ∙ placed-more d (x ∷ []) t i l

module _ {A : Type 0} (k : ℕ) (g : List ℕ → A) where
  pub length-entries : (n : ℕ) (s : List ℕ) → length (entries n k g s) ≡ n
  unfolding entries
  length-entries zero s = refl
  length-entries (suc n) s = ap suc (length-entries n (drop k s))

  -- of n entries, what is left at i: the entry at i, and what is left after it
  pub entries-turn : (n i : ℕ) (s : List ℕ) → i < n → entries (n - i) k g (drop (k * i) s) ≡ g (part (k * i) k s) ∷ entries (n - (i + 1)) k g (drop (k * (i + 1)) s)
  unfolding entries
  entries-turn n i s l =
      let e : n - i ≡ suc (n - (i + 1)) = omega arith in
      let f : k * (i + 1) ≡ k * i + k = rw (add-one i, mul-suc k i) in
      rw (e, f) (ap (λ (u : List ℕ). g (take k (drop (k * i) s)) ∷ entries (n - (i + 1)) k g u) (drop-drop k (k * i) s))

  pub entries-end : (n i : ℕ) (s : List ℕ) → n ≤ i → entries (n - i) k g s ≡ []
  unfolding entries
  entries-end n i s l = let e : n - i ≡ 0 = omega arith in rw e

  -- a loop that reads them into d one by one: what is still to be read gives what is to stand there in the end
  pub record Reading (n : ℕ) (s : List ℕ) (d : List A) (i : ℕ) : Type 0 where
    pub most : i ≤ n
    pub same : placed d i (entries (n - i) k g (drop (k * i) s)) ≡ entries n k g s
    pub long : length d ≡ n

  pub reading-start : (n : ℕ) (s : List ℕ) (d : List A) → length d ≡ n → Reading n s d 0
  reading-start n s d l =
      record {
        most = omega arith;
        same = rw (sub-zero n, mul-zero k) (placed-over d (entries n k g s) (l ∙ sym (length-entries n s)));
        long = l;
      }

  pub reading-turn : (n : ℕ) (s : List ℕ) (d : List A) (i : ℕ) (x : A) → i < n → x ≡ g (part (k * i) k s) → Reading n s d i → Reading n s (set d i x) (i + 1)
  reading-turn n s d i x l e h =
      let t = entries (n - (i + 1)) k g (drop (k * (i + 1)) s) in
      let m : length t ≡ n - (i + 1) = length-entries (n - (i + 1)) (drop (k * (i + 1)) s) in
      let r : i + 1 + length t ≤ length d = omega (arith, m, h.long) in
      let w : entries (n - i) k g (drop (k * i) s) ≡ x ∷ t = entries-turn n i s l ∙ ap (λ (y : A). y ∷ t) (sym e) in
      record {
        most = omega arith;
        same = set-placed d t i x r ∙ ap (λ (u : List A). placed d i u) (sym w) ∙ h.same;
        long = length-set d i x ∙ h.long;
      }

  pub reading-end : (n : ℕ) (s : List ℕ) (d : List A) (i : ℕ) → n ≤ i → Reading n s d i → d ≡ entries n k g s
  reading-end n s d i l h =
      sym (placed-nil d i) ∙ ap (λ (u : List A). placed d i u) (sym (entries-end n i (drop (k * i) s) l)) ∙ h.same

-- a loop that writes them
module _ {A : Type 0} (f : A → List ℕ) where
  pub joined_append : (xs ys : List A) → joined f (xs ++ ys) ≡ joined f xs ++ joined f ys
  unfolding joined
  joined_append [] ys = refl
  joined_append (x ∷ xs) ys = ap (λ (t : List ℕ). f x ++ t) (joined_append xs ys) ∙ sym (append_assoc (f x) (joined f xs) (joined f ys))

  pub length-joined : (k : ℕ) → ((x : A) → length (f x) ≡ k) → (xs : List A) → length (joined f xs) ≡ k * length xs
  unfolding joined
  length-joined k h [] = sym (mul-zero k)
  length-joined k h (x ∷ xs) = length-append (f x) (joined f xs) ∙ ap₂ (λ (a b : ℕ). a + b) (h x) (length-joined k h xs) ∙ add_comm k (k * length xs) ∙ sym (mul-suc k (length xs))

-- a loop that fills d with the values of f at 0 to n - 1: the first i stand there
pub record Filled {A : Type 0} (n : ℕ) (f : ℕ → A) (d : List A) (i : ℕ) : Type 0 where
  pub most : i ≤ n
  pub long : length d ≡ n
  pub same : take i d ≡ numbered i 0 f

module _ {A : Type 0} (f : ℕ → A) where
  pub numbered-more : (n i : ℕ) → numbered (n + 1) i f ≡ numbered n i f ++ f (i + n) ∷ []
  unfolding numbered
  numbered-more zero i = rw (add-zero i)
  numbered-more (suc n) i =
      let e : i + 1 + n ≡ i + suc n = omega arith in
      let m : suc n + 1 ≡ suc (n + 1) = omega arith in
      ap (λ (k : ℕ). numbered k i f) m ∙ ap (λ (t : List A). f i ∷ t) (numbered-more n (i + 1) ∙ ap (λ (k : ℕ). numbered n (i + 1) f ++ f k ∷ []) e)

  pub length-numbered : (n i : ℕ) → length (numbered n i f) ≡ n
  unfolding numbered
  length-numbered zero i = refl
  length-numbered (suc n) i = ap suc (length-numbered n (i + 1))

  pub filled-start : (n : ℕ) (d : List A) → length d ≡ n → Filled n f d 0
  unfolding numbered
  filled-start n d l = record { most = omega arith; long = l; same = refl }

  pub filled-turn : (n : ℕ) (d : List A) (i : ℕ) (x : A) → i < n → x ≡ f i → Filled n f d i → Filled n f (set d i x) (i + 1)
  filled-turn n d i x l e h =
      let k : i < length d = omega (arith, h.long) in
      record {
        most = omega arith;
        long = length-set d i x ∙ h.long;
        same = take_more_set d i x k ∙ ap₂ (λ (t : List A) (y : A). t ++ y ∷ []) h.same (e ∙ ap f (sym (zero-add i))) ∙ sym (numbered-more i 0);
      }

  pub filled-end : (n : ℕ) (d : List A) (i : ℕ) → n ≤ i → Filled n f d i → d ≡ numbered n 0 f
  filled-end n d i l h =
      let k : length d ≤ i = omega (arith, h.long) in
      let m : i ≡ n = omega (arith, h.most) in
      sym (take_all i d k) ∙ h.same ∙ ap (λ (j : ℕ). numbered j 0 f) m

-- a loop that writes the entries of xs one by one, from a place of d₀ on: the first i stand there
pub record Written {A : Type 0} (f : A → List ℕ) (k : ℕ) (xs : List A) (d₀ : List ℕ) (at : ℕ) (d : List ℕ) (i : ℕ) : Type 0 where
  pub most : i ≤ length xs
  pub size : length (joined f (take i xs)) ≡ k * i
  pub same : d ≡ placed d₀ at (joined f (take i xs))

module _ {A : Type 0} (f : A → List ℕ) (k : ℕ) (xs : List A) (d₀ : List ℕ) (at : ℕ) where
  pub written-start : Written f k xs d₀ at d₀ 0
  unfolding joined
  written-start = record { most = omega arith; size = sym (mul-zero k); same = sym (placed-nil d₀ at) }

  pub written-turn : (d d' : List ℕ) (i : ℕ) (x : A) → Written f k xs d₀ at d i → i < length xs → at + k * i + k ≤ length d₀ → length (f (get_or xs i x)) ≡ k
      → d' ≡ placed d (at + k * i) (f (get_or xs i x)) → Written f k xs d₀ at d' (i + 1)
  unfolding joined
  written-turn d d' i x w l room e p =
      let y = get_or xs i x in
      let old = joined f (take i xs) in
      let now : joined f (take (i + 1) xs) ≡ old ++ f y = ap (joined f) (take_more xs i x l) ∙ joined_append f (take i xs) (y ∷ []) ∙ ap (λ (t : List ℕ). old ++ t) (append-nil (f y)) in
      let s : length (old ++ f y) ≡ k * i + k = length-append old (f y) ∙ ap₂ (λ (a b : ℕ). a + b) w.size e in
      let q : at + k * i ≡ at + length old = ap (λ (n : ℕ). at + n) (sym w.size) in
      let m : at + length old + length (f y) ≤ length d₀ = omega (arith, w.size, e, room) in
      record {
        most = omega arith;
        size = ap length now ∙ s ∙ sym (ap (λ (n : ℕ). k * n) (add-one i) ∙ mul-suc k i);
        same = p ∙ ap₂ (λ (u : List ℕ) (n : ℕ). placed u n (f y)) w.same q ∙ placed-more d₀ old (f y) at m ∙ ap (λ (t : List ℕ). placed d₀ at t) (sym now);
      }

  pub written-end : (d : List ℕ) (i : ℕ) → Written f k xs d₀ at d i → length xs ≤ i → (d ≡ placed d₀ at (joined f xs)) × (length (joined f xs) ≡ k * length xs)
  written-end d i w l =
      let e : take i xs ≡ xs = take_all i xs l in
      let n : i ≡ length xs = omega (arith, w.most) in
      (w.same ∙ ap (λ (ys : List A). placed d₀ at (joined f ys)) e, ap (λ (ys : List A). length (joined f ys)) (sym e) ∙ w.size ∙ ap (λ (m : ℕ). k * m) n)

-- a part copied over a whole list
pub stored-all : {A : Type 0} (d s : List A) (from n : ℕ) → length d ≡ n → from + n ≤ length s → stored d 0 s from n ≡ part from n s
stored-all {A} d s from n e l =
    let k : 0 + n ≤ length d = omega arith in
    let h : n ≤ length (drop from s) = simp length-drop (omega arith) in
    stored-part d s 0 from n (le-leb _ _ l) (le-leb _ _ k) ∙ placed-over d (part from n s) (e ∙ sym (length-take-le n (drop from s) h))

-- parts placed one behind the other
pub three-placed : (d a b c : List ℕ) (at m n : ℕ) {d₁ d₂ d₃ : List ℕ} → d₁ ≡ placed d at a → d₂ ≡ placed d₁ m b → d₃ ≡ placed d₂ n c
    → m ≡ at + length a → n ≡ m + length b → n + length c ≤ length d → d₃ ≡ placed d at (a ++ (b ++ c))
three-placed d a b c at m n {d₁} {d₂} {d₃} e f g h k l =
    let i : m + length b + length c ≤ length d = omega (arith, k, l) in
    let j : at + length a + length b ≤ length d = omega (arith, h, i) in
    let t : at + length a ≤ length d = omega (arith, j) in
    let u : m + length b + length c ≤ length d₁ = rw (e, length-placed d a at t) i in
    let v : at + length a + length (b ++ c) ≤ length d = rw (length-append b c) (omega (arith, h, i)) in
    g
    ∙ ap₂ (λ (x : List ℕ) (y : ℕ). placed x y c) f k
    ∙ placed-more d₁ b c m u
    ∙ ap₂ (λ (x : List ℕ) (y : ℕ). placed x y (b ++ c)) e h
    ∙ placed-more d a (b ++ c) at v

-- the part that a loop's range takes
pub span : {A : Type 0} (k i : ℕ) (s : List A) → take (k * i + k - k * i) (drop (k * i) s) ≡ part (k * i) k s
span k i s = let e : k * i + k - k * i ≡ k = omega arith in ap (λ (n : ℕ). take n (drop (k * i) s)) e

-- a part that is copied over a part
pub mid : {A : Type 0} (d v : List A) (at n : ℕ) → length v ≡ n → take at d ++ (v ++ drop (at + n - at) (drop at d)) ≡ placed d at v
unfolding placed
mid d v at n l =
    let e : at + n - at ≡ n = omega arith in
    rw (e, drop-drop, l)

-- room for one entry more
pub fits : (k i n : ℕ) → i < n → k * i + k ≤ k * n
fits k i n l = grind (arith, common_steps)

-- the kind of an endpoint in a list of endpoints
pub code-part : (s : List ℕ) (at : ℕ) → endpoint_coded (part at endpoint_size s) ≡ leb (get_or s (at + 1) 0) 1
code-part s at = let l : 1 < endpoint_size = omega arith in ap (λ (n : ℕ). leb n 1) (get_d_part s at endpoint_size 1 0 l)
