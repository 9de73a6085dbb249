-- The tests of lists in std's words, as an iterator's `all` and `any` give them, and a step of the loop over keys.
-- Assumes nothing.
use Prim.Native.Nat.{ℕ, ◌-◌, ◌≤◌, ◌<◌}
use mathlib.Core.Bool.{Bool, true, false, not, ◌&&◌, ◌||◌}
use mathlib.Core.Path.{◌≡◌, refl, sym, ap, ◌∙◌}
use mathlib.Core.List.{List, [], ◌∷◌, map}
use native.Mathlib.Omega.{arith}
use lib.Dec.{eqb}
use lib.ListN.{length, get_or, take, drop}
use lib.Seq.{take_all}
use Rattle.std.specs.List.{list_all, list_any}
use Rattle.common.specs.Lists.{every, member, none_twice}

pub every-all : {A : Type 0} (f : A → Bool) (xs : List A) → list_all f xs ≡ every f xs
unfolding every
every-all f [] = refl
every-all f (x ∷ xs) = ap (λ (b : Bool). f x && b) (every-all f xs)

pub member-any : {A : Type 0} (f : A → ℕ) (n : ℕ) (xs : List A) → list_any (λ x. eqb n (f x)) xs ≡ member n (map f xs)
unfolding member
member-any f n [] = refl
member-any f n (x ∷ xs) = ap (λ (b : Bool). eqb n (f x) || b) (member-any f n xs)

-- what stands behind the first
abbrev pub others : {A : Type 0} → List A → List A
others xs = take (length xs - 1) (drop 1 xs)

pub first-others : {A : Type 0} (xs : List A) (x : A) → 1 ≤ length xs → x ≡ get_or xs 0 x → xs ≡ x ∷ others xs
first-others {A} [] x l e = absurd (omega arith)
first-others {A} (y ∷ xs) x l e =
    let h : length xs ≤ length (y ∷ xs) - 1 = omega arith in
    ap (λ (z : A). z ∷ xs) (sym e) ∙ ap (λ (l : List A). x ∷ l) (sym (take_all (length (y ∷ xs) - 1) xs h))

module _ {A : Type 0} (key : A → ℕ) (xs : List A) (x : A) (b : Bool) (h : xs ≡ x ∷ others xs) (any : b ≡ list_any (λ y. eqb (key x) (key y)) (others xs)) where
  pub none-step : none_twice (map key xs) ≡ not b && none_twice (map key (others xs))
  unfolding none_twice
  none-step = ap (λ (l : List A). none_twice (map key l)) h ∙ rw (any, member-any key (key x) (others xs))

pub none-end : {A : Type 0} (key : A → ℕ) (xs : List A) → length xs < 1 → none_twice (map key xs) ≡ true
unfolding none_twice
none-end key [] l = refl
none-end key (x ∷ xs) l = absurd (omega arith)

pub and-true : (b : Bool) → b && true ≡ b
and-true true = refl
and-true false = refl
