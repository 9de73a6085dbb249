-- Laws of the tests of lists, and of a loop that walks a list. Assumes nothing.
use Prim.Native.Nat.{ℕ, ◌+◌, ◌≤◌, ◌<◌}
use mathlib.Core.Bool.{Bool, true, false}
use mathlib.Core.Path.{◌≡◌, refl, ap, ◌∙◌}
use mathlib.Core.List.{List, [], ◌∷◌}
use lib.ListN.{length, get_or, take, drop}
use Rattle.common.specs.Lists.{every}
use Rattle.common.proofs.Laws.{rest-cons, rest-nil}

-- a loop over the first n elements keeps that the whole answer is the answer of what is left: a turn, and the end
module _ {A : Type 0} {B : Type 0} (F : List A → B) (l : List A) (n : ℕ) where
  pub turn : (i : ℕ) (d : A) (whole : B) → n ≤ length l → i < n → whole ≡ F (drop i (take n l)) → whole ≡ F (get_or l i d ∷ drop (i + 1) (take n l))
  turn i d whole h k e = e ∙ ap F (rest-cons l n i d h k)

  pub ended : (i : ℕ) (whole : B) → n ≤ i → whole ≡ F (drop i (take n l)) → whole ≡ F []
  ended i whole h e = e ∙ ap F (rest-nil l n i h)

module _ {A : Type 0} (f : A → Bool) (x : A) (xs : List A) where
  pub every-bad : f x ≡ false → every f (x ∷ xs) ≡ false
  unfolding every
  every-bad e = rw e

  pub every-next : f x ≡ true → every f (x ∷ xs) ≡ every f xs
  unfolding every
  every-next e = rw e

pub every-nil : {A : Type 0} (f : A → Bool) → every f [] ≡ true
unfolding every
every-nil f = refl
