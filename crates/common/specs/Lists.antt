-- Tests of numbers and of lists.
use Rattle.std.specs.Prelude.{ℕ, Bool, true, false, not, ◌&&◌, ◌||◌, List, [], ◌∷◌, leb, eqb}

-- whether n is one of low to high
abbrev pub between : ℕ → ℕ → ℕ → Bool
between low high n = leb low n && leb n high

-- whether every element passes a test
unfoldable pub every : {A : Type 0} → (A → Bool) → List A → Bool
every f [] = true
every f (x ∷ xs) = f x && every f xs

-- whether x is an element
unfoldable pub member : ℕ → List ℕ → Bool
member x [] = false
member x (y ∷ ys) = eqb x y || member x ys

-- whether no number stands twice
unfoldable pub none_twice : List ℕ → Bool
none_twice [] = true
none_twice (x ∷ xs) = not (member x xs) && none_twice xs
