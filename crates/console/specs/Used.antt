-- Zero bytes at the end of a list.
use Rattle.std.specs.Prelude.{ℕ, ◌+◌, cond, ◌&&◌, List, [], ◌∷◌, eqb}

-- how many bytes there are up to the last that is not 0
unfoldable pub used : List ℕ → ℕ
used [] = 0
used (b ∷ s) = cond (eqb b 0 && eqb (used s) 0) 0 (used s + 1)
