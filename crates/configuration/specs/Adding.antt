-- What the parts of the code say of bytes that fit.
use Rattle.std.specs.Prelude.{ℕ, ◌+◌, List, ◌≡◌, length}
use Rattle.common.specs.Bytes.{placed}

-- of bytes that fit: they stand at their place, and the next place is behind them
pub record Added (r : ℕ) (exit : List ℕ) (bytes : List ℕ) (entry : List ℕ) (at : ℕ) : Type 0 where
  pub next : r ≡ at + length bytes
  pub buffer : exit ≡ placed entry at bytes
