-- How the library spells a number in bytes is how the layout does. Assumes nothing.
use Rattle.std.proofs.Common.{◌≡◌, ℕ, ◌<◌, arith}
use Rattle.std.specs.Int.{w16, w32, to_le_bytes}
use Rattle.record_bytes.specs.Codes.{word_bytes, long_bytes}

pub word-spelt : (n : ℕ) → n < 65536 → to_le_bytes w16 n ≡ word_bytes n
word-spelt n l = grind arith

pub long-spelt : (n : ℕ) → n < 4294967296 → to_le_bytes w32 n ≡ long_bytes n
long-spelt n l = grind arith

pub ruleset spelt = (word-spelt, long-spelt)
