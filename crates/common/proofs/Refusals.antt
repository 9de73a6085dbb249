-- The two tables of refusals agree, and what the answer of a test tells of its number. Assumes nothing.
use lib.Dec.{eqb}
use Prim.Native.Nat.{ℕ}
use native.Mathlib.Omega.{arith}
use mathlib.Core.Bool.{Bool, true, false, cond}
use mathlib.Core.Path.{◌≡◌, refl}
use Rattle.std.specs.Prelude.{Ok, Err}
use Rattle.common.specs.declared.Refusal.{Refusal}
use Rattle.common.specs.declared.Refusal.TheVariants.{PacketSize, Layout, Languages, BookLength, OtherBook, PacketRoom, NoData, DataRoom, BadState, BadEvent, BadSetup, AnswerRoom}
use Rattle.common.specs.Refusals.{number_of, refusal, unless}

pub named : (r : Refusal) → refusal (number_of r) ≡ r
named PacketSize = refl
named Layout = refl
named Languages = refl
named BookLength = refl
named OtherBook = refl
named PacketRoom = refl
named NoData = refl
named DataRoom = refl
named BadState = refl
named BadEvent = refl
named BadSetup = refl
named AnswerRoom = refl

-- a number that is one of the table's
abbrev pub Named : ℕ → Type 0
Named n = number_of (refusal n) ≡ n

-- what a caller learns of a test that lets it through, and of one that does not
pub passed : {A : Type 0} (n : ℕ) (x y : A) → Ok y ≡ unless n x → eqb n 0 ≡ true
passed n x y e = at (eqb n 0) refl e
  where
    at : (b : Bool) → eqb n 0 ≡ b → Ok y ≡ cond b (Ok x) (Err (refusal n)) → eqb n 0 ≡ true
    at true k q = k
    at false k q = grind (arith, k, q)

pub refused : {A : Type 0} (n : ℕ) (x : A) (why : Refusal) → Err why ≡ unless n x → (eqb n 0 ≡ false) × (why ≡ refusal n)
refused n x why e = at (eqb n 0) refl e
  where
    at : (b : Bool) → eqb n 0 ≡ b → Err why ≡ cond b (Ok x) (Err (refusal n)) → (eqb n 0 ≡ false) × (why ≡ refusal n)
    at true k q = grind (arith, k, q)
    at false k q = (k, grind (arith, q))
