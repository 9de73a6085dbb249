-- What the theorems of proofs/ count.
use Rattle.std.specs.Prelude.{ℕ, ◌+◌, List, [], ◌∷◌}
use Rattle.effects.specs.declared.Action.{Action}
use Rattle.effects.specs.declared.Action.TheVariants.{Nothing, Resume, Suspend, Reset, UnstallOut, UnstallIn, StallOut, StallIn, Halt, Unhalt, Address, Write, Refused}

-- 1 for a packet that the bus is given, taken or refused
abbrev pub is_write : Action → ℕ
is_write Nothing = 0
is_write Resume = 0
is_write Suspend = 0
is_write Reset = 0
is_write UnstallOut = 0
is_write UnstallIn = 0
is_write StallOut = 0
is_write StallIn = 0
is_write (Halt e) = 0
is_write (Unhalt e) = 0
is_write (Address a) = 0
is_write (Write n) = 1
is_write (Refused n) = 1

-- how many packets the bus is given
unfoldable pub writes : List Action → ℕ
writes [] = 0
writes (a ∷ l) = is_write a + writes l
