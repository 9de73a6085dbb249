-- Document 01, "What goes into the mast": how much a plan holds. Each size is named here once.
use Rattle.std.specs.Prelude.{ℕ}

abbrev pub interface_room : ℕ
interface_room = 4

abbrev pub endpoint_room : ℕ
endpoint_room = 8

-- a count or a length that no good record has
abbrev pub spoilt : ℕ
spoilt = 255
