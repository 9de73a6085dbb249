-- Document 01, module 3: the bytes of the control buffer.
use Rattle.std.specs.Prelude.{ℕ}

abbrev pub buffer_room : ℕ
buffer_room = 128
