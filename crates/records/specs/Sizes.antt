-- Document 01, module 5: the bytes of an event record, of its head, and of the packet behind the head.
use Rattle.std.specs.Prelude.{ℕ}

abbrev pub event_room : ℕ
event_room = 80

abbrev pub head_room : ℕ
head_room = 16

abbrev pub packet_room : ℕ
packet_room = 64
