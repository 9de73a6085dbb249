-- Document 01, "What goes into the mast": how much a record holds. Each size is named here once.
use Rattle.std.specs.Prelude.{ℕ, ◌*◌}

abbrev pub language_room : ℕ
language_room = 4

-- the strings of a language: manufacturer, product, serial number
abbrev pub names : ℕ
names = 3

-- the UTF-16 units of a string
abbrev pub unit_room : ℕ
unit_room = 31

-- all strings, and all their units
abbrev pub string_room : ℕ
string_room = language_room * names

abbrev pub text_room : ℕ
text_room = string_room * unit_room
