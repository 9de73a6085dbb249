-- Document 01, "What goes into the mast" (tile book): the bytes of a record.
use Rattle.std.specs.Prelude.{ℕ}

abbrev pub tile_size : ℕ
tile_size = 16
