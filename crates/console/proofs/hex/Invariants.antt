use Rattle.std.proofs.Common.{◌/◌, ◌%◌, [], ◌∷◌, false, take}
use Rattle.std.specs.Fmt.{digit_glyph}
use Rattle.std.specs.Io.KnownBytes.{Appends}
use Rattle.std.specs.List.{flat_map}
use Rattle.console.proofs.hex.Given as goal

abbrev pub invariant-loop-b : goal.invariant-loop-b
invariant-loop-b g l = Appends (g.W.Write.contents l.initial.out) (g.W.Write.contents l.out) (flat_map (λ b. digit_glyph false (b / 16) ∷ digit_glyph false (b % 16) ∷ []) (take l.b-index l.bytes))
