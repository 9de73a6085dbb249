use mathlib.Core.Path.{◌≡◌}
use mathlib.Core.List.{map}
use lib.ListN.{take}
use Rattle.record.specs.Filling.{unsaid}
use Rattle.record.proofs.Language.start.Given as goal

-- but for its length each string is as it was, and the lengths of the first are those of none
abbrev pub invariant-loop-text : goal.invariant-loop-text
invariant-loop-text l = record {
  same : map unsaid l.text-items ≡ map unsaid l.initial.text-items;
  done : map unsaid (take l.text-index l.text-items) ≡ take l.text-index l.text-items;
}
