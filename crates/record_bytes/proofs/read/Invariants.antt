use Rattle.record.specs.Sizes.{language_room}
use Rattle.record_bytes.specs.Layout.{language_of}
use Rattle.record_bytes.proofs.Walks.{Filled}
use Rattle.record_bytes.proofs.read.Given as goal

abbrev pub invariant-loop-i : goal.invariant-loop-i
invariant-loop-i l = Filled language_room (λ i. language_of i l.s) l.language-items l.i
