use Prim.Native.Nat.{◌+◌, ◌*◌}
use Rattle.record.specs.Sizes.{names}
use Rattle.record_bytes.specs.Layout.{text_of}
use Rattle.record_bytes.proofs.Walks.{Filled}
use Rattle.record_bytes.proofs.read_texts.Given as goal

abbrev pub invariant-loop-k : goal.invariant-loop-k
invariant-loop-k l = Filled names (λ k. text_of (names * l.i + k) l.s) l.texts l.k
