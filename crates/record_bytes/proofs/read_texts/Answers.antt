use Prim.Native.Nat.{◌+◌, ◌*◌}
use Rattle.record.specs.Sizes.{names}
use Rattle.record_bytes.specs.Layout.{text_of}
use Rattle.record_bytes.proofs.Walks.{filled-start, filled-turn, filled-end}
use Rattle.record_bytes.proofs.read_texts.Goals as goal

pub loop-k-init : goal.loop-k-init
loop-k-init c = let a = c.args in filled-start (λ k. text_of (names * a.i + k) a.s.now) names a.texts.now c.told-texts

pub loop-k-preserved : goal.loop-k-preserved
loop-k-preserved c =
    let a = c.args in
    let w = c.loop-k in
    filled-turn (λ k. text_of (names * a.i + k) a.s.now) names w.texts w.k _ c.loop-k-test.true c.read_text.ensures w.invariant

pub returns : goal.returns
returns c =
    let a = c.args in
    let w = c.loop-k in
    filled-end (λ k. text_of (names * a.i + k) a.s.now) names w.texts w.k c.loop-k-test.false w.invariant
