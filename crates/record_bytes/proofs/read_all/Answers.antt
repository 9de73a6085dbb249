use mathlib.Core.Path.{refl, ◌∙◌, ap}
use lib.ListN.{length}
use Rattle.record_bytes.proofs.Walks.{reading-start, reading-turn, reading-end, span}
use Rattle.record_bytes.proofs.read_all.Goals as goal

pub loop-i-init : goal.loop-i-init
loop-i-init g c = reading-start g.row.N g.T.Entry.named _ c.args.s.now _ refl

pub loop-i-preserved : goal.loop-i-preserved
loop-i-preserved g c =
    let a = c.args in
    let w = c.loop-i in
    reading-turn g.row.N g.T.Entry.named (length a.list.now) a.s.now w.list w.i c.read.result c.loop-i-test.true (c.read.ensures ∙ ap g.T.Entry.named (span g.row.N w.i a.s.now)) w.invariant

pub returns : goal.returns
returns g c =
    let a = c.args in
    let w = c.loop-i in
    reading-end g.row.N g.T.Entry.named (length a.list.now) a.s.now w.list w.i c.loop-i-test.false w.invariant
