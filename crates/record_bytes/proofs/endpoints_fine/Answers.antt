use Rattle.record_bytes.proofs.Walks.{entries-turn, entries-end, code-part}
use Rattle.record_bytes.specs.Layout.{endpoint_size, endpoint_coded, same}
use Rattle.plan.specs.Sizes.{endpoint_room}
use Rattle.common.proofs.Lists.{every-bad, every-next, every-nil}
use Rattle.common.specs.Lists.{every}
use borrow.Author.Tests.{le-leb, lt-leb}
use lib.ListN.{drop}
use mathlib.Core.Path.{sym, ap, ◌∙◌}
use Prim.Native.Nat.{◌*◌}
use Rattle.record_bytes.proofs.endpoints_fine.Goals as goal

pub returns-then-s-i-gt1 : goal.returns-then-s-i-gt1
returns-then-s-i-gt1 c =
    let s = c.args.s.now in
    let w = c.loop-i in
    sym (w.invariant ∙ ap (every endpoint_coded) (entries-turn endpoint_size same endpoint_room w.i s c.loop-i-test.true) ∙ every-bad endpoint_coded _ _ (code-part s (endpoint_size * w.i) ∙ lt-leb _ _ c.if-s-i-gt1.true))

pub loop-i-preserved : goal.loop-i-preserved
loop-i-preserved c =
    let s = c.args.s.now in
    let w = c.loop-i in
    w.invariant ∙ ap (every endpoint_coded) (entries-turn endpoint_size same endpoint_room w.i s c.loop-i-test.true) ∙ every-next endpoint_coded _ _ (code-part s (endpoint_size * w.i) ∙ le-leb _ _ c.if-s-i-gt1.false)

pub returns : goal.returns
returns c =
    let s = c.args.s.now in
    let w = c.loop-i in
    sym (w.invariant ∙ ap (every endpoint_coded) (entries-end endpoint_size same endpoint_room w.i (drop (endpoint_size * w.i) s) c.loop-i-test.false) ∙ every-nil endpoint_coded)
