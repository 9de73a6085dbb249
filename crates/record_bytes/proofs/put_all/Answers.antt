use Prim.Native.Nat.{◌+◌, ◌*◌, ◌≤◌}
use mathlib.Core.Path.{ap, sym, ◌∙◌}
use native.Mathlib.Omega.{arith}
use lib.ListN.{length}
use Rattle.common.specs.Bytes.{placed}
use Rattle.record_bytes.proofs.Walks.{written-start, written-turn, written-end, fits}
use Rattle.record_bytes.proofs.put_all.Goals as goal

pub loop-i-init : goal.loop-i-init
loop-i-init g c = let a = c.args in written-start g.T.Part.part g.row.N a.list.now a.dst.now a.at

pub loop-i-preserved : goal.loop-i-preserved
loop-i-preserved g c =
    let a = c.args in
    let w = c.loop-i in
    let part = g.T.Part.part in
    let x = c.index-list-i.result in
    let is = c.index-list-i.is in
    let room : a.at + g.row.N * w.i + g.row.N ≤ length a.dst.now = omega (arith, c.requires, fits g.row.N w.i (length a.list.now) c.loop-i-test.true) in
    written-turn part g.row.N a.list.now a.dst.now a.at w.dst _ w.i x w.invariant c.loop-i-test.true room (ap (λ y. length (part y)) (sym is) ∙ c.put.ensures.size)
    (c.put.ensures.bytes ∙ ap (λ y. placed w.dst (a.at + g.row.N * w.i) (part y)) is)

pub returns : goal.returns
returns g c =
    let a = c.args in
    let w = c.loop-i in
    let end = written-end g.T.Part.part g.row.N a.list.now a.dst.now a.at w.dst w.i w.invariant c.loop-i-test.false in
    record { bytes = end.0; size = end.1 }
