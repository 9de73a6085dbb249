use Prim.Native.Nat.{ℕ, ◌+◌, ◌*◌, ◌≤◌}
use mathlib.Core.Path.{◌≡◌, ap, ◌∙◌}
use mathlib.Core.List.{List}
use native.Mathlib.Omega.{arith}
use lib.ListN.{length}
use Rattle.common.specs.Bytes.{placed}
use Rattle.record_bytes.proofs.Walks.{written-start, written-turn, written-end, mid, fits}
use Rattle.record_bytes.proofs.write_all.Goals as goal

pub loop-i-init : goal.loop-i-init
loop-i-init g c = let a = c.args in written-start g.T.Entry.bytes g.row.N a.list.now a.dst.now a.at

pub loop-i-preserved : goal.loop-i-preserved
loop-i-preserved g c =
    let a = c.args in
    let w = c.loop-i in
    let v = c.copy_from_slice.new.self in
    let is : v ≡ g.T.Entry.bytes c.index-list-i.result = c.copy_from_slice.ensures.after ∙ c.write.ensures in
    let size = g.met.T.Entry.size c.index-list-i.result in
    let at = a.at + g.row.N * w.i in
    let room : at + g.row.N ≤ length a.dst.now = omega (arith, c.requires, fits g.row.N w.i (length a.list.now) c.loop-i-test.true) in
    written-turn g.T.Entry.bytes g.row.N a.list.now a.dst.now a.at w.dst _ w.i c.index-list-i.result w.invariant c.loop-i-test.true room (g.met.T.Entry.size _)
    (mid w.dst v at g.row.N (ap length is ∙ size) ∙ ap (λ (u : List ℕ). placed w.dst at u) (is ∙ ap g.T.Entry.bytes c.index-list-i.is))

pub returns : goal.returns
returns g c =
    let a = c.args in
    let w = c.loop-i in
    (written-end g.T.Entry.bytes g.row.N a.list.now a.dst.now a.at w.dst w.i w.invariant c.loop-i-test.false).0
