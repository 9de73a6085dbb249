use mathlib.Core.Path.{ap, ◌∙◌}
use mathlib.Core.List.{List}
use Prim.Native.Nat.{ℕ}
use native.Mathlib.Omega.{arith}
use borrow.Author.Rules.{rules}
use lib.ListN.{length}
use Rattle.common.specs.Bytes.{placed}
use Rattle.record_bytes.specs.Shape.{Planned}
use Rattle.record_bytes.specs.Layout.{head_bytes, plan_bytes}
use Rattle.record_bytes.proofs.Lengths.{head-length, interfaces-length, endpoints-length, plan-length}
use Rattle.record_bytes.proofs.Walks.{three-placed, mid}
use Rattle.record_bytes.proofs.write_plan.Goals as goal

planned : (c : goal.After-write_all-2) → Planned c.args.p.now
planned c = record { interfaces = search rules; endpoints = search rules }

pub returns-clause-bytes : goal.returns-clause-bytes
unfolding plan_bytes
returns-clause-bytes c =
    let p = c.args.p.now in
    let d = c.args.dst.now in
    let h = planned c in
    let is = c.copy_from_slice.ensures.after ∙ c.head.ensures in
    let v = c.copy_from_slice.new.self in
    three-placed d (head_bytes p) _ _ 0 17 29 (mid d v 0 17 (ap length is ∙ head-length p) ∙ ap (λ (u : List ℕ). placed d 0 u) is) c.write_all.ensures c.write_all-2.ensures
    (omega (arith, head-length p)) (omega (arith, interfaces-length p h)) (omega (arith, endpoints-length p h))

pub returns-clause-size : goal.returns-clause-size
returns-clause-size c = plan-length c.args.p.now (planned c)
