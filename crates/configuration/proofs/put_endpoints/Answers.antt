use Prim.Native.Nat.{◌+◌}
use lib.ListN.{get_or, drop}
use Rattle.common.proofs.Pending.{pending-as, pending-room, pending-turn, pending-end}
use Rattle.configuration.specs.Configuration.{endpoint_bytes, owned, joined}
use Rattle.configuration.proofs.Laws.{blank, own-left, other-left, none-left}
use Rattle.configuration.proofs.put_endpoints.Goals as goal
use Rattle.configuration.proofs.put_endpoints.Goals.{then-e-number, else-e-number}

pub append-place-requires : goal.append-place-requires
append-place-requires c =
    let a = c.args in
    let w = c.loop-e in
    let l = a.endpoints.now in
    rw c.endpoint_bytes.ensures
    (pending-room (endpoint_bytes (get_or l w.e-index blank)) (joined (owned a.number (drop (w.e-index + 1) l))) (pending-as (own-left a.number l w.e-index blank c.loop-e-test.true c.if-e-number.true) w.invariant))

pub loop-e-preserved : goal.loop-e-preserved
loop-e-preserved c =
    let a = c.args in
    let w = c.loop-e in
    let l = a.endpoints.now in
    let h = c.loop-e-test.true in
    let next = get_or l w.e-index blank in
    let rest = joined (owned a.number (drop (w.e-index + 1) l)) in
    elim c.if-e-number.branch [
      | then-e-number v ↦
          let p = pending-as (own-left a.number l w.e-index blank h v.if-e-number.true) w.invariant in
          let b = v.append-place.ensures in
          rw (v.buf-is, v.place-is) (pending-turn (endpoint_bytes next) rest p (rw v.endpoint_bytes.ensures at b.buffer) (rw v.endpoint_bytes.ensures at b.next))
      | else-e-number v ↦ rw (v.buf-is, v.place-is) (pending-as (other-left a.number l w.e-index blank h v.if-e-number.false) w.invariant)
    ]

pub returns : goal.returns
returns c =
    let a = c.args in
    let w = c.loop-e in
    let e = pending-end (pending-as (none-left a.number a.endpoints.now w.e-index c.loop-e-test.false) w.invariant) in
    record { next = e.1; buffer = e.0 }
