use Prim.Native.Nat.{◌+◌}
use lib.ListN.{get_or, drop}
use Rattle.common.proofs.Pending.{pending-as, pending-room, pending-turn, pending-end}
use Rattle.configuration.specs.Configuration.{interface_set, interface_sets}
use Rattle.configuration.proofs.Laws.{set-left, no-set-left, nowhere}
use Rattle.configuration.proofs.put_interfaces.Goals as goal

pub put_interface-place-requires-clause-room : goal.put_interface-place-requires-clause-room
put_interface-place-requires-clause-room c =
    let w = c.loop-number in
    let l = c.args.interfaces.now in
    let es = c.args.endpoints.now in
    pending-room (interface_set es w.number (get_or l w.number nowhere)) (interface_sets es (w.number + 1) (drop (w.number + 1) l)) (pending-as (set-left es l w.number nowhere c.loop-number-test.true) w.invariant)

pub loop-number-preserved : goal.loop-number-preserved
loop-number-preserved c =
    let w = c.loop-number in
    let l = c.args.interfaces.now in
    let es = c.args.endpoints.now in
    let b = c.put_interface-place.ensures in
    pending-turn (interface_set es w.number (get_or l w.number nowhere)) (interface_sets es (w.number + 1) (drop (w.number + 1) l))
    (pending-as (set-left es l w.number nowhere c.loop-number-test.true) w.invariant) b.buffer b.next

pub returns : goal.returns
returns c =
    let w = c.loop-number in
    (pending-end (pending-as (no-set-left c.args.endpoints.now c.args.interfaces.now w.number w.number c.loop-number-test.false) w.invariant)).0
