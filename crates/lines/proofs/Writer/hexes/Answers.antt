use Rattle.std.proofs.Common.{get_or, refl, ◌∙◌, arith}
use Rattle.common.proofs.Pending.{pending-start, pending-room, pending-turn}
use Rattle.lines.specs.Lines.{hex_of}
use Rattle.lines.proofs.Laws.{hexes-length, hexes-turn, hexes-end}
use Rattle.lines.proofs.Writer.hexes.Goals as goal

pub loop-b-init : goal.loop-b-init
loop-b-init c = record { pending = pending-start refl (let e = hexes-length c.args.bytes.now in omega (arith, e, c.requires)); same_borrow = refl }

pub put-requires : goal.put-requires
put-requires c =
    let s = c.args.bytes.now in
    let w = c.loop-b in
    rw c.hex.ensures (pending-room (hex_of (get_or s w.b-index 0)) _ (hexes-turn s w.b-index c.loop-b-test.true w.invariant.pending))

pub loop-b-preserved : goal.loop-b-preserved
loop-b-preserved c =
    let s = c.args.bytes.now in
    let w = c.loop-b in
    let x = rw c.hex.ensures at c.put.ensures.wrote in
    record {
      pending = pending-turn (hex_of (get_or s w.b-index 0)) _ (hexes-turn s w.b-index c.loop-b-test.true w.invariant.pending) x.out x.value;
      same_borrow = c.put.ensures.same_borrow ∙ w.invariant.same_borrow;
    }

pub returns-clause-wrote : goal.returns-clause-wrote
returns-clause-wrote c = hexes-end c.args.bytes.now c.loop-b.b-index c.loop-b-test.false c.loop-b.invariant.pending
