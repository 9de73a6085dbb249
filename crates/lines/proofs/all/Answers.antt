use Rattle.std.proofs.Common.{length, zero-le, refl, ap, ◌∙◌, rules}
use Rattle.stream.specs.Stream.{stop_number}
use Rattle.lines.specs.Entries.{Wrote, lines_of}
use Rattle.lines.proofs.Laws.{lines_start, lines-turn, lines_end, slice-entry, room-line, room-stop}
use Rattle.lines.proofs.all.Goals as goal

pub loop-i-init : goal.loop-i-init
loop-i-init c = let a = c.args in record { pending = lines_start a.count a.number a.trace.now (stop_number a.stop) a.out.now c.requires.1; room = zero-le; same_borrow = refl }

pub entry-requires : goal.entry-requires
entry-requires c =
    let a = c.args in
    let w = c.loop-i in
    let s = slice-entry a.trace.now w.i a.count c.loop-i-test.true c.requires.0 in
    (ap length s.0 ∙ s.1, room-line w.writer.at w.i a.count w.invariant.room c.loop-i-test.true w.invariant.pending.long c.requires.1)

pub loop-i-preserved : goal.loop-i-preserved
loop-i-preserved c =
    let a = c.args in
    let w = c.loop-i in
    let s = slice-entry a.trace.now w.i a.count c.loop-i-test.true c.requires.0 in
    let t = lines-turn a.trace.now a.count (stop_number a.stop) w.i w.n c.loop-i-test.true w.invariant.room refl w.invariant.pending (rw s.0 at c.entry.ensures.wrote) in
    record { pending = t.0; room = t.1; same_borrow = c.entry.ensures.same_borrow ∙ w.invariant.same_borrow }

pub stopped-requires : goal.stopped-requires
stopped-requires c = let w = c.loop-i in room-stop w.writer.at w.i c.args.count w.invariant.room w.auto.i-end w.invariant.pending.long c.requires.1

pub returns : goal.returns
returns c =
    let a = c.args in
    let w = c.loop-i in
    let l : Wrote c.stopped.new.self.at c.stopped.new.self.out.now (lines_of a.count a.number a.trace.now (stop_number a.stop)) a.out.now 0 = lines_end a.trace.now a.count (stop_number a.stop) w.i w.n c.loop-i-test.false w.invariant.pending c.stopped.ensures.wrote in
    search rules
