use Rattle.std.proofs.Common.{◌≡◌, ◌*◌, ◌≤◌, length, arith}
use Rattle.lines.specs.Entries.{room_for}
use Rattle.lines.proofs.Laws.{take_min, room_small}
use Rattle.lines.proofs.Told.{print-none, print-room, print-done}
use Rattle.lines.proofs.print.Goals as goal

pub returns-then-out-lt-BAD : goal.returns-then-out-lt-BAD
returns-then-out-lt-BAD c = let a = c.args in print-none a.number a.device.now a.book.now a.events.now a.trace.now a.out.now c.if-out-lt-BAD.true

pub overflow_mul-room : goal.overflow_mul-room
overflow_mul-room c = let n = length c.args.out.now in let l : 80 * room_for n ≤ n = room_small n in let e : c.room.result ≡ room_for n = c.room.ensures in omega arith

pub all-written-requires : goal.all-written-requires
all-written-requires c =
    let a = c.args in
    let r = rw (c.min-n.ensures, c.room.ensures, take_min (80 * room_for (length a.out.now)) a.events.now) at c.run-count.ensures in
    print-room a.number a.device.now a.book.now a.events.now a.trace.now a.out.now r c.if-out-lt-BAD.false c.run-count.auto.trace

pub returns : goal.returns
returns c =
    let a = c.args in
    let r = rw (c.min-n.ensures, c.room.ensures, take_min (80 * room_for (length a.out.now)) a.events.now) at c.run-count.ensures in
    print-done a.number a.device.now a.book.now a.events.now a.trace.now a.out.now r c.all-written.ensures
