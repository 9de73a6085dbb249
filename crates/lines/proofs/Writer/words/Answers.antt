use Rattle.std.proofs.Common.{ℕ, ◌≤◌, length, drop, arith}
use Rattle.stream.specs.Trace.{top_room}
use Rattle.lines.specs.Entries.{action_in}
use Rattle.lines.specs.Lines.{word_of}
use Rattle.lines.proofs.Laws.{short, short-then, wrote-room, slot-most}
use Rattle.lines.proofs.Writer.words.Goals as goal

pub slot-requires-2 : goal.slot-requires-2
slot-requires-2 c = let e = c.args.entry.now in let q = c.requires in let w : (i : ℕ) → length (word_of (action_in e i) (drop top_room e)) ≤ 130 = slot-most e q.0 in (q.0, omega arith, wrote-room 130 130 c.slot.ensures.wrote (w 8) (omega (arith, q.1)))

pub slot-requires-3 : goal.slot-requires-3
slot-requires-3 c = let e = c.args.entry.now in let q = c.requires in let w : (i : ℕ) → length (word_of (action_in e i) (drop top_room e)) ≤ 130 = slot-most e q.0 in (q.0, omega arith, wrote-room 130 130 c.slot-2.ensures.wrote (w 10) (wrote-room 130 260 c.slot.ensures.wrote (w 8) (omega (arith, q.1))))

pub slot-requires-4 : goal.slot-requires-4
slot-requires-4 c = let e = c.args.entry.now in let q = c.requires in let w : (i : ℕ) → length (word_of (action_in e i) (drop top_room e)) ≤ 130 = slot-most e q.0 in (q.0, omega arith, wrote-room 130 130 c.slot-3.ensures.wrote (w 12) (wrote-room 130 260 c.slot-2.ensures.wrote (w 10) (wrote-room 130 390 c.slot.ensures.wrote (w 8) (omega (arith, q.1)))))

pub slot-requires-5 : goal.slot-requires-5
slot-requires-5 c = let e = c.args.entry.now in let q = c.requires in let w : (i : ℕ) → length (word_of (action_in e i) (drop top_room e)) ≤ 130 = slot-most e q.0 in (q.0, omega arith, wrote-room 130 130 c.slot-4.ensures.wrote (w 14) (wrote-room 130 260 c.slot-3.ensures.wrote (w 12) (wrote-room 130 390 c.slot-2.ensures.wrote (w 10) (wrote-room 130 520 c.slot.ensures.wrote (w 8) (omega (arith, q.1))))))

pub returns-clause-wrote : goal.returns-clause-wrote
returns-clause-wrote c = let e = c.args.entry.now in let q = c.requires in let w : (i : ℕ) → length (word_of (action_in e i) (drop top_room e)) ≤ 130 = slot-most e q.0 in let a = c.slot.ensures.wrote in let b = c.slot-2.ensures.wrote in let d = c.slot-3.ensures.wrote in let f = c.slot-4.ensures.wrote in let u = wrote-room 130 520 a (w 8) q.1 in let v = wrote-room 130 390 b (w 10) u in let x = wrote-room 130 260 d (w 12) v in (short-then (short a (w 8)) (short-then (short b (w 10)) (short-then (short d (w 12)) (short-then (short f (w 14)) (short c.slot-5.ensures.wrote (w 16)) x) v) u) q.1).wrote
