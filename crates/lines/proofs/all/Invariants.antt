use Rattle.std.proofs.Common.{◌≡◌, ◌-◌, ◌*◌, ◌≤◌, drop}
use Rattle.common.proofs.Pending.{Pending}
use Rattle.stream.specs.Trace.{entry_room}
use Rattle.stream.specs.Stream.{stop_number}
use Rattle.lines.specs.Entries.{lines_of, line_room}
use Rattle.lines.proofs.all.Given as goal

-- the lines that are left stand behind those that are written
abbrev pub invariant-loop-i : goal.invariant-loop-i
invariant-loop-i l = record {
  pending : Pending (lines_of l.count l.number l.trace (stop_number l.stop)) l.initial.writer.out.now 0 (lines_of (l.count - l.i) l.n (drop (entry_room * l.i) l.trace) (stop_number l.stop)) l.writer.out.now l.writer.at;
  room : l.writer.at ≤ line_room * l.i;
  same_borrow : l.writer.out.ghost_name ≡ l.initial.writer.out.ghost_name;
}
