use Rattle.std.proofs.Common.{◌≡◌, ◌-◌, ◌*◌, take, drop}
use Rattle.common.specs.Bytes.{placed}
use Rattle.records.specs.Sizes.{event_room}
use Rattle.stream.specs.Trace.{entry_room}
use Rattle.common.specs.Refusals.{unless}
use Rattle.device.specs.Device.{refused_by}
use Rattle.stream.specs.Stream.{clean, longer, runs}
use Rattle.stream.proofs.run.Given as goal

-- the whole run is what stands in the trace and the run of what is left; the trace's front is written, the rest as it was
abbrev pub invariant-loop-i : goal.invariant-loop-i
invariant-loop-i l = record {
  whole : runs l.turns l.fn.device l.book l.events ≡ longer (take (entry_room * l.i) l.trace) l.i (runs (l.turns - l.i) l.device l.book (drop (event_room * l.i) l.events));
  front : l.trace ≡ placed l.initial.trace 0 (take (entry_room * l.i) l.trace);
  fit : l.fit ≡ unless (refused_by l.device l.book clean) tt;
}
