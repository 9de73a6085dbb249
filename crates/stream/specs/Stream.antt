-- Document 01, module 5 (event records): one device stepped through a stream of them, a trace entry for each.
use Rattle.std.specs.Prelude.{ℕ, zero, suc, ◌+◌, ◌/◌, ◌%◌, min, ⊤, cond, List, [], ◌++◌, ◌≡◌, Result, Ok, Err, Option, Some, None, eqb, length, take, drop, replicate}
use Rattle.common.specs.Bytes.{part, placed}
use Rattle.common.specs.Refusals.{number_of, unless, stop}
use Rattle.common.specs.declared.Refusal.{Refusal}
use Rattle.device.specs.declared.Device.{Device}
use Rattle.device.specs.declared.Polled.{Polled}
use Rattle.device.specs.Device.{step_of, room_of}
use Rattle.records.specs.declared.Happening.{Happening}
use Rattle.records.specs.Records.{known_of}
use Rattle.records.specs.Sizes.{event_room, head_room, packet_room}
use Rattle.stream.specs.declared.Ran.{Ran}
use Rattle.stream.specs.Trace.{entry_room, entry_of}

-- the room of a run's step
abbrev pub clean : List ℕ
clean = replicate packet_room 0

-- what one event record does: the device then, its trace entry, and the number that refuses it or 0
pub record Turn : Type 0 where
  pub device : Device
  pub entry : List ℕ
  pub number : ℕ

-- of what a step says, of the device then and of the room
unfoldable pub turn_of : Result Polled Refusal → Device → List ℕ → Turn
turn_of (Ok p) d room = record { device = d; entry = entry_of d.live.kept.state p room; number = 0 }
turn_of (Err why) d room = record { device = d; entry = []; number = number_of why }

-- a step with the record's event and packet
unfoldable pub turned : Device → List ℕ → Happening → List ℕ → Turn
turned d book h s =
    let packet = part head_room h.length s in
    let x = step_of d book h.event packet clean in
    turn_of x.said x.device (room_of d book h.event packet clean)

unfoldable pub turn_by : Result Happening Refusal → Device → List ℕ → List ℕ → Turn
turn_by (Ok h) d book s = turned d book h s
turn_by (Err why) d book s = record { device = d; entry = []; number = number_of why }

abbrev pub turn : Device → List ℕ → List ℕ → Turn
turn d book s = turn_by (known_of s) d book s

-- what a run does: the device then, the entries joined, how many there are, and the number that stopped it or 0
pub record Run : Type 0 where
  pub device : Device
  pub bytes : List ℕ
  pub count : ℕ
  pub number : ℕ

abbrev pub stopped : Device → ℕ → Run
stopped d n = record { device = d; bytes = []; count = 0; number = n }

-- so many entries before the others
abbrev pub longer : List ℕ → ℕ → Run → Run
longer bytes n r = record { device = r.device; bytes = bytes ++ r.bytes; count = r.count + n; number = r.number }

-- at most so many event records, one after the other; before one that is refused it stops
unfoldable pub runs : ℕ → Device → List ℕ → List ℕ → Run
runs zero d book events = stopped d 0
runs (suc n) d book events =
    let t = turn d book (take event_room events) in
    cond (eqb t.number 0) (longer t.entry 1 (runs n t.device book (drop event_room events))) (stopped d t.number)

-- as many as there are, a partial one too, and as the trace has room for
unfoldable pub turns_by : ℕ → ℕ → ℕ
turns_by events trace = min (trace / entry_room) (events / event_room + cond (eqb (events % event_room) 0) 0 1)

unfoldable pub run_of : Device → List ℕ → List ℕ → List ℕ → Run
run_of d book events trace = runs (turns_by (length events) (length trace)) d book events

-- the number of what stops a run, or 0
abbrev pub stop_number : Option Refusal → ℕ
stop_number None = 0
stop_number (Some why) = number_of why

-- ---- what the code promises

abbrev pub ran_of : Run → Ran
ran_of r = record { count = r.count; stop = stop r.number }

-- the entries at the front of the trace, nothing behind them changed
pub record Running (r : Ran) (after : Device) (exit : List ℕ) (x : Run) (entry : List ℕ) : Type 0 where
  pub value : r ≡ ran_of x
  pub device : after ≡ x.device
  pub trace : exit ≡ placed entry 0 x.bytes

-- of one record: the device then, and its entry where it is not refused
pub record Turning (r : Result ⊤ Refusal) (after : Device) (exit : List ℕ) (t : Turn) (entry : List ℕ) : Type 0 where
  pub value : r ≡ unless t.number tt
  pub device : after ≡ t.device
  pub written : exit ≡ placed entry 0 t.entry
