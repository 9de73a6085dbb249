-- Document 01, module 5 (replay): the lines of a run through event records, and the line of one trace entry.
use Rattle.std.specs.Prelude.{◌≡◌, ℕ, zero, suc, ◌+◌, ◌-◌, ◌*◌, ◌/◌, ◌%◌, ◌^◌, cond, ◌&&◌, List, [], ◌∷◌, ◌++◌, length, get_or, take, drop, ◌==◌, nat_le, slice_index, Result, Ok, Err}
use Rattle.common.specs.Bytes.{part, placed}
use Rattle.common.specs.Refusals.{stop}
use Rattle.common.specs.declared.Refusal.{Refusal}
use Rattle.requests.specs.declared.State.{State}
use Rattle.requests.specs.Codes.{state_of}
use Rattle.effects.specs.declared.Action.{Action}
use Rattle.effects.specs.declared.Action.TheVariants.{Nothing, Resume, Suspend, Reset, UnstallOut, UnstallIn, StallOut, StallIn, Halt, Unhalt, Address, Write, Refused}
use Rattle.actions.specs.declared.Actions.{Actions}
use Rattle.device.specs.declared.Device.{Device}
use Rattle.device.specs.Device.{step_of, room_of}
use Rattle.device.specs.declared.Polled.{Polled}
use Rattle.records.specs.declared.Happening.{Happening}
use Rattle.records.specs.Records.{known_of}
use Rattle.records.specs.Sizes.{event_room, head_room}
use Rattle.stream.specs.Trace.{entry_room, top_room}
use Rattle.stream.specs.Stream.{Run, clean, turn, turns_by}
use Rattle.lines.specs.declared.Printed.{Printed}
use Rattle.lines.specs.Lines.{line_of, bad_line}

-- ---- a line from a trace entry

-- what the codes of a trace entry stand for; by `Told.line_reads` the line of an entry is `line_of` of its state, actions and packet
abbrev pub state_at : ℕ → State
state_at code = state_of code

unfoldable pub action_at : ℕ → ℕ → Action
action_at code x =
    get_or
    (Nothing
    ∷ Resume
    ∷ Suspend
    ∷ Reset
    ∷ UnstallOut
    ∷ UnstallIn
    ∷ StallOut
    ∷ StallIn
    ∷ Halt (record { 0 = x })
    ∷ Unhalt (record { 0 = x })
    ∷ Address (record { 0 = x })
    ∷ Write x
    ∷ Refused x
    ∷ [])
    code
    Nothing

abbrev pub action_in : List ℕ → ℕ → Action
action_in entry i = action_at (slice_index entry i) (slice_index entry (i + 1))

abbrev pub actions_in : List ℕ → Actions
actions_in e = record { first = action_in e 8; second = action_in e 10; third = action_in e 12; fourth = action_in e 14; fifth = action_in e 16 }

unfoldable pub entry_line : ℕ → List ℕ → List ℕ
entry_line n entry = line_of n (state_at (slice_index entry 0)) (actions_in entry) (drop top_room entry)

-- the longest line: 20 digits, a space and a letter, five words of at most 130 bytes, the end
abbrev pub line_room : ℕ
line_room = 673

-- a whole entry's line where there is room for the longest, else nothing
unfoldable pub line_in : ℕ → List ℕ → List ℕ → ℕ → List ℕ
line_in n entry out at = cond (length entry == entry_room && nat_le (at + line_room) (length out)) (entry_line n entry) []

-- ---- the lines of a run

-- numbers of 64 bits: 0 follows the last
abbrev pub after : ℕ → ℕ
after n = (n + 1) % 2 ^ 64

-- the line of what stops a run: of a bad record alone
unfoldable pub stop_line : ℕ → ℕ → List ℕ
stop_line n number = cond (number == 10) (bad_line n) []

-- the line of a step that no number refuses: the state then, what it told the bus, and what it wrote
abbrev pub step_line : ℕ → Result Polled Refusal → Device → List ℕ → List ℕ
step_line n (Ok p) d room = line_of n d.live.kept.state p.actions room
step_line n (Err why) d room = []

-- .. of the event record that it takes
unfoldable pub event_line : Result Happening Refusal → ℕ → Device → List ℕ → List ℕ → List ℕ
event_line (Ok h) n d book s =
    let packet = part head_room h.length s in
    let x = step_of d book h.event packet clean in
    step_line n x.said x.device (room_of d book h.event packet clean)
event_line (Err why) n d book s = []

-- at most k event records, the first numbered n: a line for each; at one that is refused it stops
unfoldable pub told_lines : ℕ → ℕ → Device → List ℕ → List ℕ → List ℕ
told_lines zero n d book events = []
told_lines (suc k) n d book events =
    let s = take event_room events in
    let t = turn d book s in
    cond (t.number == 0) (event_line (known_of s) n d book s ++ told_lines k (after n) t.device book (drop event_room events)) (stop_line n t.number)

-- a bad record's line at its longest: 20 digits and ` ! 10`, the end
abbrev pub bad_room : ℕ
bad_room = 26

-- as many event records as are sure to have room for their lines, with a bad record's
unfoldable pub room_for : ℕ → ℕ
room_for out = (out - bad_room) / line_room

abbrev pub fitting : List ℕ → List ℕ → List ℕ
fitting events out = take (event_room * room_for (length out)) events

-- the same lines from so many trace entries, and of what stopped the run
unfoldable pub lines_of : ℕ → ℕ → List ℕ → ℕ → List ℕ
lines_of zero n trace number = stop_line n number
lines_of (suc k) n trace number = entry_line n (take entry_room trace) ++ lines_of k (after n) (drop entry_room trace) number

-- ---- what the code promises

-- bytes from a place on, every other byte as it was; the answer is the place behind them
pub record Wrote (r : ℕ) (exit bytes entry : List ℕ) (at : ℕ) : Type 0 where
  pub value : r ≡ at + length bytes
  pub out : exit ≡ placed entry at bytes

abbrev pub printed_of : Run → List ℕ → Printed
printed_of x lines = record { count = x.count; written = length lines; stop = stop x.number }

-- a run's trace entries and its lines, each at the front of its room, nothing behind them changed
pub record Printing (r : Printed) (after : Device) (exit₁ exit₂ : List ℕ) (x : Run) (lines entry₁ entry₂ : List ℕ) : Type 0 where
  pub value : r ≡ printed_of x lines
  pub device : after ≡ x.device
  pub trace : exit₁ ≡ placed entry₁ 0 x.bytes
  pub out : exit₂ ≡ placed entry₂ 0 lines

-- the lines of a run through the event records that are sure to have room
abbrev pub lines_for : ℕ → Device → List ℕ → List ℕ → List ℕ → List ℕ
lines_for n d book events trace = told_lines (turns_by (length events) (length trace)) n d book events
