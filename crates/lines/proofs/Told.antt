-- The line of a trace entry is the line of its step (`line_reads`), and the lines of a run's trace are those of its steps
-- (`run-lines`). Assumes nothing.
use Rattle.std.proofs.Common.{◌≡◌, ℕ, zero, suc, ◌+◌, ◌*◌, ◌/◌, ◌%◌, ◌<◌, ◌≤◌, min, Bool, true, false, cond, eqb, List, ◌++◌, length, take, drop, sym, refl, ap, ◌∙◌, ap₂, append_assoc, zero-add, add-one, arith, length-take, take_at, drop_at, eqb-true}
use borrow.Author.Tests.{eqb-false}
use Rattle.common.specs.Bytes.{part, placed}
use Rattle.std.specs.Prelude.{Result, Ok, Err, None}
use Rattle.common.specs.Refusals.{number_of, refusal, stop}
use Rattle.common.specs.declared.Refusal.{Refusal}
use Rattle.common.proofs.Laws.{cond-elim, placed-nil}
use Rattle.requests.specs.declared.State.{State}
use Rattle.requests.specs.declared.State.TheVariants.{Default, Addressed, Configured, Suspend as Suspended}
use Rattle.effects.specs.declared.Action.{Action}
use Rattle.effects.specs.declared.Action.TheVariants.{Nothing, Resume, Suspend, Reset, UnstallOut, UnstallIn, StallOut, StallIn, Halt, Unhalt, Address, Write, Refused}
use Rattle.device.specs.declared.Device.{Device}
use Rattle.device.specs.declared.Polled.{Polled}
use Rattle.device.specs.Device.{step_of, room_of}
use Rattle.records.specs.declared.Happening.{Happening}
use Rattle.records.specs.Records.{known_of}
use Rattle.records.specs.Sizes.{event_room, head_room}
use Rattle.requests.specs.Codes.{state_code}
use Rattle.stream.specs.Trace.{entry_room, action_code, argument_of, entry_of}
use Rattle.stream.specs.Stream.{Run, Running, clean, turn_of, turned, turn_by, turn, stop_number, runs, turns_by, run_of}
use Rattle.stream.specs.declared.Ran.{Ran}
use Rattle.stream.proofs.Laws.{sound}
use Rattle.lines.specs.Lines.{line_of}
use Rattle.lines.specs.Entries.{Wrote, Printing, state_at, action_at, entry_line, after, stop_line, step_line, event_line, told_lines, lines_of, room_for, fitting, lines_for, line_room, bad_room}
use Rattle.lines.specs.declared.Printed.{Printed}

state-reads : (s : State) → state_at (state_code s) ≡ s
state-reads Default = refl
state-reads Addressed = refl
state-reads Configured = refl
state-reads Suspended = refl

action-reads : (a : Action) → action_at (action_code a) (argument_of a) ≡ a
unfolding action_at
action-reads Nothing = refl
action-reads Resume = refl
action-reads Suspend = refl
action-reads Reset = refl
action-reads UnstallOut = refl
action-reads UnstallIn = refl
action-reads StallOut = refl
action-reads StallIn = refl
action-reads (Halt e) = refl
action-reads (Unhalt e) = refl
action-reads (Address a) = refl
action-reads (Write n) = refl
action-reads (Refused n) = refl

pub line_reads : (n : ℕ) (s : State) (p : Polled) (room : List ℕ) → entry_line n (entry_of s p room) ≡ line_of n s p.actions room
unfolding entry_line
line_reads n s p room =
    let a = p.actions in
    rw (state-reads s, action-reads a.first, action-reads a.second, action-reads a.third, action-reads a.fourth, action-reads a.fifth) refl

-- of a step, and of an event record that is taken
step-reads : (n : ℕ) (r : Result Polled Refusal) (d : Device) (room : List ℕ) → length (turn_of r d room).entry ≡ entry_room → entry_line n (turn_of r d room).entry ≡ step_line n r d room
unfolding turn_of
step-reads n (Ok p) d room l = line_reads n d.live.kept.state p room
step-reads n (Err why) d room l = absurd (let x : ◌≡◌ {A = ℕ} 0 82 = l in omega (arith, x))

turn-reads : (n : ℕ) (d : Device) (book s : List ℕ) → (turn d book s).number ≡ 0 → entry_line n (turn d book s).entry ≡ event_line (known_of s) n d book s
unfolding turn_by turned event_line
turn-reads n d book s e = by (known_of s) ((sound d book s).long e)
  where
    by : (k : Result Happening Refusal) → length (turn_by k d book s).entry ≡ entry_room → entry_line n (turn_by k d book s).entry ≡ event_line k n d book s
    by (Err why) l = absurd (let x : ◌≡◌ {A = ℕ} 0 82 = l in omega (arith, x))
    by (Ok h) l =
        let packet = part head_room h.length s in
        let x = step_of d book h.event packet clean in
        step-reads n x.said x.device (room_of d book h.event packet clean) l

-- whatever stands behind the entries
pub run-lines : (k n : ℕ) (d : Device) (book events rest : List ℕ) → lines_of (runs k d book events).count n ((runs k d book events).bytes ++ rest) (runs k d book events).number ≡ told_lines k n d book events
unfolding runs lines_of told_lines stop_line
run-lines zero n d book events rest = refl
run-lines (suc k) n d book events rest =
    let t = turn d book (take event_room events) in
    by (run-lines k (after n) t.device book (drop event_room events) rest) (eqb t.number 0) refl
  where
    by : lines_of (runs k (turn d book (take event_room events)).device book (drop event_room events)).count (after n) ((runs k (turn d book (take event_room events)).device book (drop event_room events)).bytes ++ rest) (runs k (turn d book (take event_room events)).device book (drop event_room events)).number ≡ told_lines k (after n) (turn d book (take event_room events)).device book (drop event_room events)
        → (b : Bool) → eqb (turn d book (take event_room events)).number 0 ≡ b → lines_of (runs (suc k) d book events).count n ((runs (suc k) d book events).bytes ++ rest) (runs (suc k) d book events).number ≡ told_lines (suc k) n d book events
    by x true z =
        let t = turn d book (take event_room events) in
        let e : t.number ≡ 0 = eqb-true t.number 0 z in
        let r = runs k t.device book (drop event_room events) in
        let l = (sound d book (take event_room events)).long e in
        let a = append_assoc t.entry r.bytes rest in
        rw (z, add-one r.count, a, take_at t.entry (r.bytes ++ rest) entry_room l, drop_at t.entry (r.bytes ++ rest) entry_room l)
        (ap₂ (λ (x y : List ℕ). x ++ y) (turn-reads n d book (take event_room events) e) x)
    by x false z = rw z refl

-- ---- how many event records a run takes

pub count_most : (k : ℕ) (d : Device) (book events : List ℕ) → (runs k d book events).count ≤ k
unfolding runs
count_most zero d book events = omega arith
count_most (suc k) d book events =
    let t = turn d book (take event_room events) in
    let l = count_most k t.device book (drop event_room events) in
    cond-elim (λ (x : Run). x.count ≤ suc k) (eqb t.number 0) _ _ (λ e. omega (arith, l)) (λ e. omega arith)

pub turns-most : (e t r : ℕ) → e ≤ event_room * r → (entry_room * turns_by e t ≤ t) × (turns_by e t ≤ r)
unfolding turns_by
turns-most e t r l = by (eqb (e % event_room) 0) refl
  where
    by : (b : Bool) → eqb (e % event_room) 0 ≡ b → (entry_room * min (t / entry_room) (e / event_room + cond b 0 1) ≤ t) × (min (t / entry_room) (e / event_room + cond b 0 1) ≤ r)
    by true z = (omega arith, omega arith)
    by false z = let n : e % event_room ≡ 0 → ⊥ = eqb-false (e % event_room) 0 z in (omega arith, omega arith)

-- the number that stops a run is one of the table's, and that of what the run tells
pub run-number : (k : ℕ) (d : Device) (book events : List ℕ) → ((runs k d book events).number ≡ 0 → ⊥) → number_of (refusal (runs k d book events).number) ≡ (runs k d book events).number
unfolding runs
run-number zero d book events = λ z. absurd (z refl)
run-number (suc k) d book events =
    let t = turn d book (take event_room events) in
    cond-elim (λ (x : Run). (x.number ≡ 0 → ⊥) → number_of (refusal x.number) ≡ x.number) (eqb t.number 0) _ _ (λ e. run-number k t.device book (drop event_room events)) (λ e. (sound d book (take event_room events)).number)

run-stop : (n : ℕ) → ((n ≡ 0 → ⊥) → number_of (refusal n) ≡ n) → stop_number (stop n) ≡ n
run-stop n e = by (eqb n 0) refl
  where
    by : (b : Bool) → eqb n 0 ≡ b → stop_number (stop n) ≡ n
    by true z = rw z (sym (eqb-true n 0 z))
    by false z = rw z (e (eqb-false n 0 z))

-- ---- a run and its lines, from what the calls ensure

module _ (n : ℕ) (d : Device) (book events trace out : List ℕ) where
  abbrev ev : List ℕ
  ev = fitting events out

  -- there is no room for a bad record's line: nothing is run
  pub print-none : length out < bad_room → Printing (record { count = 0; written = 0; stop = None }) d trace out (run_of d book ev trace) (lines_for n d book ev trace) trace out
  unfolding run_of turns_by runs told_lines room_for
  print-none l =
      let z : room_for (length out) ≡ 0 = omega (arith, l) in
      let t : min (length trace / entry_room) 0 ≡ 0 = omega arith in
      rw (z, t) (record { value = refl; device = refl; trace = sym (placed-nil trace 0); out = sym (placed-nil out 0) })

  pub print-room : {x : Ran} {a : Device} {t : List ℕ} → Running x a t (run_of d book ev trace) trace → bad_room ≤ length out → length t ≡ length trace
      → (entry_room * x.count ≤ length t) × (line_room * x.count + bad_room ≤ length out)
  unfolding run_of room_for
  print-room {x} {a} {t} r l m =
      let k = turns_by (length ev) (length trace) in
      let e : x.count ≡ (runs k d book ev).count = ap (λ (y : Ran). y.count) r.value in
      let c = count_most k d book ev in
      let o : length ev ≤ event_room * room_for (length out) = rw (length-take (event_room * room_for (length out)) events) (omega arith) in
      let b = turns-most (length ev) (length trace) (room_for (length out)) o in
      (omega (arith, e, c, b.0, m), omega (arith, e, c, b.1, l))

  pub print-done : {x : Ran} {a : Device} {t o : List ℕ} {w : ℕ} → Running x a t (run_of d book ev trace) trace → Wrote w o (lines_of x.count n t (stop_number x.stop)) out 0
      → Printing (record { count = x.count; written = w; stop = x.stop }) a t o (run_of d book ev trace) (lines_for n d book ev trace) trace out
  unfolding run_of placed
  print-done {x} {a} {t} {o} {w} r f =
      let m = turns_by (length ev) (length trace) in
      let y = runs m d book ev in
      let num : stop_number x.stop ≡ y.number = ap (λ (z : Ran). stop_number z.stop) r.value ∙ run-stop y.number (run-number m d book ev) in
      let cnt : x.count ≡ y.count = ap (λ (z : Ran). z.count) r.value in
      let same : lines_of x.count n t (stop_number x.stop) ≡ told_lines m n d book ev =
      ap₂ (λ (c j : ℕ). lines_of c n t j) cnt num ∙ (ap (λ (z : List ℕ). lines_of y.count n z y.number) r.trace ∙ run-lines m n d book ev (drop (0 + length y.bytes) trace)) in
      let len : w ≡ length (told_lines m n d book ev) = f.value ∙ (zero-add _ ∙ ap length same) in
      record {
        value = ap₂ {C = Printed} (λ (z : Ran) (v : ℕ). record { count = z.count; written = v; stop = z.stop }) r.value len;
        device = r.device;
        trace = r.trace;
        out = f.out ∙ ap (λ (z : List ℕ). placed out 0 z) same;
      }
