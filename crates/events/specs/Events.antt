-- Document 01, module 4, and USB 2.0 section 9.1.1: what one event does to a device that no refusal stands against.
use Rattle.std.specs.Prelude.{ℕ, ◌%◌, Bool, true, false, cond, not, ◌&&◌, List, [], ◌∷◌, ◌++◌, ◌≡◌, eqb}
use Rattle.common.specs.Bytes.{front}
use Rattle.record.specs.declared.Record.{Record}
use Rattle.control_pipe.specs.declared.Pipe.{Pipe}
use Rattle.control_pipe.specs.declared.Told.{Told}
use Rattle.control_pipe.specs.declared.Told.TheVariants.{Nothing as Silence, Unstalls, UnstallsStalls, Stalls, UnstallOut as UnstalledOut, Write as Wrote, Refused as Declined}
use Rattle.control_pipe.specs.Stages.{Move, still, idle, zeros, setup_come, out_come}
use Rattle.requests.specs.declared.State.{State}
use Rattle.requests.specs.declared.State.TheVariants.{Default, Addressed, Configured, Suspend as Suspended}
use Rattle.answers.specs.Answers.{Answer, verdict_of, buffer_of, answer}
use Rattle.live.specs.declared.Live.{Live}
use Rattle.live.specs.Live.{awake}
use Rattle.effects.specs.declared.Action.{Action}
use Rattle.effects.specs.declared.Action.TheVariants.{Nothing as NoAction, Resume as TellResume, Suspend as TellSuspend, Reset as TellReset, UnstallOut, UnstallIn, StallOut, StallIn, Halt, Unhalt, Address, Write as TellWrite, Refused as TellRefused}
use Rattle.effects.specs.declared.Half.{Half}
use Rattle.effects.specs.Effects.{Second, with_pipe, in_state, set_out, ticked, rested}
use Rattle.events.specs.declared.Write.{Write}
use Rattle.events.specs.declared.Write.TheVariants.{Taken, Refused}
use Rattle.events.specs.declared.Arrival.{Arrival}
use Rattle.events.specs.declared.Event.{Event}
use Rattle.events.specs.declared.Event.TheVariants.{Nothing, Reset, Suspend, Resume, Data}
use Rattle.events.specs.declared.Handled.{Handled}

-- ---- the first half: what arrived at endpoint 0

abbrev pub odd : ℕ → Bool
odd mask = eqb (mask % 2) 1

-- SETUP goes before OUT
unfoldable pub arrived : Arrival → List ℕ → Pipe → List ℕ → Move
arrived a s p b = cond (odd a.setup) (setup_come a.read s p b) (cond (odd a.out) (out_come a.read s p b) (still p b))

-- ---- the second half: a complete request is decided at once, else an IN-complete is handled

-- .. once the bytes that it tells stand at the front of the buffer
abbrev pub replied : Answer → ℕ → Bool → Bool → List ℕ → Live → List ℕ → Second
replied a size quirk taken book l b = set_out (verdict_of a) size quirk taken book l (buffer_of a b)

abbrev pub taken_by : Write → Bool
taken_by Taken = true
taken_by Refused = false

-- an IN-complete is handled only if no request came out
unfoldable pub followed : Record → Bool → Bool → Bool → List ℕ → Live → List ℕ → Second
followed r complete tick taken book l b =
    let size = r.plan.basics.packet in
    let quirk = r.plan.basics.quirk in
    cond complete (replied (answer r l.kept l.pipe l.book) size quirk taken book l b)
    (cond tick (ticked size quirk taken book l b) (rested l b))

-- ---- the whole event

-- what an event does: the device then, what the bus is told and in which order, its packet, and the answer
pub record Done : Type 0 where
  pub live : Live
  pub buffer : List ℕ
  pub resumed : Bool
  pub first : Told
  pub act : Action
  pub second : Told
  pub packet : List ℕ
  pub answer : Bool

unfoldable pub data_come : Record → Bool → Arrival → List ℕ → List ℕ → Live → List ℕ → Done
data_come r resumed a s book l b =
    let m = arrived a s l.pipe b in
    let h = followed r m.done (odd a.done) (taken_by a.write) book (with_pipe m.pipe l) m.buffer in
    record { live = h.live; buffer = h.buffer; resumed = resumed; first = m.told; act = h.act; second = h.told; packet = h.packet; answer = true }

-- no packet, and nothing of endpoint 0
abbrev pub plain : Live → List ℕ → Bool → Action → Done
plain l b resumed act = record { live = l; buffer = b; resumed = resumed; first = Silence; act = act; second = Silence; packet = []; answer = false }

abbrev pub remembering : State → Live → Live
remembering s l = record l { before = s }

-- section 9.1.1.6: the state is remembered
abbrev pub suspended : Live → Live
suspended l = remembering l.kept.state (in_state Suspended l)

-- .. and restored; where there is nothing to restore, nothing is remembered
abbrev pub state_after : State → State → State
state_after Default before = Default
state_after Addressed before = Addressed
state_after Configured before = Configured
state_after Suspended before = before

abbrev pub woken : Live → Live
woken l = remembering Default (in_state (state_after l.kept.state l.before) l)

-- section 9.1.1.3: a reset gives Default and empties pipe, wakeup and halts
abbrev pub restarted : Live → Live
restarted l =
    record {
      pipe = idle;
      kept = record { state = Default; wakeup = false; powered = l.kept.powered; halts = 0 };
      before = Default;
      book = l.book;
      built = l.built;
    }

-- an event of a device that is awake; `resumed` if it woke just now
unfoldable pub happens : Event → Record → Bool → List ℕ → List ℕ → Live → List ℕ → Done
happens Nothing r resumed s book l b = plain l b resumed NoAction
happens Reset r resumed s book l b = plain (restarted l) zeros resumed TellReset
happens Suspend r resumed s book l b = plain (suspended l) b resumed TellSuspend
happens Resume r resumed s book l b = plain l b resumed NoAction
happens (Data a) r resumed s book l b = data_come r resumed a s book l b

-- what does nothing in Suspend
abbrev pub dull : Event → Bool
dull Nothing = true
dull Reset = false
dull Suspend = true
dull Resume = false
dull (Data a) = false

-- in Suspend, any other event first resumes and restores the state
unfoldable pub handled : Event → Record → List ℕ → List ℕ → Live → List ℕ → Done
handled e r s book l b =
    cond (not (awake l.kept.state) && dull e) (plain l b false NoAction) (happens e r (not (awake l.kept.state)) s book (woken l) b)

-- ---- what the bus is told, in order

abbrev pub listed : Told → List Action
listed Silence = []
listed Unstalls = UnstallOut ∷ UnstallIn ∷ []
listed UnstallsStalls = UnstallOut ∷ UnstallIn ∷ StallOut ∷ StallIn ∷ []
listed Stalls = StallOut ∷ StallIn ∷ []
listed UnstalledOut = UnstallOut ∷ []
listed (Wrote n) = TellWrite n ∷ []
listed (Declined n) = TellRefused n ∷ []

abbrev pub alone : Action → List Action
alone NoAction = []
alone TellResume = TellResume ∷ []
alone TellSuspend = TellSuspend ∷ []
alone TellReset = TellReset ∷ []
alone UnstallOut = UnstallOut ∷ []
alone UnstallIn = UnstallIn ∷ []
alone StallOut = StallOut ∷ []
alone StallIn = StallIn ∷ []
alone (Halt e) = Halt e ∷ []
alone (Unhalt e) = Unhalt e ∷ []
alone (Address a) = Address a ∷ []
alone (TellWrite n) = TellWrite n ∷ []
alone (TellRefused n) = TellRefused n ∷ []

-- resume, then endpoint 0's SETUP or OUT, then what a request or a status stage does, then its packet or its stall
abbrev pub told_by : Bool → Told → Action → Told → List Action
told_by resumed first act second = cond resumed (TellResume ∷ []) [] ++ (listed first ++ (alone act ++ listed second))

-- ---- what the code promises

abbrev pub handled_of : Done → Handled
handled_of d = record { resumed = d.resumed; first = d.first; act = d.act; second = d.second; answer = d.answer }

-- with no packet, and nothing of endpoint 0
abbrev pub told_plainly : Bool → Action → Handled
told_plainly resumed act = record { resumed = resumed; first = Silence; act = act; second = Silence; answer = false }

-- what is told, the device, its buffer and the room at exit, and the room at entry: of the second half
pub record Followed (r : Half) (after : Live) (exit_buffer exit_room : List ℕ) (h : Second) (entry : List ℕ) : Type 0 where
  pub value : r ≡ record { act = h.act; told = h.told }
  pub live : after ≡ h.live
  pub buffer : exit_buffer ≡ h.buffer
  pub room : exit_room ≡ front h.packet entry

-- .. and of a whole event
pub record Came (r : Handled) (after : Live) (exit_buffer exit_room : List ℕ) (d : Done) (entry : List ℕ) : Type 0 where
  pub value : r ≡ handled_of d
  pub live : after ≡ d.live
  pub buffer : exit_buffer ≡ d.buffer
  pub room : exit_room ≡ front d.packet entry
