-- Document 01, module 4, and USB 2.0 section 9.4: what a decided request does to the device, and what an IN-complete does.
use Rattle.std.specs.Prelude.{ℕ, ◌-◌, ◌%◌, Bool, true, false, cond, not, ◌&&◌, List, [], ◌≡◌, eqb, ltb, Option, Some, None}
use Rattle.common.specs.Bytes.{front}
use Rattle.control.specs.declared.BusAddress.{BusAddress}
use Rattle.control.specs.declared.EndpointAddress.{EndpointAddress}
use Rattle.control_pipe.specs.declared.Pipe.{Pipe}
use Rattle.control_pipe.specs.declared.Source.TheVariants.{Buffer, Book}
use Rattle.control_pipe.specs.declared.Told.{Told}
use Rattle.control_pipe.specs.declared.Told.TheVariants.{Nothing as Silence}
use Rattle.control_pipe.specs.Stages.{Move, stalled, in_complete, accept_in, accept_out}
use Rattle.requests.specs.declared.State.{State}
use Rattle.requests.specs.declared.State.TheVariants.{Addressed}
use Rattle.requests.specs.declared.Kept.{Kept}
use Rattle.requests.specs.declared.Effect.{Effect}
use Rattle.requests.specs.declared.Effect.TheVariants.{Nothing as NoEffect, Wakeup, Halt as HaltIt, Unhalt as UnhaltIt, Address as TakeAddress, Turn}
use Rattle.requests.specs.Requests.{with_halt}
use Rattle.answers.specs.declared.Verdict.{Verdict}
use Rattle.answers.specs.declared.Verdict.TheVariants.{Bytes, Tiles, Accept}
use Rattle.live.specs.declared.Live.{Live}
use Rattle.effects.specs.declared.Action.{Action}
use Rattle.effects.specs.declared.Action.TheVariants.{Nothing as NoAction, Halt, Unhalt, Address}
use Rattle.effects.specs.declared.Half.{Half}

-- ---- makers: a device with one thing changed

abbrev pub with_pipe : Pipe → Live → Live
with_pipe p l = record l { pipe = p }

abbrev pub with_kept : Kept → Live → Live
with_kept k l = record l { kept = k }

abbrev pub in_state : State → Live → Live
in_state s l = with_kept (record l.kept { state = s }) l

abbrev pub stalling : Bool → Bool → Pipe → Pipe
stalling out back p = record p { stallout = out; stallin = back }

abbrev pub with_pending : BusAddress → Pipe → Pipe
with_pending a p = record p { pending = a }

-- ---- half an event

-- what half an event does
pub record Second : Type 0 where
  pub live : Live
  pub buffer : List ℕ
  pub act : Action
  pub told : Told
  pub packet : List ℕ

abbrev pub turned : Move → Action → Live → Second
turned m act l = record { live = with_pipe m.pipe l; buffer = m.buffer; act = act; told = m.told; packet = m.packet }

-- sections 9.4.1 and 9.4.9: a halt of endpoint 0 is a stall of the pipe, any other is kept
abbrev pub halting : EndpointAddress → Bool → Live → Live
halting e on l =
    cond (eqb (e.0 % 16) 0)
    (cond (ltb e.0 128) (with_pipe (stalling on l.pipe.stallin l.pipe) l) (with_pipe (stalling l.pipe.stallout on l.pipe) l))
    (with_kept (with_halt e on l.kept) l)

-- section 9.4.6: the address is taken when the status stage completes; with the quirk when the request is decided
abbrev pub awaiting : BusAddress → Bool → Live → Live
awaiting a quirk l = cond quirk (in_state Addressed l) (with_pipe (with_pending a l.pipe) l)

abbrev pub effected : Effect → Bool → Live → Live
effected NoEffect quirk l = l
effected (Wakeup on) quirk l = with_kept (record l.kept { wakeup = on }) l
effected (HaltIt e) quirk l = halting e true l
effected (UnhaltIt e) quirk l = halting e false l
effected (TakeAddress a) quirk l = awaiting a quirk l
effected (Turn s) quirk l = in_state s l

-- what the bus is told of an effect
abbrev pub action_of : Effect → Bool → Action
action_of NoEffect quirk = NoAction
action_of (Wakeup on) quirk = NoAction
action_of (HaltIt e) quirk = Halt e
action_of (UnhaltIt e) quirk = Unhalt e
action_of (TakeAddress a) quirk = cond quirk (Address a) NoAction
action_of (Turn s) quirk = NoAction

-- an OUT request is accepted: its effect, and the status
abbrev pub accepted : Effect → Bool → Bool → Live → List ℕ → Second
accepted e quirk taken l b = let k = effected e quirk l in turned (accept_out taken k.pipe b) (action_of e quirk) k

-- an answer sets out: a stall, the first packet of the buffer's or the book's bytes, or the status
unfoldable pub set_out : Option Verdict → ℕ → Bool → Bool → List ℕ → Live → List ℕ → Second
set_out None size quirk taken book l b = turned (stalled l.pipe b) NoAction l
set_out (Some (Bytes n)) size quirk taken book l b = turned (accept_in Buffer 0 n size taken book l.pipe b) NoAction l
set_out (Some (Tiles start)) size quirk taken book l b = turned (accept_in Book start (l.book - start) size taken book l.pipe b) NoAction l
set_out (Some (Accept e)) size quirk taken book l b = accepted e quirk taken l b

-- a pending address is taken
abbrev pub addressed : Pipe → Told → List ℕ → List ℕ → Live → Second
addressed p told packet b l =
    record { live = in_state Addressed (with_pipe (with_pending (record { 0 = 0 }) p) l); buffer = b; act = Address p.pending; told = told; packet = packet }

-- an IN-complete; where it completes a status stage, a pending address is taken
unfoldable pub ticked : ℕ → Bool → Bool → List ℕ → Live → List ℕ → Second
ticked size quirk taken book l b =
    let m = in_complete size taken book l.pipe b in
    cond (m.done && not quirk && not (eqb m.pipe.pending.0 0)) (addressed m.pipe m.told m.packet m.buffer l) (turned m NoAction l)

abbrev pub rested : Live → List ℕ → Second
rested l b = record { live = l; buffer = b; act = NoAction; told = Silence; packet = [] }

-- ---- what the code promises

-- what is told, the device and the room at exit, and the room at entry, of half an event
pub record Halved (r : Half) (after : Live) (exit : List ℕ) (h : Second) (entry : List ℕ) : Type 0 where
  pub value : r ≡ record { act = h.act; told = h.told }
  pub live : after ≡ h.live
  pub room : exit ≡ front h.packet entry
