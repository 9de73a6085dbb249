-- Addresses: which request a history remembers, and which address it names.
use Rattle.std.specs.Prelude.{ℕ, Bool, true, false, cond, List, [], ◌∷◌, ◌≡◌, eqb, Option, Some, None}
use Rattle.control.specs.declared.BusAddress.{BusAddress}
use Rattle.control.specs.declared.Direction.TheVariants.{Out}
use Rattle.control.specs.declared.RequestType.TheVariants.{Standard}
use Rattle.control.specs.declared.Recipient.TheVariants.{Device as OfDevice}
use Rattle.control.specs.declared.Request.{Request}
use Rattle.control.specs.Setup.{request_of}
use Rattle.record.specs.declared.Record.{Record}
use Rattle.control_pipe.specs.declared.Stage.TheVariants.{Idle, StatusIn}
use Rattle.effects.specs.declared.Action.{Action}
use Rattle.effects.specs.declared.Action.TheVariants.{Nothing as NoAction, Resume as TellResume, Suspend as TellSuspend, Reset as TellReset, UnstallOut, UnstallIn, StallOut, StallIn, Halt, Unhalt, Address, Write, Refused}
use Rattle.events.specs.declared.Event.{Event}
use Rattle.events.specs.declared.Event.TheVariants.{Nothing, Reset, Suspend, Resume, Data}
use Rattle.events.specs.Events.{odd, arrived}
use Rattle.device.specs.declared.Device.{Device}
use Rattle.device.specs.Device.{made, refused_by}
use Rattle.promises.specs.History.{Moment, happens, powers, asks, after, Shown, stepped, set, handed, told_in}
use Rattle.promises.specs.Transfers.{accepts, All}

-- ---- the request of the last accepted SETUP, if no reset came after it

abbrev pub resets : Event → Bool
resets Nothing = false
resets Reset = true
resets Suspend = false
resets Resume = false
resets (Data a) = false

unfoldable pub last_by : Event → List ℕ → Option Request → Option Request
last_by e s last = cond (accepts e s) (Some (request_of s)) (cond (resets e) None last)

-- a refused call is no event
unfoldable pub last_after : Device → Option Request → Moment → Option Request
last_after d last (happens e book s room) = cond (eqb (refused_by d book room) 0) (last_by e s last) last
last_after d last (powers on) = last
last_after d last (asks room) = last

pub record Tale : Type 0 where
  pub device : Device
  pub last : Option Request

abbrev pub further : Tale → Moment → Tale
further t m = record { device = after t.device m; last = last_after t.device t.last m }

unfoldable pub tale : Tale → List Moment → Tale
tale t [] = t
tale t (m ∷ ms) = tale (further t m) ms

abbrev pub opening : Record → ℕ → Tale
opening r n = record { device = made r n; last = None }

-- ---- SET_ADDRESS (section 9.4.6): the request that names an address

pub record Names (q : Request) (a : BusAddress) : Type 0 where
  pub direction : q.direction ≡ Out
  pub kind : q.kind ≡ Standard
  pub recipient : q.recipient ≡ OfDevice
  pub code : q.request ≡ 5
  pub value : q.value ≡ a.0

abbrev pub Named : Option Request → BusAddress → Type 0
Named None a = ⊥
Named (Some q) a = Names q a

-- ---- what is claimed of the address actions of a moment

abbrev pub Acts : (BusAddress → Type 0) → Action → Type 0
Acts P NoAction = Unit {0}
Acts P TellResume = Unit {0}
Acts P TellSuspend = Unit {0}
Acts P TellReset = Unit {0}
Acts P UnstallOut = Unit {0}
Acts P UnstallIn = Unit {0}
Acts P StallOut = Unit {0}
Acts P StallIn = Unit {0}
Acts P (Halt e) = Unit {0}
Acts P (Unhalt e) = Unit {0}
Acts P (Address a) = P a
Acts P (Write n) = Unit {0}
Acts P (Refused n) = Unit {0}

abbrev pub Addresses : (BusAddress → Type 0) → Shown → Type 0
Addresses P (stepped p room) = All (Acts P) (told_in p)
Addresses P (set why) = Unit {0}
Addresses P (handed h room) = Unit {0}

-- an IN-complete of endpoint 0
abbrev pub tick_of : Event → Bool
tick_of Nothing = false
tick_of Reset = false
tick_of Suspend = false
tick_of Resume = false
tick_of (Data a) = odd a.done

abbrev pub ticks : Moment → Bool
ticks (happens e book s room) = tick_of e
ticks (powers on) = false
ticks (asks room) = false

-- the status stage of an OUT request completes
abbrev pub Completed : Device → Moment → Type 0
Completed d m = (d.live.pipe.stage ≡ StatusIn) × ((ticks m ≡ true) × ((after d m).live.pipe.stage ≡ Idle))

-- a request is complete, and decided at once
abbrev pub decided_by : Event → List ℕ → Device → Bool
decided_by Nothing s d = false
decided_by Reset s d = false
decided_by Suspend s d = false
decided_by Resume s d = false
decided_by (Data a) s d = (arrived a s d.live.pipe d.buffer).done

abbrev pub decides : Device → Moment → Bool
decides d (happens e book s room) = decided_by e s d
decides d (powers on) = false
decides d (asks room) = false
