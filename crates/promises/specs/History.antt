-- Histories of a device, and what can be seen of them.
use Rattle.std.specs.Prelude.{ℕ, ◌%◌, Bool, List, [], ◌∷◌, ◌≡◌, length, Option, Some, None, Result, Ok, Err, ⊤}
use Rattle.common.specs.declared.Refusal.{Refusal}
use Rattle.common.specs.Refusals.{unless}
use Rattle.control.specs.declared.EndpointAddress.{EndpointAddress}
use Rattle.requests.specs.Requests.{halted}
use Rattle.effects.specs.declared.Action.{Action}
use Rattle.events.specs.declared.Event.{Event}
use Rattle.actions.specs.Actions.{slots}
use Rattle.device.specs.declared.Device.{Device}
use Rattle.device.specs.declared.Polled.{Polled}
use Rattle.device.specs.Device.{refused_by, unfit_device, data_refused, step_of, room_of, handed_of, handed_room, powered_of}

-- what may outlive a SETUP: device state, remote wakeup, self-powered flag, and the halts of endpoints 1 to 15 (an
-- endpoint's number is its address modulo 16)
pub record Agree (d d' : Device) : Type 0 where
  pub state : d.live.kept.state ≡ d'.live.kept.state
  pub wakeup : d.live.kept.wakeup ≡ d'.live.kept.wakeup
  pub powered : d.live.kept.powered ≡ d'.live.kept.powered
  pub halts : (e : EndpointAddress) → (e.0 % 16 ≡ 0 → ⊥) → halted d.live.kept d.live.pipe e ≡ halted d'.live.kept d'.live.pipe e

-- a moment: an event with the book, the packet and the room lent to it; a setting of the self-powered flag; or data asked for
pub data Moment : Type 0 where
  happens : Event → List ℕ → List ℕ → List ℕ → Moment
  powers : Bool → Moment
  asks : List ℕ → Moment

unfoldable pub after : Device → Moment → Device
after d (happens e book s room) = (step_of d book e s room).device
after d (powers on) = powered_of d on
after d (asks room) = d

-- what a moment lets the owner see: answers, refusals, and every byte of the lent room
pub data Shown : Type 0 where
  stepped : Result Polled Refusal → List ℕ → Shown
  set : Result ⊤ Refusal → Shown
  handed : Result ℕ Refusal → List ℕ → Shown

unfoldable pub shown : Device → Moment → Shown
shown d (happens e book s room) = stepped (step_of d book e s room).said (room_of d book e s room)
shown d (powers on) = set (unless (unfit_device d) tt)
shown d (asks room) = handed (handed_of d (length room)) (handed_room d room)

-- what the bus is told in a step, slot by slot; in a refused one nothing
abbrev pub told_in : Result Polled Refusal → List Action
told_in (Ok p) = slots p.actions
told_in (Err why) = []

-- where a history leads
unfoldable pub ends : Device → List Moment → Device
ends d [] = d
ends d (m ∷ ms) = ends (after d m) ms

-- all that a history shows
unfoldable pub seen : Device → List Moment → List Shown
seen d [] = []
seen d (m ∷ ms) = shown d m ∷ seen (after d m) ms

-- ---- a refused call

-- the number that refuses a moment, or 0
abbrev pub number : Device → Moment → ℕ
number d (happens e book s room) = refused_by d book room
number d (powers on) = unfit_device d
number d (asks room) = data_refused d (length room)

-- the room that is lent to it, the room as it leaves it, and the refusal that it tells
abbrev pub lent : Moment → List ℕ
lent (happens e book s room) = room
lent (powers on) = []
lent (asks room) = room

abbrev pub left : Shown → List ℕ
left (stepped p room) = room
left (set why) = []
left (handed h room) = room

abbrev pub refusal_in : {A : Type 0} → Result A Refusal → Option Refusal
refusal_in (Ok x) = None
refusal_in (Err why) = Some why

abbrev pub why : Shown → Option Refusal
why (stepped p room) = refusal_in p
why (set r) = refusal_in r
why (handed h room) = refusal_in h
