-- Transfers: what a history has sent since its last accepted SETUP, and what that SETUP was owed.
use Rattle.std.specs.Prelude.{ℕ, ◌≤◌, min, Bool, true, false, cond, ◌&&◌, List, [], ◌∷◌, ◌++◌, ◌≡◌, eqb, length, take}
use Rattle.control.specs.Setup.{request_of}
use Rattle.record.specs.declared.Record.{Record}
use Rattle.control_pipe.specs.declared.Read.{Read}
use Rattle.control_pipe.specs.declared.Read.TheVariants.{Packet, Block, Fault}
use Rattle.control_pipe.specs.declared.Stage.TheVariants.{CompleteIn}
use Rattle.control_pipe.specs.Stages.{fresh}
use Rattle.answers.specs.Answers.{Answer, answer, bytes_of}
use Rattle.effects.specs.declared.Action.{Action}
use Rattle.effects.specs.declared.Action.TheVariants.{Nothing as NoAction, Resume as TellResume, Suspend as TellSuspend, Reset as TellReset, UnstallOut, UnstallIn, StallOut, StallIn, Halt, Unhalt, Address, Write, Refused}
use Rattle.events.specs.declared.Event.{Event}
use Rattle.events.specs.declared.Event.TheVariants.{Nothing, Reset, Suspend, Resume, Data}
use Rattle.events.specs.Events.{odd, woken}
use Rattle.device.specs.declared.Device.{Device}
use Rattle.device.specs.Device.{made, refused_by}
use Rattle.promises.specs.History.{Moment, happens, powers, asks, after, Shown, stepped, set, handed, shown, told_in}

-- ---- an accepted SETUP

abbrev pub is_packet : Read → Bool
is_packet Packet = true
is_packet Block = false
is_packet Fault = false

-- a SETUP of endpoint 0 that is read as exactly eight bytes
abbrev pub accepts : Event → List ℕ → Bool
accepts Nothing s = false
accepts Reset s = false
accepts Suspend s = false
accepts Resume s = false
accepts (Data a) s = odd a.setup && (is_packet a.read && eqb (length s) 8)

-- .. in a call that no number refuses
unfoldable pub opens : Device → Moment → Bool
opens d (happens e book s room) = eqb (refused_by d book room) 0 && accepts e s
opens d (powers on) = false
opens d (asks room) = false

-- its own answer, from the record, the book and what outlives a SETUP
abbrev pub answer_to : Device → List ℕ → List ℕ → Answer
answer_to d book s = answer d.profile (woken d.live).kept (fresh CompleteIn (request_of s) 0) (length book)

-- what it is owed: the first min(length, wLength) bytes of that
unfoldable pub owed_by : Device → Moment → List ℕ
owed_by d (happens e book s room) = let bytes = bytes_of (answer_to d book s) book in take (min (length bytes) (request_of s).length) bytes
owed_by d (powers on) = []
owed_by d (asks room) = []

-- ---- what was sent

-- the packet of an action, if the bus took it: it stands at the front of the room
abbrev pub taken_of : List ℕ → Action → List (List ℕ)
taken_of room NoAction = []
taken_of room TellResume = []
taken_of room TellSuspend = []
taken_of room TellReset = []
taken_of room UnstallOut = []
taken_of room UnstallIn = []
taken_of room StallOut = []
taken_of room StallIn = []
taken_of room (Halt e) = []
taken_of room (Unhalt e) = []
taken_of room (Address a) = []
taken_of room (Write n) = take n room ∷ []
taken_of room (Refused n) = []

unfoldable pub packets : List ℕ → List Action → List (List ℕ)
packets room [] = []
packets room (a ∷ l) = taken_of room a ++ packets room l

-- the packets that a moment sends
unfoldable pub gone : Shown → List (List ℕ)
gone (stepped p room) = packets room (told_in p)
gone (set why) = []
gone (handed h room) = []

unfoldable pub joined : List (List ℕ) → List ℕ
joined [] = []
joined (p ∷ ps) = p ++ joined ps

-- ---- along a history

pub record Log : Type 0 where
  pub device : Device
  pub owed : List ℕ
  pub sent : List (List ℕ)

-- an accepted SETUP begins anew
unfoldable pub next : Log → Moment → Log
next g m =
    let d = g.device in
    let more = gone (shown d m) in
    cond (opens d m) (record { device = after d m; owed = owed_by d m; sent = more }) (record { device = after d m; owed = g.owed; sent = g.sent ++ more })

unfoldable pub follow : Log → List Moment → Log
follow g [] = g
follow g (m ∷ ms) = follow (next g m) ms

-- one book lent throughout
abbrev pub Lends : List ℕ → List Moment → Type 0
Lends book [] = Unit {0}
Lends book (happens e b s room ∷ ms) = (b ≡ book) × Lends book ms
Lends book (powers on ∷ ms) = Lends book ms
Lends book (asks room ∷ ms) = Lends book ms

-- a device as building leaves it, with nothing sent
abbrev pub begin : Record → ℕ → Log
begin r n = record { device = made r n; owed = []; sent = [] }

-- ---- packets of a bounded length

-- how long the packet of an action is, taken or refused
abbrev pub length_of : Action → ℕ
length_of NoAction = 0
length_of TellResume = 0
length_of TellSuspend = 0
length_of TellReset = 0
length_of UnstallOut = 0
length_of UnstallIn = 0
length_of StallOut = 0
length_of StallIn = 0
length_of (Halt e) = 0
length_of (Unhalt e) = 0
length_of (Address a) = 0
length_of (Write n) = n
length_of (Refused n) = n

abbrev pub All : (Action → Type 0) → List Action → Type 0
All P [] = Unit {0}
All P (a ∷ l) = P a × All P l

-- no packet of a moment is longer
abbrev pub Within : ℕ → Shown → Type 0
Within size (stepped p room) = All (λ a. length_of a ≤ size) (told_in p)
Within size (set why) = Unit {0}
Within size (handed h room) = Unit {0}

abbrev pub Bounded : ℕ → List Shown → Type 0
Bounded size [] = Unit {0}
Bounded size (x ∷ l) = Within size x × Bounded size l
