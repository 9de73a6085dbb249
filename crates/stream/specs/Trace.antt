-- The trace of a run: an entry of 82 bytes for each event. State, answer, the masks setup, out and in (little-endian), five
-- actions as a code and an argument, then the packet that was written, zero-filled to 64.
use Rattle.std.specs.Prelude.{ℕ, ◌/◌, ◌%◌, cond, List, [], ◌∷◌, ◌++◌}
pub use Rattle.control.specs.Setup.{word_bytes}
use Rattle.requests.specs.declared.State.{State}
use Rattle.requests.specs.Codes.{state_code}
use Rattle.effects.specs.declared.Action.{Action}
use Rattle.effects.specs.declared.Action.TheVariants.{Nothing, Resume, Suspend, Reset, UnstallOut, UnstallIn, StallOut, StallIn, Halt, Unhalt, Address, Write, Refused}
use Rattle.actions.specs.declared.Actions.{Actions}
use Rattle.device.specs.declared.Polled.{Polled}

abbrev pub entry_room : ℕ
entry_room = 82

abbrev pub top_room : ℕ
top_room = 18

abbrev pub action_code : Action → ℕ
action_code Nothing = 0
action_code Resume = 1
action_code Suspend = 2
action_code Reset = 3
action_code UnstallOut = 4
action_code UnstallIn = 5
action_code StallOut = 6
action_code StallIn = 7
action_code (Halt e) = 8
action_code (Unhalt e) = 9
action_code (Address a) = 10
action_code (Write n) = 11
action_code (Refused n) = 12

-- an endpoint's or a bus address, or the packet's length
abbrev pub argument_of : Action → ℕ
argument_of Nothing = 0
argument_of Resume = 0
argument_of Suspend = 0
argument_of Reset = 0
argument_of UnstallOut = 0
argument_of UnstallIn = 0
argument_of StallOut = 0
argument_of StallIn = 0
argument_of (Halt e) = e.0
argument_of (Unhalt e) = e.0
argument_of (Address a) = a.0
argument_of (Write n) = n
argument_of (Refused n) = n

abbrev pub action_bytes : Action → List ℕ
action_bytes a = action_code a ∷ argument_of a ∷ []

abbrev pub actions_bytes : Actions → List ℕ
actions_bytes a = action_bytes a.first ++ action_bytes a.second ++ action_bytes a.third ++ action_bytes a.fourth ++ action_bytes a.fifth

-- the state's code: D A C S
abbrev pub top_bytes : State → Polled → List ℕ
top_bytes s p = state_code s ∷ cond p.answer 1 0 ∷ (word_bytes p.masks.setup ++ word_bytes p.masks.out ++ word_bytes p.masks.done ++ actions_bytes p.actions)

-- an entry, from the state after a step, what the step said, and a room of 64 zero bytes as the step left it
abbrev pub entry_of : State → Polled → List ℕ → List ℕ
entry_of s p room = top_bytes s p ++ room
