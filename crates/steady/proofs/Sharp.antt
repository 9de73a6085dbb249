-- The bounds of the other theorems are reached, and the good state that `keeps` starts from is needed. Assumes nothing.
use Prim.Native.Nat.{ℕ}
use mathlib.Core.Bool.{true, false}
use mathlib.Core.Path.{◌≡◌, refl}
use mathlib.Core.List.{[], ◌∷◌}
use lib.ListN.{length}
use Rattle.common.specs.Bytes.{piece}
use Rattle.control.specs.declared.Direction.TheVariants.{In}
use Rattle.control.specs.declared.RequestType.TheVariants.{Standard}
use Rattle.control.specs.declared.Recipient.TheVariants.{Device}
use Rattle.plan.specs.Planning.{bare}
use Rattle.record.specs.declared.Record.{Record}
use Rattle.record.specs.Filling.{bare as record_of}
use Rattle.control_pipe.specs.declared.Stage.{Stage}
use Rattle.control_pipe.specs.declared.Stage.TheVariants.{Idle, DataIn}
use Rattle.control_pipe.specs.declared.Read.TheVariants.{Packet, Block}
use Rattle.control_pipe.specs.declared.Source.TheVariants.{Buffer}
use Rattle.control_pipe.specs.Stages.{zeros, begin_out, begin_by, begun, setup_come, send_chunk, in_at, in_complete}
use Rattle.requests.specs.declared.State.{State}
use Rattle.requests.specs.declared.State.TheVariants.{Addressed, Suspend}
use Rattle.live.specs.declared.Live.{Live}
use Rattle.live.specs.Live.{book_fine, live_fine}
use Rattle.effects.specs.Effects.{ticked}
use Rattle.events.specs.declared.Write.TheVariants.{Taken}
use Rattle.events.specs.declared.Event.{Event}
use Rattle.events.specs.declared.Event.TheVariants.{Nothing, Data}
use Rattle.events.specs.Events.{arrived, followed, data_come, happens, handled, told_by}
use Rattle.steady.specs.Steady.{writes}

-- a device with an answer of 8 bytes to send, in a state, at a stage and with an address pending
abbrev device : State → Stage → ℕ → Live
device s stage address =
    record {
      pipe = record {
        stage = stage;
        stallout = false;
        stallin = false;
        pending = record { 0 = address };
        request = record { direction = In; kind = Standard; recipient = Device; request = 6; value = 256; index = 0; length = 8 };
        coming = record { awaited = 0; held = 0 };
        reply = record { source = Buffer; start = 0; len = 8; sent = 0 };
      };
      kept = record { state = s; wakeup = false; powered = false; halts = 0 };
      before = Addressed;
      book = 0;
      built = true;
    }

-- a record with packets of 8 bytes
abbrev eight : Record
eight =
    record_of
    (bare
    (record {
      packet = 8;
      class = 0;
      subclass = 0;
      protocol = 0;
      vendor = 0;
      product = 0;
      release = 0;
      power = 0;
      powered = false;
      wakeup = false;
      quirk = false;
    }))

-- an OUT request of 256 bytes, and an IN-complete
abbrev long : Event
long = Data (record { out = 0; done = 0; setup = 1; read = Packet; write = Taken })

abbrev tick : Event
tick = Data (record { out = 0; done = 1; setup = 0; read = Block; write = Taken })

pub five-told : let d = handled long eight (0 ∷ 0 ∷ 0 ∷ 0 ∷ 0 ∷ 0 ∷ 0 ∷ 1 ∷ []) [] (device Suspend Idle 0) zeros in length (told_by d.resumed d.first d.act d.second) ≡ 5
unfolding handled happens data_come arrived setup_come begun begin_by begin_out followed
five-told = refl

pub full-packet : let d = handled tick eight [] [] (device Addressed DataIn 0) zeros in (length d.packet ≡ eight.plan.basics.packet) × (writes (told_by d.resumed d.first d.act d.second) ≡ 1)
unfolding handled happens data_come arrived followed ticked in_complete in_at send_chunk piece writes
full-packet = (refl, refl)

-- an address of 128 that is pending stays
pub good-first : (live_fine (device Addressed Idle 127) ≡ true) × (live_fine (handled Nothing eight [] [] (device Addressed Idle 128) zeros).live ≡ false)
unfolding handled happens live_fine book_fine
good-first = (refl, refl)
