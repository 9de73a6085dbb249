-- After a bus reset only record, book, self-powered flag and what comes later count. Assumes nothing.
use Prim.Native.Nat.{ℕ}
use mathlib.Core.Bool.{Bool, true, false, not}
use mathlib.Core.Path.{◌≡◌, refl, sym, ap, ap₂, ◌∙◌}
use mathlib.Core.List.{List}
use lib.ListN.{length}
use Rattle.common.proofs.Laws.{and-false}
use Rattle.record.specs.declared.Record.{Record}
use Rattle.control_pipe.specs.Stages.{idle, zeros}
use Rattle.requests.specs.declared.State.TheVariants.{Default}
use Rattle.live.specs.declared.Live.{Live}
use Rattle.live.specs.Live.{awake}
use Rattle.effects.specs.declared.Action.TheVariants.{Reset as TellReset}
use Rattle.events.specs.declared.Event.TheVariants.{Reset}
use Rattle.events.specs.Events.{Done, handled, plain, restarted, woken, happens as happens_to}
use Rattle.device.specs.declared.Device.{Device}
use Rattle.device.specs.declared.Stepped.{Stepped}
use Rattle.device.specs.Device.{refused_by, stepped_to}
use Rattle.steady.proofs.Usable.{usable, step-taken}
use Rattle.promises.specs.History.{happens, after}

-- a device that a reset leaves
abbrev restarted_of : Record → Bool → ℕ → Device
restarted_of r powered book =
    record {
      profile = r;
      live = record { pipe = idle; kept = record { state = Default; wakeup = false; powered = powered; halts = 0 }; before = Default; book = book; built = true };
      buffer = zeros;
    }

reset-done : (r : Record) (s book : List ℕ) (l : Live) (b : List ℕ) → handled Reset r s book l b ≡ plain (restarted (woken l)) zeros (not (awake l.kept.state)) TellReset
unfolding handled happens_to
reset-done r s book l b = rw (and-false (not (awake l.kept.state))) refl

-- the device after a reset
reset-device : (d : Device) (book s room : List ℕ) → refused_by d book room ≡ 0 → after d (happens Reset book s room) ≡ restarted_of d.profile d.live.kept.powered (length book)
unfolding after
reset-device d book s room z =
    let u = usable d book room z in
    ap (λ (x : Stepped). x.device) (step-taken d book Reset s room z)
    ∙ (ap (λ (x : Done). (stepped_to d Reset x).device) (reset-done d.profile s book d.live d.buffer)
    ∙ ap₂ {C = Device} (λ (b : Bool) (n : ℕ). record { profile = d.profile; live = record { pipe = idle; kept = record { state = Default; wakeup = false; powered = d.live.kept.powered; halts = 0 }; before = Default; book = n; built = b }; buffer = zeros }) u.built (sym u.same))

-- Two masts of one record and one self-powered flag, whatever they did before, are the same mast after a reset that both took.
pub reset-forgets : (d d' : Device) (book s room : List ℕ) → d.profile ≡ d'.profile → d.live.kept.powered ≡ d'.live.kept.powered → refused_by d book room ≡ 0 → refused_by d' book room ≡ 0
    → after d (happens Reset book s room) ≡ after d' (happens Reset book s room)
reset-forgets d d' book s room p q z z' =
    reset-device d book s room z ∙ (ap₂ (λ (r : Record) (b : Bool). restarted_of r b (length book)) p q ∙ sym (reset-device d' book s room z'))
