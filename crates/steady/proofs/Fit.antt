-- No call leaves a device that refusal 9 names, from any that it does not name. Assumes nothing.
use Prim.Native.Nat.{ℕ}
use mathlib.Core.Bool.{Bool, true, false, cond, ◌&&◌}
use mathlib.Core.Path.{◌≡◌, refl}
use mathlib.Core.List.{List}
use native.Mathlib.Omega.{arith}
use lib.Dec.{eqb}
use Rattle.common.proofs.Laws.{cond-elim}
use Rattle.limits.specs.Limits.{lowest}
use Rattle.live.specs.Live.{live_fine, unfit}
use Rattle.events.specs.declared.Event.{Event}
use Rattle.device.specs.declared.Device.{Device}
use Rattle.device.specs.declared.Stepped.{Stepped}
use Rattle.device.specs.Device.{refused_by, unfit_device, step_of, powered_of}
use Rattle.steady.proofs.Keeps.{keeps}

pub both : (x y : Bool) → ◌≡◌ {A = ℕ} (cond (x && y) 0 9) 0 → (x ≡ true) × (y ≡ true)
both true true e = (refl, refl)
both true false e = absurd (omega arith)
both false y e = absurd (omega arith)

-- a step: a state that may be used is followed by one that may be used
pub step-fit : (d : Device) (book : List ℕ) (e : Event) (s room : List ℕ) → unfit_device d ≡ 0 → unfit_device (step_of d book e s room).device ≡ 0
unfolding step_of unfit
step-fit d book e s room z =
    let f = both (live_fine d.live) (eqb (lowest d.profile) 0) z in
    cond-elim (λ (x : Stepped). unfit_device x.device ≡ 0) (eqb (refused_by d book room) 0) _ _
    (λ k. rw (keeps e d.profile s book d.live d.buffer f.0, f.1) refl)
    (λ k. z)

-- the flag: the same
pub flag-fit : (d : Device) (on : Bool) → unfit_device d ≡ 0 → unfit_device (powered_of d on) ≡ 0
unfolding powered_of unfit live_fine
flag-fit d on z = cond-elim (λ (x : Device). unfit_device x ≡ 0) (eqb (unfit_device d) 0) _ _ (λ k. z) (λ k. z)
