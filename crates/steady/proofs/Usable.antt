-- What a step that no number refuses tells of its device, and that no number refuses the next with that book either. Assumes nothing.
use Prim.Native.Nat.{ℕ, ◌≤◌}
use mathlib.Core.Bool.{Bool, true, false, cond, ◌&&◌}
use mathlib.Core.Path.{◌≡◌, refl, sym, ap, ◌∙◌}
use mathlib.Core.List.{List}
use native.Mathlib.Omega.{arith}
use borrow.Author.Tests.{eq-eqb, le-leb, eqb-true, leb-true}
use lib.Dec.{eqb, leb}
use lib.ListN.{length}
use Rattle.common.proofs.Laws.{and_left, and_right}
use Rattle.limits.specs.Limits.{lowest}
use Rattle.live.specs.Live.{book_fine, state_fine, pipe_fine, live_fine, unfit, step_refusal}
use Rattle.events.specs.declared.Event.{Event}
use Rattle.device.specs.declared.Device.{Device}
use Rattle.device.specs.declared.Stepped.{Stepped}
use Rattle.device.specs.Device.{refused_by, unfit_device, step_of, stepped_to, done}
use Rattle.steady.proofs.Kept.{kept-book}
use Rattle.steady.proofs.Fit.{both, step-fit}

three : (a b c : Bool) → ◌≡◌ {A = ℕ} (cond a (cond b (cond c 0 6) 5) 9) 0 → (a ≡ true) × ((b ≡ true) × (c ≡ true))
three true true true e = (refl, (refl, refl))
three true true false e = absurd (omega arith)
three true false c e = absurd (omega arith)
three false b c e = absurd (omega arith)

-- what a step that no number refuses tells of its device
pub record Usable (d : Device) (book lent : List ℕ) : Type 0 where
  pub fit : unfit_device d ≡ 0
  pub built : d.live.built ≡ true
  pub same : length book ≡ d.live.book
  pub pipe : pipe_fine d.live.pipe d.live.book ≡ true
  pub room : d.profile.plan.basics.packet ≤ length lent

pub usable : (d : Device) (book room : List ℕ) → refused_by d book room ≡ 0 → Usable d book room
unfolding step_refusal unfit live_fine
usable d book room z =
    let l = d.live in
    let r = d.profile in
    let fit = unfit r l in
    let t = three (eqb fit 0) (eqb (length book) l.book) (leb r.plan.basics.packet (length room)) z in
    let f : live_fine l ≡ true = (both (live_fine l) (eqb (lowest r) 0) (eqb-true fit 0 t.0)).0 in
    let a = and_left (l.built && book_fine l.book && state_fine l.kept.state l.before) (pipe_fine l.pipe l.book) f in
    let b = and_left (l.built && book_fine l.book) (state_fine l.kept.state l.before) a in
    record {
      fit = eqb-true fit 0 t.0;
      built = and_left l.built (book_fine l.book) b;
      same = eqb-true (length book) l.book t.1.0;
      pipe = and_right (l.built && book_fine l.book && state_fine l.kept.state l.before) (pipe_fine l.pipe l.book) f;
      room = leb-true r.plan.basics.packet (length room) t.1.1;
    }

-- a step that no number refuses is what its event does
pub step-taken : (d : Device) (book : List ℕ) (e : Event) (s room : List ℕ) → refused_by d book room ≡ 0 → step_of d book e s room ≡ stepped_to d e (done d book e s)
unfolding step_of
step-taken d book e s room z = rw z refl

-- a device that may be stepped with its book
pub record Ready (book : List ℕ) (d : Device) : Type 0 where
  pub fit : unfit_device d ≡ 0
  pub same : length book ≡ d.live.book

pub ready-taken : (d : Device) (book room : List ℕ) → Ready book d → d.profile.plan.basics.packet ≤ length room → refused_by d book room ≡ 0
unfolding step_refusal
ready-taken d book room f l = rw (f.fit, f.same, le-leb d.profile.plan.basics.packet (length room) l) (simp eq-eqb)

pub ready-after : (d : Device) (book : List ℕ) (e : Event) (s room : List ℕ) → Ready book d → refused_by d book room ≡ 0 → Ready book (step_of d book e s room).device
ready-after d book e s room f z =
    record {
      fit = step-fit d book e s room f.fit;
      same = f.same ∙ (sym (kept-book e d.profile s book d.live d.buffer) ∙ sym (ap (λ (x : Stepped). x.device.live.book) (step-taken d book e s room z)));
    }

-- so refusals need not be tested again in a run with one book and one room
pub taken-again : (d : Device) (book : List ℕ) (e : Event) (s room : List ℕ) → refused_by d book room ≡ 0 → refused_by (step_of d book e s room).device book room ≡ 0
taken-again d book e s room z =
    let u = usable d book room z in
    let k = ready-after d book e s room (record { fit = u.fit; same = u.same }) z in
    let p : (step_of d book e s room).device.profile.plan.basics.packet ≡ d.profile.plan.basics.packet = ap (λ (x : Stepped). x.device.profile.plan.basics.packet) (step-taken d book e s room z) in
    ready-taken (step_of d book e s room).device book room k (omega (arith, p, u.room))
