-- From building, no history leads to a state that refusal 9 names; and a refused call changes nothing. Assumes nothing.
use Prim.Native.Nat.{ℕ}
use mathlib.Core.Bool.{Bool, true, false, cond}
use mathlib.Core.Path.{◌≡◌, refl, sym, ap, subst⁻¹, ◌∙◌}
use mathlib.Core.List.{List, [], ◌∷◌}
use native.Mathlib.Omega.{arith}
use borrow.Author.Tests.{eqb-true, eqb-false}
use lib.Dec.{eqb}
use lib.ListN.{length}
use Rattle.std.specs.Prelude.{Some, None, Ok, Err}
use Rattle.common.specs.Refusals.{refusal, unless, stop}
use Rattle.record.specs.declared.Record.{Record}
use Rattle.limits.specs.Limits.{lowest}
use Rattle.live.specs.Live.{book_fine, live_fine, unfit}
use Rattle.events.specs.declared.Event.{Event}
use Rattle.device.specs.declared.Device.{Device}
use Rattle.device.specs.declared.Stepped.{Stepped}
use Rattle.device.specs.Device.{fresh, build_refusal, build_of, made, unfit_device, refused_by, room_of, data_refused, handed_room, powered_of}
use Rattle.steady.proofs.Fit.{step-fit, flag-fit}
use Rattle.promises.specs.History.{Moment, happens, powers, asks, after, ends, shown, number, lent, left, refusal_in, why}
use Rattle.promises.proofs.Sent.{step-refused}

-- ---- good states

moment-fit : (d : Device) (m : Moment) → unfit_device d ≡ 0 → unfit_device (after d m) ≡ 0
unfolding after
moment-fit d (happens e book s room) z = step-fit d book e s room z
moment-fit d (powers on) z = flag-fit d on z
moment-fit d (asks room) z = z

-- from any good state
pub stays_fit : (ms : List Moment) (d : Device) → unfit_device d ≡ 0 → unfit_device (ends d ms) ≡ 0
unfolding ends
stays_fit [] d z = z
stays_fit (m ∷ ms) d z = stays_fit ms (after d m) (moment-fit d m z)

two : (a b : Bool) (n : ℕ) → (a ≡ true → n ≡ 0) → (a ≡ false → n ≡ 0 → ⊥) → ◌≡◌ {A = ℕ} (cond a (cond b 0 4) n) 0 → (a ≡ true) × (b ≡ true)
two true true n f g e = (refl, refl)
two true false n f g e = absurd (omega (arith, e))
two false b n f g e = absurd (g refl e)

fresh-fit : (r : Record) (n : ℕ) → build_refusal r n ≡ 0 → unfit_device (fresh r n true) ≡ 0
unfolding build_refusal unfit live_fine
fresh-fit r n z =
    let l = lowest r in
    let t = two (eqb l 0) (book_fine n) l (eqb-true l 0) (eqb-false l 0) z in
    rw (t.0, t.1) refl

built : (r : Record) (n : ℕ) → build_refusal r n ≡ 0 → made r n ≡ fresh r n true
unfolding made
built r n z = rw z refl

built-fit : (r : Record) (n : ℕ) → build_refusal r n ≡ 0 → unfit_device (made r n) ≡ 0
built-fit r n z = subst⁻¹ (λ (x : Device). unfit_device x ≡ 0) (built r n z) (fresh-fit r n z)

-- what building returns is that device, or the unbuilt one and why
pub built-by : (r : Record) (n : ℕ) → build_refusal r n ≡ 0 → build_of r n ≡ Ok (made r n)
unfolding build_of
built-by r n z = rw z refl

pub unbuilt-by : (r : Record) (n : ℕ) → eqb (build_refusal r n) 0 ≡ false → build_of r n ≡ Err (record { device = made r n; refusal = refusal (build_refusal r n) })
unfolding build_of
unbuilt-by r n z = rw z refl

-- A mast that was built, whatever happens to it, is never in a state that refusal 9 names.
pub good : (r : Record) (n : ℕ) (ms : List Moment) → build_refusal r n ≡ 0 → unfit_device (ends (made r n) ms) ≡ 0
good r n ms z = stays_fit ms (made r n) (built-fit r n z)

-- ---- refused calls

room-refused : (d : Device) (book : List ℕ) (e : Event) (s room : List ℕ) → eqb (refused_by d book room) 0 ≡ false → room_of d book e s room ≡ room
unfolding room_of
room-refused d book e s room z = rw z refl

flag-refused : (d : Device) (on : Bool) → eqb (unfit_device d) 0 ≡ false → powered_of d on ≡ d
unfolding powered_of
flag-refused d on z = rw z refl

-- what is said where a number refuses is what stops a run there
told_stop : {A : Type 0} (n : ℕ) (x : A) → refusal_in (unless n x) ≡ stop n
told_stop n x = by (eqb n 0)
  where
    by : (t : Bool) → refusal_in (cond t (Ok x) (Err (refusal n))) ≡ cond t None (Some (refusal n))
    by true = refl
    by false = refl

handed-refused : (d : Device) (room : List ℕ) → eqb (data_refused d (length room)) 0 ≡ false → handed_room d room ≡ room
unfolding handed_room
handed-refused d room z = rw z refl

-- A call that a number refuses says so, leaves the mast as it was, and changes no byte that it was lent: it is no event.
pub refused : (d : Device) (m : Moment) → eqb (number d m) 0 ≡ false → (after d m ≡ d) × ((left (shown d m) ≡ lent m) × (why (shown d m) ≡ stop (number d m)))
unfolding after shown
refused d (happens e book s room) z =
    let x = step-refused d book e s room z in
    let n : stop (refused_by d book room) ≡ Some (refusal (refused_by d book room)) = rw z refl in
    (ap (λ (y : Stepped). y.device) x, (room-refused d book e s room z, ap (λ (y : Stepped). refusal_in y.said) x ∙ sym n))
refused d (powers on) z = (flag-refused d on z, (refl, told_stop (unfit_device d) tt))
refused d (asks room) z = (refl, (handed-refused d room z, told_stop (data_refused d (length room)) d.live.pipe.coming.awaited))
