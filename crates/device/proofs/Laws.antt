-- Laws of the device's calls that the proofs cite. Assumes nothing.
use Prim.Native.Nat.{ℕ, ◌+◌, ◌≤◌}
use mathlib.Core.Bool.{Bool, true, false, cond, ◌&&◌}
use mathlib.Core.Path.{◌≡◌, refl, ap, ◌∙◌}
use mathlib.Core.List.{List}
use native.Mathlib.Omega.{arith}
use borrow.Author.Tests.{le-leb, leb-true, eqb-true}
use lib.Dec.{eqb, leb}
use lib.ListN.{length, take}
use Rattle.std.specs.Prelude.{Result, Ok, ⊤}
use Rattle.common.specs.Bytes.{piece, stored, front}
use Rattle.common.specs.declared.Refusal.{Refusal}
use Rattle.common.proofs.Refusals.{Named, passed, refused}
use Rattle.common.proofs.Laws.{cond-elim, and_left, and_right, stored-front}
use Rattle.record.specs.declared.Record.{Record}
use Rattle.limits.specs.Limits.{lowest}
use Rattle.limits.proofs.Good.{lowest-number}
use Rattle.control_pipe.specs.Sizes.{buffer_room}
use Rattle.live.specs.declared.Live.{Live}
use Rattle.live.specs.Live.{Setting as Set, book_fine, coming_fine, reply_fine, pipe_fine, state_fine, live_fine, unfit, step_refusal, with_powered as with_live, powered_of as powered_live}
use Rattle.device.specs.declared.Device.{Device}
use Rattle.device.specs.Device.{build_refusal, refused_by, unfit_device, data_refusal, data_refused, handed_room, Handing, Setting, of_parts, with_powered, powered_of}

-- what a test tells of its number
pub ruleset tests = (passed, refused)

-- 0 names no refusal; of a number that is not 0
abbrev Numbered : ℕ → Type 0
Numbered n = (n ≡ 0 → ⊥) → Named n

pub build-named : (r : Record) (book : ℕ) → Numbered (build_refusal r book)
unfolding build_refusal
build-named r book =
    cond-elim Numbered (eqb (lowest r) 0) _ _
    (λ e. cond-elim Numbered (book_fine book) 0 4 (λ e z. absurd (z refl)) (λ e z. refl))
    (λ e. lowest-number r)

pub fit-named : (d : Device) → Numbered (unfit_device d)
unfolding unfit
fit-named d = cond-elim Numbered (live_fine d.live && eqb (lowest d.profile) 0) 0 9 (λ e z. absurd (z refl)) (λ e z. refl)

pub step-named : (d : Device) (book room : List ℕ) → Numbered (refused_by d book room)
unfolding step_refusal
step-named d book room =
    cond-elim Numbered (eqb (unfit_device d) 0) _ 9
    (λ e. cond-elim Numbered (eqb (length book) d.live.book) _ 5
    (λ e. cond-elim Numbered (leb d.profile.plan.basics.packet (length room)) 0 6 (λ e z. absurd (z refl)) (λ e z. refl))
    (λ e z. refl))
    (λ e z. refl)

pub data-fit : (d : Device) (room : ℕ) → data_refused d room ≡ 0 → unfit_device d ≡ 0
unfolding data_refusal
data-fit d room e = at (eqb (unfit_device d) 0) refl
  where
    at : (t : Bool) → eqb (unfit_device d) 0 ≡ t → unfit_device d ≡ 0
    at true z = eqb-true (unfit_device d) 0 z
    at false z = rw z at e

-- what is handed out of a device that no number refuses is in the buffer
pub awaited-fits : (d : Device) → unfit_device d ≡ 0 → d.live.pipe.coming.awaited ≤ buffer_room
unfolding unfit live_fine
awaited-fits d e =
    let l = d.live in
    let p = l.pipe in
    let f : live_fine l ≡ true = by (live_fine l) (eqb (lowest d.profile) 0) e in
    let a = and_right (l.built && book_fine l.book && state_fine l.kept.state l.before) (pipe_fine p l.book) f in
    let b = and_left (coming_fine p.coming && reply_fine p.reply l.book) (leb p.pending.0 127) a in
    let c = and_left (coming_fine p.coming) (reply_fine p.reply l.book) b in
    leb-true p.coming.awaited buffer_room (and_left (leb p.coming.awaited buffer_room) (leb p.coming.held buffer_room) c)
  where
    by : (x y : Bool) → ◌≡◌ {A = ℕ} (cond (x && y) 0 9) 0 → x ≡ true
    by true y e = refl
    by false y e = absurd (omega arith)

pub data-placed : {n : ℕ} {exit : List ℕ} (b room : List ℕ) → length b ≡ buffer_room → n ≤ buffer_room → exit ≡ stored room 0 b 0 n → exit ≡ front (take n b) room
unfolding piece
data-placed {n} b room l h e =
    let k : 0 + n ≤ length b = omega (arith, l, h) in
    e ∙ (stored-front room b 0 n ∙ rw (le-leb (0 + n) (length b) k) refl)

-- data that is handed out, from what the tests tell
pub data-handed : {exit : List ℕ} (d : Device) (room : List ℕ) → length d.buffer ≡ buffer_room → eqb (unfit_device d) 0 ≡ true → eqb d.live.pipe.coming.awaited 0 ≡ false → leb d.live.pipe.coming.awaited d.live.pipe.coming.held ≡ true
    → leb d.live.pipe.coming.awaited (length room) ≡ true → exit ≡ stored room 0 d.buffer 0 d.live.pipe.coming.awaited → Handing (Ok d.live.pipe.coming.awaited) exit d room
unfolding data_refusal handed_room
data-handed d room l f a h m e =
    record {
      value = rw (f, a, h, m) refl;
      room = rw (f, a, h, m) (data-placed d.buffer room l (awaited-fits d (eqb-true (unfit_device d) 0 f)) e);
    }

-- the flag set in the live part is the flag set in the device
pub powered_device : {x : Result ⊤ Refusal} {l : Live} (d : Device) (on : Bool) → Set x l d.profile d.live on → Setting x (record d { live = l }) d on
unfolding powered_of powered_live
powered_device {x} {l} d on h = record { value = h.value; device = by (eqb (unfit_device d) 0) h.live }
  where
    by : (t : Bool) → l ≡ cond t (with_live on d.live) d.live → ◌≡◌ {A = Device} (record d { live = l }) (cond t (with_powered on d) d)
    by true q = ap (λ (m : Live). of_parts d.profile m d.buffer) q
    by false q = ap (λ (m : Live). of_parts d.profile m d.buffer) q
