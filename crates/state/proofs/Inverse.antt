-- Reading a state is the inverse of writing one: what is written is read back, and what is read without refusal is what is
-- written. Assumes nothing.
use Prim.Native.Nat.{ℕ, ◌+◌, ◌≤◌}
use mathlib.Core.Bool.{Bool, true, false, cond, ◌&&◌}
use mathlib.Core.Path.{◌≡◌, refl, sym, ap, ap₂, ◌∙◌}
use mathlib.Core.List.{List, ◌++◌, append-nil}
use native.Mathlib.Omega.{arith}
use borrow.Author.Tests.{eq-eqb, eqb-true}
use lib.Dec.{eqb}
use lib.ListN.{length, drop, length-append, length-drop, drop_of_length-le}
use lib.Seq.{take_all}
use Rattle.common.specs.Bytes.{part, placed}
use Rattle.std.specs.Prelude.{Result, Ok, Err}
use Rattle.common.specs.Refusals.{refusal}
use Rattle.common.specs.declared.Refusal.{Refusal}
use Rattle.common.proofs.Laws.{and_left, and_right}
use Rattle.control_pipe.specs.Sizes.{buffer_room}
use Rattle.device.specs.declared.Device.{Device}
use Rattle.record_bytes.specs.Layout.{record_size, record_bytes, record_coded}
use Rattle.record_bytes.proofs.Lengths.{record-length}
use Rattle.record_bytes.proofs.Numbers.{Small, both}
use Rattle.record_bytes.proofs.Inverse.{part-skip, part-here, length-of-part, small-take, small-drop, stitch, record-back, record-coded, record-forth}
use Rattle.live_bytes.specs.Layout.{live_size, live_bytes, live_coded}
use Rattle.live_bytes.proofs.Lengths.{live-length}
use Rattle.live_bytes.proofs.Inverse.{live_back, live-coded, live-forth}
use Rattle.state.specs.State.{Whole, buffer_place, state_size, bytes_of, device_of, state_coded, read_of, kept}

module _ (d : Device) (w : Whole d) where
  abbrev R : List ℕ
  R = record_bytes d.profile

  abbrev L : List ℕ
  L = live_bytes d.live

  record-here : part 0 record_size (bytes_of d) ≡ R
  unfolding bytes_of
  record-here = part-here R (L ++ d.buffer) record_size (record-length d.profile w.profile)

  live_here : part record_size live_size (bytes_of d) ≡ L
  unfolding bytes_of
  live_here = part-skip R (L ++ d.buffer) record_size (record-length d.profile w.profile) 0 live_size ∙ part-here L d.buffer live_size (live-length d.live)

  buffer-here : part buffer_place buffer_room (bytes_of d) ≡ d.buffer
  unfolding bytes_of
  buffer-here =
      part-skip R (L ++ d.buffer) record_size (record-length d.profile w.profile) live_size buffer_room
      ∙ part-skip L d.buffer live_size (live-length d.live) 0 buffer_room
      ∙ take_all buffer_room d.buffer (omega (arith, w.buffer))

  pub state-length : length (bytes_of d) ≡ state_size
  unfolding bytes_of
  state-length =
      length-append R (L ++ d.buffer)
      ∙ ap₂ (λ (x y : ℕ). x + y) (record-length d.profile w.profile) (length-append L d.buffer ∙ ap₂ (λ (x y : ℕ). x + y) (live-length d.live) w.buffer)

  pub state-back : device_of (bytes_of d) ≡ d
  unfolding device_of
  state-back = rw (record-here, live_here, buffer-here, record-back d.profile w.profile, live_back d.live) refl

  pub state-coded : state_coded (bytes_of d) ≡ true
  unfolding state_coded
  state-coded =
      both _ _ (both _ _ (eq-eqb (length (bytes_of d)) state_size state-length) (ap record_coded record-here ∙ record-coded d.profile w.profile))
      (ap live_coded live_here ∙ live-coded d.live)

  -- every device that is written is read back, and with no refusal
  pub written_read : read_of (bytes_of d) ≡ Ok d
  written_read = rw (state-coded, state-back)

-- bytes that are read without refusal are those that the device is written as; so all others are refusal 9
pub state-forth : (s : List ℕ) → Small s → state_coded s ≡ true → bytes_of (device_of s) ≡ s
unfolding bytes_of device_of state_coded
state-forth s m e =
    let c = and_left (eqb (length s) state_size && record_coded (part 0 record_size s)) (live_coded (part record_size live_size s)) e in
    let f = and_right (eqb (length s) state_size && record_coded (part 0 record_size s)) (live_coded (part record_size live_size s)) e in
    let n : length s ≡ state_size = eqb-true (length s) state_size (and_left (eqb (length s) state_size) (record_coded (part 0 record_size s)) c) in
    let r = record-forth (part 0 record_size s) (length-of-part s 0 record_size (omega (arith, n))) (small-take record_size (drop 0 s) (small-drop 0 s m)) (and_right (eqb (length s) state_size) (record_coded (part 0 record_size s)) c) in
    let l = live-forth (part record_size live_size s) (length-of-part s record_size live_size (omega (arith, n))) (small-take live_size (drop record_size s) (small-drop record_size s m)) f in
    let k : length (drop buffer_place s) ≤ buffer_room = rw (length-drop buffer_place s) (omega (arith, n)) in
    stitch s 0 record_size r (stitch s record_size live_size l (take_all buffer_room (drop buffer_place s) k))

pub read-written : (s : List ℕ) (d : Device) → Small s → read_of s ≡ Ok d → bytes_of d ≡ s
read-written s d m = by_code (state_coded s) refl
  where
    by_code : (b : Bool) → state_coded s ≡ b → cond {A = Result Device Refusal} b (Ok (device_of s)) (Err (refusal 9)) ≡ Ok d → bytes_of d ≡ s
    by_code true e z = let k : d ≡ device_of s = grind (arith, z) in ap bytes_of k ∙ state-forth s m e
    by_code false e z = absurd (grind (arith, z))

-- a live part and a buffer kept in the state of a device's record are that device's state
pub kept-written : (d : Device) (s : List ℕ) → Small s → state_coded s ≡ true → d.profile ≡ (device_of s).profile → length d.buffer ≡ buffer_room → kept d.live d.buffer s ≡ bytes_of d
unfolding bytes_of device_of state_coded placed
kept-written d s m e p b =
    let x = record_coded (part 0 record_size s) in
    let y = live_coded (part record_size live_size s) in
    let c = and_left (eqb (length s) state_size && x) y e in
    let f = and_left (eqb (length s) state_size) x c in
    let n : length s ≡ state_size = eqb-true (length s) state_size f in
    let r : record_bytes d.profile ≡ part 0 record_size s = ap record_bytes p ∙ record-forth (part 0 record_size s) (length-of-part s 0 record_size (omega (arith, n))) (small-take record_size (drop 0 s) (small-drop 0 s m)) (and_right (eqb (length s) state_size) x c) in
    let t = live_bytes d.live ++ d.buffer in
    let l : length t ≡ live_size + buffer_room = length-append (live_bytes d.live) d.buffer ∙ ap₂ (λ (u v : ℕ). u + v) (live-length d.live) b in
    let k : length s ≤ record_size + length t = omega (arith, n, l) in
    rw (f, drop_of_length-le s k) (ap (λ (u : List ℕ). part 0 record_size s ++ u) (append-nil t) ∙ ap (λ (u : List ℕ). u ++ t) (sym r))
