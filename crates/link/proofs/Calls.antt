-- What holds of the calls, over their definitions: an answer tells both of its parts, a refused call changes no lent byte, and the
-- state that a call leaves is read as the device that it left. Assumes nothing.
use Rattle.std.proofs.Common.{◌≡◌, ℕ, zero, suc, ◌+◌, ◌/◌, ◌%◌, ◌<◌, ◌≤◌, Bool, true, false, eqb, List, [], ◌++◌, length, take, refl, sym, ap, ◌∙◌, arith, eq-eqb, ne_eqb, eqb-true, length-append}
use Rattle.std.proofs.lemmas.Bool.{eqb-false}
use mathlib.Core.Path.{subst⁻¹}
use Rattle.std.specs.Prelude.{Ok}
use Rattle.common.specs.Bytes.{part}
use Rattle.common.specs.Refusals.{number_of, refusal}
use Rattle.common.proofs.Laws.{cond-elim, placed-nil}
use Rattle.control_pipe.specs.Sizes.{buffer_room}
use Rattle.device.specs.declared.Device.{Device}
use Rattle.device.specs.Device.{fresh, data_refused, handed_room, with_powered}
use Rattle.records.specs.Sizes.{event_room}
use Rattle.stream.specs.Stream.{Run, turn, runs, turns_by, run_of}
use Rattle.record_bytes.specs.Layout.{record_size, record_bytes, record_of}
use Rattle.record_bytes.specs.Shape.{Shaped}
use Rattle.record_bytes.proofs.Lengths.{record-length}
use Rattle.record_bytes.proofs.Numbers.{Small}
use Rattle.record_bytes.proofs.Inverse.{length-of-part, record-shaped}
use Rattle.live_bytes.specs.Layout.{live_bytes}
use Rattle.live_bytes.proofs.Lengths.{live-length}
use Rattle.state.specs.State.{Whole, buffer_place, state_size, bytes_of, device_of, state_coded, read_of}
use Rattle.state.proofs.Inverse.{state-forth, written_read}
use Rattle.link.specs.Link.{answer_of, build_number, built_number, built_state, running, ran_number, ran_state, ran_trace, data_number, data_room, flag_number, flag_state}
use Rattle.link.proofs.Laws.{coded-long, runs-facts, runs-profile, number_small}

-- ---- an answer

module _ (count number : ℕ) (l : number < 16) where
  pub answer-count : answer_of count number / 16 ≡ count
  unfolding answer_of
  answer-count = omega (arith, l)

  pub answer-number : answer_of count number % 16 ≡ number
  unfolding answer_of
  answer-number = omega (arith, l)

-- ---- a refused call changes no lent byte

pub build-unchanged : (s : List ℕ) (book : ℕ) (t : List ℕ) → (built_number s book t ≡ 0 → ⊥) → built_state s book t ≡ t
unfolding built_state
build-unchanged s book t z = rw (ne_eqb (built_number s book t) 0 z)

pub flag-unchanged : (s : List ℕ) (on : Bool) → (flag_number s ≡ 0 → ⊥) → flag_state s on ≡ s
unfolding flag_state
flag-unchanged s on z = rw (ne_eqb (flag_number s) 0 z)

pub data-unchanged : (s t : List ℕ) → (data_number s t % 16 ≡ 0 → ⊥) → data_room s t ≡ t
unfolding data_number data_room handed_room answer_of
data-unchanged s t = by_code (state_coded s) refl (eqb (data_refused (device_of s) (length t)) 0) refl
  where
    by_code : (b : Bool) → state_coded s ≡ b → (c : Bool) → eqb (data_refused (device_of s) (length t)) 0 ≡ c → (data_number s t % 16 ≡ 0 → ⊥) → data_room s t ≡ t
    by_code true e true f z = absurd (z (rw (e, f) (let k = eqb-true (data_refused (device_of s) (length t)) 0 f in omega (arith, k))))
    by_code true e false f z = rw (e, f)
    by_code false e c f z = rw e

-- a number of the table's fits beside a count
fits-beside : (n : ℕ) → ((n ≡ 0 → ⊥) → number_of (refusal n) ≡ n) → n < 16
fits-beside n f = by (eqb n 0) refl
  where
    by : (b : Bool) → eqb n 0 ≡ b → n < 16
    by true z = let k = eqb-true n 0 z in omega (arith, k)
    by false z = let k = f (eqb-false n 0 z) in let l = number_small (refusal n) in omega (arith, k, l)

-- a run that takes no event leaves the device and writes no entry
runs_none : (n : ℕ) (d : Device) (book events : List ℕ) → (runs n d book events).count ≡ 0 → ((runs n d book events).device ≡ d) × ((runs n d book events).bytes ≡ [])
unfolding runs
runs_none zero d book events = λ z. (refl, refl)
runs_none (suc n) d book events =
    let t = turn d book (take event_room events) in
    cond-elim (λ (x : Run). x.count ≡ 0 → (x.device ≡ d) × (x.bytes ≡ [])) (eqb t.number 0) _ _ (λ e z. absurd (omega (arith, z))) (λ e z. (refl, refl))

pub run-unchanged : (s book events t : List ℕ) → Small s → ran_number s book events t / 16 ≡ 0 → (ran_state s book events t ≡ s) × (ran_trace s book events t ≡ t)
unfolding ran_number ran_state ran_trace run_of
run-unchanged s book events t m z = by_code (state_coded s) refl
  where
    by_code : (b : Bool) → state_coded s ≡ b → (ran_state s book events t ≡ s) × (ran_trace s book events t ≡ t)
    by_code true e =
        let x = running s book events t in
        let f = (runs-facts (turns_by (length events) (length t)) (device_of s) book events).1 in
        let l : x.number < 16 = fits-beside x.number f in
        let q : answer_of x.count x.number / 16 ≡ 0 = rw e at z in
        let k = runs_none (turns_by (length events) (length t)) (device_of s) book events (sym (answer-count x.count x.number l) ∙ q) in
        (rw (e, k.0) (state-forth s m e), rw (e, k.1) (placed-nil t 0))
    by_code false e = (rw e, rw e)

-- ---- the state that a call leaves

-- a device that is read is whole
whole : (s : List ℕ) → length s ≡ state_size → Whole (device_of s)
unfolding device_of
whole s l =
    let b : buffer_place + buffer_room ≤ length s = omega (arith, l) in
    record { profile = record-shaped (part 0 record_size s); buffer = length-of-part s buffer_place buffer_room b }

-- so is one whose bytes are as many as a state's, since the record and the live part have their lengths
bytes_whole : (d : Device) → Shaped d.profile → length (bytes_of d) ≡ state_size → Whole d
unfolding bytes_of
bytes_whole d h l =
    let a = length-append (record_bytes d.profile) (live_bytes d.live ++ d.buffer) in
    let b = length-append (live_bytes d.live) d.buffer in
    record { profile = h; buffer = omega (arith, l, a, b, record-length d.profile h, live-length d.live) }

-- a state that was built is read as the device of its record
pub build-read : (s : List ℕ) (book : ℕ) (t : List ℕ) → built_number s book t ≡ 0 → read_of (built_state s book t) ≡ Ok (fresh (record_of s) book true)
unfolding built_number built_state build_number
build-read s book t z = by_length (eqb (length s) record_size) refl
  where
    by_length : (b : Bool) → eqb (length s) record_size ≡ b → read_of (built_state s book t) ≡ Ok (fresh (record_of s) book true)
    by_length true e = rw (eq-eqb (built_number s book t) 0 z) (written_read (fresh (record_of s) book true) (record { profile = record-shaped s; buffer = refl }))
    by_length false e = absurd (let k : ◌≡◌ {A = ℕ} 1 0 = rw e at z in omega (arith, k))

-- a state that a run left is read as the device after it. The premise of the length holds of every call: a slice keeps its length
pub run-read : (s book events t : List ℕ) → state_coded s ≡ true → length (ran_state s book events t) ≡ state_size → read_of (ran_state s book events t) ≡ Ok (running s book events t).device
unfolding ran_state run_of
run-read s book events t e l =
    let d = (running s book events t).device in
    let x : ran_state s book events t ≡ bytes_of d = rw e in
    let p : d.profile ≡ (device_of s).profile = runs-profile (turns_by (length events) (length t)) (device_of s) book events in
    let h : Shaped d.profile = subst⁻¹ Shaped p (whole s (coded-long s e)).profile in
    ap read_of x ∙ written_read d (bytes_whole d h (ap length (sym x) ∙ l))

-- and one in which the flag was set as the device with the flag
pub flag-read : (s : List ℕ) (on : Bool) → flag_number s ≡ 0 → read_of (flag_state s on) ≡ Ok (with_powered on (device_of s))
unfolding flag_number flag_state
flag-read s on z = by_code (state_coded s) refl
  where
    by_code : (b : Bool) → state_coded s ≡ b → read_of (flag_state s on) ≡ Ok (with_powered on (device_of s))
    by_code true e =
        let w = whole s (coded-long s e) in
        rw (eq-eqb (flag_number s) 0 z) (written_read (with_powered on (device_of s)) (record { profile = w.profile; buffer = w.buffer }))
    by_code false e = absurd (let k : ◌≡◌ {A = ℕ} 9 0 = rw e at z in omega (arith, k))
