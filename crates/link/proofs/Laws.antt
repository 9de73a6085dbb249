-- Laws of the exported calls that the proofs cite. Assumes nothing.
use Rattle.std.proofs.Common.{◌≡◌, ℕ, zero, suc, ◌+◌, ◌*◌, ◌/◌, ◌^◌, ◌<◌, ◌≤◌, min, Bool, true, false, cond, eqb, leb, List, length, take, drop, refl, sym, ap, ap₂, ◌∙◌, arith, eq-eqb, ne_eqb, eqb-true}
use Rattle.std.proofs.lemmas.Bool.{eqb-false}
use Rattle.std.specs.Prelude.{⊤, Result, Ok, Err}
use Rattle.std.specs.Result.{result_err}
use Rattle.common.specs.Bytes.{placed}
use Rattle.common.specs.Refusals.{number_of, refusal, unless, stop}
use Rattle.common.specs.declared.Refusal.{Refusal}
use Rattle.common.specs.declared.Refusal.TheVariants.{PacketSize, Layout, Languages, BookLength, OtherBook, PacketRoom, NoData, DataRoom, BadState, BadEvent, BadSetup, AnswerRoom}
use Rattle.common.proofs.Refusals.{Named, passed, refused}
use Rattle.common.proofs.Laws.{cond-elim, and_left}
use Rattle.control_pipe.specs.Sizes.{buffer_room}
use Rattle.record.specs.declared.Record.{Record}
use Rattle.device.specs.declared.Device.{Device}
use Rattle.device.specs.declared.Unbuilt.{Unbuilt}
use Rattle.device.specs.Device.{Handing as Handed, Setting as Set, fresh, build_refusal, build_of, made, unfit_device, data_ready, data_refusal, data_refused, handed_of, handed_room, with_powered, powered_of}
use Rattle.device.proofs.Laws.{build-named, fit-named, awaited-fits, data-fit}
use Rattle.records.specs.Sizes.{event_room}
use Rattle.stream.specs.declared.Ran.{Ran}
use Rattle.stream.specs.Trace.{entry_room}
use Rattle.stream.specs.Stream.{Running as Ranning, Run, turn, stop_number, runs, turns_by, run_of, ran_of}
use Rattle.stream.proofs.Laws.{sound}
use Rattle.record_bytes.specs.Layout.{record_size, record_of, record_coded}
use Rattle.record_bytes.proofs.Numbers.{Small}
use Rattle.state.specs.State.{Writing, state_size, bytes_of, device_of, state_coded, kept}
use Rattle.state.proofs.Inverse.{kept-written}
use Rattle.link.specs.Link.{answer_of, sooner, build_number, built_number, built_state, running, ran_number, ran_state, ran_trace, data_number, data_room, flag_number, flag_state}

-- 0 names no refusal; of a number that is not 0
abbrev Numbered : ℕ → Type 0
Numbered n = (n ≡ 0 → ⊥) → Named n

-- the number of what a test of it tells
pub told-number : (n : ℕ) → Numbered n → stop_number (stop n) ≡ n
told-number n e = by (eqb n 0) refl
  where
    by : (b : Bool) → eqb n 0 ≡ b → stop_number (stop n) ≡ n
    by true z = rw z (sym (eqb-true n 0 z))
    by false z = rw z (e (eqb-false n 0 z))

-- .. and of what is left of the test's answer
pub err-number : (n : ℕ) → Numbered n → stop_number (result_err (unless {A = ⊤} n tt)) ≡ n
err-number n e = by (eqb n 0) refl
  where
    by : (b : Bool) → eqb n 0 ≡ b → stop_number (result_err (unless {A = ⊤} n tt)) ≡ n
    by true z = rw z (sym (eqb-true n 0 z))
    by false z = rw z (e (eqb-false n 0 z))

-- ---- a state that is read

pub coded-long : (s : List ℕ) → state_coded s ≡ true → length s ≡ state_size
unfolding state_coded
coded-long s e = eqb-true (length s) state_size (and_left (eqb (length s) state_size) _ (and_left _ _ e))

module _ {A : Type 0} (b : Bool) (y : A) where
  -- of a test that is passed or refused with 9
  pub ok-of : {x : A} → Ok x ≡ cond {A = Result A Refusal} b (Ok y) (Err (refusal 9)) → (b ≡ true) × (x ≡ y)
  ok-of {x} e = by b refl e
    where
      by : (c : Bool) → b ≡ c → Ok x ≡ cond {A = Result A Refusal} c (Ok y) (Err (refusal 9)) → (b ≡ true) × (x ≡ y)
      by true k q = (k, grind (arith, q))
      by false k q = grind (arith, k, q)

  pub err-of : {why : Refusal} → Err why ≡ cond {A = Result A Refusal} b (Ok y) (Err (refusal 9)) → (b ≡ false) × (why ≡ refusal 9)
  err-of {why} e = by b refl e
    where
      by : (c : Bool) → b ≡ c → Err why ≡ cond {A = Result A Refusal} c (Ok y) (Err (refusal 9)) → (b ≡ false) × (why ≡ refusal 9)
      by true k q = grind (arith, k, q)
      by false k q = (k, grind (arith, q))

-- ---- a run

pub runs-facts : (n : ℕ) (d : Device) (book events : List ℕ) → ((runs n d book events).count ≤ n) × Numbered (runs n d book events).number
unfolding runs
runs-facts zero d book events = (omega arith, λ z. absurd (z refl))
runs-facts (suc n) d book events =
    let t = turn d book (take event_room events) in
    let r = runs-facts n t.device book (drop event_room events) in
    cond-elim (λ (x : Run). (x.count ≤ suc n) × Numbered x.number) (eqb t.number 0) _ _ (λ e. (omega (arith, r.0), r.1)) (λ e. (omega arith, (sound d book (take event_room events)).number))

-- no event changes the record
pub runs-profile : (n : ℕ) (d : Device) (book events : List ℕ) → (runs n d book events).device.profile ≡ d.profile
unfolding runs
runs-profile zero d book events = refl
runs-profile (suc n) d book events =
    let s = take event_room events in
    let t = turn d book s in
    cond-elim (λ (x : Run). x.device.profile ≡ d.profile) (eqb t.number 0) _ _ (λ e. runs-profile n t.device book (drop event_room events) ∙ (sound d book s).profile) (λ e. refl)

module _ (s book events t : List ℕ) where
  -- the count of a run fits an answer
  pub count_fits : {x : Ran} → x ≡ ran_of (running s book events t) → length t < 2 ^ 64 → 16 * x.count + 256 ≤ 2 ^ 64
  unfolding run_of turns_by
  count_fits {x} e l =
      let r = (runs-facts (turns_by (length events) (length t)) (device_of s) book events).0 in
      let c : x.count ≡ (runs (turns_by (length events) (length t)) (device_of s) book events).count = ap (λ (y : Ran). y.count) e in
      let m : turns_by (length events) (length t) ≤ length t / entry_room = least (length t / entry_room) _ in
      omega (arith, r, c, m, l)
    where
      least : (a b : ℕ) → min a b ≤ a
      least a b = omega arith

  pub run-bad : state_coded s ≡ false → (s ≡ ran_state s book events t) × (t ≡ ran_trace s book events t)
  unfolding ran_state ran_trace
  run-bad c = (rw c, rw c)

  pub run-good : {d d₁ : Device} {x : Ran} {s₁ t₁ : List ℕ} → state_coded s ≡ true → d ≡ device_of s → Ranning x d₁ t₁ (run_of d book events t) t
      → s₁ ≡ kept d₁.live d₁.buffer s → length d₁.buffer ≡ buffer_room → Small s → (x ≡ ran_of (running s book events t)) × (s₁ ≡ ran_state s book events t) × (t₁ ≡ ran_trace s book events t)
  unfolding ran_state ran_trace run_of
  run-good {d} {d₁} {x} c e q w b h =
      let y = running s book events t in
      let z : d₁ ≡ y.device = q.device ∙ ap (λ (u : Device). (run_of u book events t).device) e in
      let p : d₁.profile ≡ (device_of s).profile = ap (λ (u : Device). u.profile) z ∙ runs-profile (turns_by (length events) (length t)) (device_of s) book events in (
        q.value ∙ ap (λ (u : Device). ran_of (run_of u book events t)) e,
        w ∙ kept-written d₁ s h c p b ∙ ap bytes_of z ∙ rw c,
        q.trace ∙ ap (λ (u : Device). placed t 0 (run_of u book events t).bytes) e ∙ rw c,
      )

  pub run-told : {x : Ran} {r : ℕ} → state_coded s ≡ true → x ≡ ran_of (running s book events t) → r ≡ answer_of x.count (stop_number x.stop) → r ≡ ran_number s book events t
  unfolding ran_number run_of
  run-told {x} c z a =
      let y = running s book events t in
      let m : stop_number (stop y.number) ≡ y.number = told-number y.number (runs-facts (turns_by (length events) (length t)) (device_of s) book events).1 in
      a ∙ ap (λ (u : Ran). answer_of u.count (stop_number u.stop)) z ∙ ap (answer_of y.count) m ∙ rw c

  pub run-untold : {why : Refusal} {r : ℕ} → state_coded s ≡ false → why ≡ refusal 9 → r ≡ answer_of 0 (number_of why) → r ≡ ran_number s book events t
  unfolding ran_number
  run-untold c z a = a ∙ ap (λ (u : Refusal). answer_of 0 (number_of u)) z ∙ rw c

-- ---- the OUT data

data-named : (d : Device) (room : ℕ) → Numbered (data_refused d room)
unfolding data_refusal
data-named d room =
    let c = d.live.pipe.coming in
    cond-elim Numbered (eqb (unfit_device d) 0) _ _
    (λ e. cond-elim Numbered (data_ready c) _ 7 (λ e. cond-elim Numbered (leb c.awaited room) 0 8 (λ e z. absurd (z refl)) (λ e z. refl)) (λ e z. refl))
    (λ e. fit-named d)

module _ (s t : List ℕ) where
  pub data-bad : state_coded s ≡ false → t ≡ data_room s t
  unfolding data_room
  data-bad c = rw c

  pub data-good : {d : Device} {x : Result ℕ Refusal} {t₁ : List ℕ} → state_coded s ≡ true → d ≡ device_of s → Handed x t₁ d t
      → (x ≡ cond (state_coded s) (handed_of (device_of s) (length t)) (Err (refusal 9))) × (t₁ ≡ data_room s t)
  unfolding data_room
  data-good c e h = (h.value ∙ ap (λ (u : Device). handed_of u (length t)) e ∙ rw c, h.room ∙ ap (λ (u : Device). handed_room u t) e ∙ rw c)

  -- of what was asked
  abbrev asked : Result ℕ Refusal
  asked = cond (state_coded s) (handed_of (device_of s) (length t)) (Err (refusal 9))

  pub data-handed : {n : ℕ} → Ok n ≡ asked → (state_coded s ≡ true) × (data_refused (device_of s) (length t) ≡ 0) × (n ≡ (device_of s).live.pipe.coming.awaited)
  data-handed {n} e = by (state_coded s) refl (eqb m 0) refl e
    where
      m : ℕ
      m = data_refused (device_of s) (length t)

      k : ℕ
      k = (device_of s).live.pipe.coming.awaited

      by : (b : Bool) → state_coded s ≡ b → (c : Bool) → eqb m 0 ≡ c → Ok n ≡ cond {A = Result ℕ Refusal} b (cond c (Ok k) (Err (refusal m))) (Err (refusal 9)) → (state_coded s ≡ true) × (m ≡ 0) × (n ≡ k)
      by true c true z q = (c, eqb-true m 0 z, grind (arith, q))
      by true c false z q = absurd (grind (arith, q))
      by false c z y q = absurd (grind (arith, q))

  pub data-fits : {n : ℕ} → Ok n ≡ asked → 16 * n + 256 ≤ 2 ^ 64
  data-fits {n} e =
      let h = data-handed e in
      let l = awaited-fits (device_of s) (data-fit (device_of s) (length t) h.1) in
      let q : n ≡ (device_of s).live.pipe.coming.awaited = h.2 in
      omega (arith, l, q)

  pub data-told : {n r : ℕ} → Ok n ≡ asked → r ≡ answer_of n 0 → r ≡ data_number s t
  unfolding data_number
  data-told e a = let h = data-handed e in a ∙ ap (λ (k : ℕ). answer_of k 0) h.2 ∙ rw (h.0, h.1)

  pub data-untold : {why : Refusal} {r : ℕ} → Err why ≡ asked → r ≡ answer_of 0 (number_of why) → r ≡ data_number s t
  unfolding data_number
  data-untold {why} {r} e a = by (state_coded s) refl (eqb m 0) refl e
    where
      m : ℕ
      m = data_refused (device_of s) (length t)

      k : ℕ
      k = (device_of s).live.pipe.coming.awaited

      by : (b : Bool) → state_coded s ≡ b → (c : Bool) → eqb m 0 ≡ c → Err why ≡ cond {A = Result ℕ Refusal} b (cond c (Ok k) (Err (refusal m))) (Err (refusal 9)) → r ≡ data_number s t
      by true c true z q = absurd (grind (arith, q))
      by true c false z q =
          let w : why ≡ refusal m = grind (arith, q) in
          a ∙ ap (λ (u : Refusal). answer_of 0 (number_of u)) w ∙ ap (answer_of 0) (data-named (device_of s) (length t) (eqb-false m 0 z)) ∙ rw (c, z)
      by false c z y q = let w : why ≡ refusal 9 = grind (arith, q) in a ∙ ap (λ (u : Refusal). answer_of 0 (number_of u)) w ∙ rw c

-- ---- the self-powered flag

module _ (s : List ℕ) (on : Bool) where
  pub flag-bad : {r : Result ⊤ Refusal} → state_coded s ≡ false → r ≡ Err (refusal 9) → (r ≡ unless (flag_number s) tt) × (s ≡ flag_state s on)
  unfolding flag_number flag_state
  flag-bad c e = (e ∙ rw c, rw c)

  pub flag-refused : {r : Result ⊤ Refusal} {d d₁ : Device} {why : Refusal} → state_coded s ≡ true → d ≡ device_of s → Set (Err why) d₁ d on → r ≡ Err why → (r ≡ unless (flag_number s) tt) × (s ≡ flag_state s on)
  unfolding flag_number flag_state
  flag-refused {d = d} {why = why} c e h k =
      let f : Err why ≡ unless {A = ⊤} (unfit_device (device_of s)) tt = h.value ∙ ap (λ (u : Device). unless {A = ⊤} (unfit_device u) tt) e in
      let z = refused (unfit_device (device_of s)) tt why f in
      (k ∙ f ∙ rw c, rw (c, z.0))

  pub flag-set : {d d₁ : Device} {s₁ : List ℕ} → state_coded s ≡ true → d ≡ device_of s → Set (Ok tt) d₁ d on → s₁ ≡ kept d₁.live d₁.buffer s → length d₁.buffer ≡ buffer_room → Small s
      → (◌≡◌ {A = Result ⊤ Refusal} (Ok tt) (unless (flag_number s) tt)) × (s₁ ≡ flag_state s on)
  unfolding flag_number flag_state powered_of
  flag-set {d} {d₁} c e h w b m =
      let f : Ok tt ≡ unless {A = ⊤} (unfit_device (device_of s)) tt = h.value ∙ ap (λ (u : Device). unless {A = ⊤} (unfit_device u) tt) e in
      let z = passed (unfit_device (device_of s)) tt tt f in
      let y : d₁ ≡ with_powered on (device_of s) = h.device ∙ ap (λ (u : Device). powered_of u on) e ∙ rw z in
      let p : d₁.profile ≡ (device_of s).profile = ap (λ (v : Device). v.profile) y in
      (f ∙ rw c, w ∙ kept-written d₁ s m c p b ∙ ap bytes_of y ∙ rw (c, z))

pub flag-named : (s : List ℕ) → Numbered (flag_number s)
unfolding flag_number
flag-named s = cond-elim Numbered (state_coded s) _ 9 (λ e. fit-named (device_of s)) (λ e z. refl)

-- ---- building

pub build-short : (s : List ℕ) (book : ℕ) (t : List ℕ) → (length s ≡ record_size → ⊥) → (◌≡◌ {A = Result ⊤ Refusal} (Err PacketSize) (unless (built_number s book t) tt)) × (t ≡ built_state s book t)
unfolding build_number built_number built_state
build-short s book t l = (rw (ne_eqb (length s) record_size l), rw (ne_eqb (length s) record_size l))

sooner-some : (b : Bool) (n : ℕ) → (n ≡ 0 → ⊥) → sooner b n ≡ 0 → ⊥
sooner-some true n z e = z e
sooner-some false n z e = cond-elim (λ (k : ℕ). k ≡ 0 → ⊥) (eqb n 1) 1 2 (λ _ y. omega (arith, y)) (λ _ y. omega (arith, y)) e

sooner-named : (b : Bool) (n : ℕ) → Numbered n → Numbered (sooner b n)
sooner-named true n f = f
sooner-named false n f = cond-elim Numbered (eqb n 1) 1 2 (λ _ z. refl) (λ _ z. refl)

-- what building tells of the number that refuses it
built-ok : (r : Record) (book : ℕ) {d : Device} → Ok d ≡ build_of r book → (eqb (build_refusal r book) 0 ≡ true) × (d ≡ fresh r book true)
unfolding build_of made
built-ok r book {d} e = by (eqb (build_refusal r book) 0) refl e
  where
    by : (b : Bool) → eqb (build_refusal r book) 0 ≡ b
        → Ok d ≡ cond {A = Result Device Unbuilt} b (Ok (cond b (fresh r book true) (fresh r 0 false))) (Err (record { device = cond b (fresh r book true) (fresh r 0 false); refusal = refusal (build_refusal r book) }))
        → (eqb (build_refusal r book) 0 ≡ true) × (d ≡ fresh r book true)
    by true k q = (k, grind (arith, q))
    by false k q = absurd (grind (arith, q))

built-err : (r : Record) (book : ℕ) {u : Unbuilt} → Err u ≡ build_of r book → (eqb (build_refusal r book) 0 ≡ false) × (u.refusal ≡ refusal (build_refusal r book))
unfolding build_of made
built-err r book {u} e = by (eqb (build_refusal r book) 0) refl e
  where
    by : (b : Bool) → eqb (build_refusal r book) 0 ≡ b
        → Err u ≡ cond {A = Result Device Unbuilt} b (Ok (cond b (fresh r book true) (fresh r 0 false))) (Err (record { device = cond b (fresh r book true) (fresh r 0 false); refusal = refusal (build_refusal r book) }))
        → (eqb (build_refusal r book) 0 ≡ false) × (u.refusal ≡ refusal (build_refusal r book))
    by true k q = absurd (grind (arith, q))
    by false k q = (k, (let w : u ≡ record { device = fresh r 0 false; refusal = refusal (build_refusal r book) } = grind (arith, q) in ap (λ (v : Unbuilt). v.refusal) w))

module _ (s : List ℕ) (book : ℕ) (t : List ℕ) {b : Bool} (l : length s ≡ record_size) (g : b ≡ record_coded s) where
  abbrev n : ℕ
  n = build_refusal (record_of s) book

  counted : build_number s book ≡ sooner b n
  unfolding build_number
  counted = rw (eq-eqb (length s) record_size l) (ap (λ (c : Bool). sooner c n) (sym g))

  -- a number that refuses it
  turned-down : (sooner b n ≡ 0 → ⊥) → (unless {A = ⊤} (built_number s book t) tt ≡ Err (refusal (sooner b n))) × (t ≡ built_state s book t)
  unfolding built_number built_state
  turned-down z =
      let k : eqb (build_number s book) 0 ≡ false = ap (λ (m : ℕ). eqb m 0) counted ∙ ne_eqb (sooner b n) 0 z in
      (rw (k, k) (ap (λ (m : ℕ). Err (refusal m)) counted), rw (k, k))

  pub build-layout : {d : Device} → Ok d ≡ build_of (record_of s) book → b ≡ false → (◌≡◌ {A = Result ⊤ Refusal} (Err Layout) (unless (built_number s book t) tt)) × (t ≡ built_state s book t)
  build-layout e f =
      let z : sooner b n ≡ 2 = ap₂ sooner f (eqb-true n 0 (built-ok (record_of s) book e).0) in
      let x = turned-down (λ y. (let q : ◌≡◌ {A = ℕ} 2 0 = sym z ∙ y in omega (arith, q))) in
      (ap (λ (m : ℕ). Err (refusal m)) (sym z) ∙ sym x.0, x.1)

  pub build-refused : {u : Unbuilt} {r : Refusal} → Err u ≡ build_of (record_of s) book → r ≡ refusal (sooner b (number_of u.refusal)) → (◌≡◌ {A = Result ⊤ Refusal} (Err r) (unless (built_number s book t) tt)) × (t ≡ built_state s book t)
  build-refused {u} {r} e f =
      let k = built-err (record_of s) book e in
      let o = eqb-false n 0 k.0 in
      let m : number_of u.refusal ≡ n = ap number_of k.1 ∙ build-named (record_of s) book o in
      let x = turned-down (sooner-some b n o) in
      (ap (λ (w : Refusal). Err w) (f ∙ ap (λ (j : ℕ). refusal (sooner b j)) m) ∙ sym x.0, x.1)

  pub build-done : {d : Device} {r : Result ⊤ Refusal} {t₁ : List ℕ} → Ok d ≡ build_of (record_of s) book → b ≡ true → Writing r t₁ d t → (r ≡ unless (built_number s book t) tt) × (t₁ ≡ built_state s book t)
  unfolding built_number built_state
  build-done {d} {r} {t₁} e f w = by-room (eqb (length t) state_size) refl
    where
      x : (eqb n 0 ≡ true) × (d ≡ fresh (record_of s) book true)
      x = built-ok (record_of s) book e

      k : eqb (build_number s book) 0 ≡ true
      k = ap (λ (m : ℕ). eqb m 0) (counted ∙ ap (λ (c : Bool). sooner c n) f) ∙ x.0

      by-room : (c : Bool) → eqb (length t) state_size ≡ c → (r ≡ unless (built_number s book t) tt) × (t₁ ≡ built_state s book t)
      by-room true c = (w.value ∙ rw (k, c) refl, w.state ∙ rw (k, c) (ap bytes_of x.1))
      by-room false c = (w.value ∙ rw (k, c) refl, w.state ∙ rw (k, c) refl)

pub built-named : (s : List ℕ) (book : ℕ) (t : List ℕ) → Numbered (built_number s book t)
unfolding built_number build_number
built-named s book t =
    cond-elim Numbered (eqb (build_number s book) 0) _ _ (λ e. cond-elim Numbered (eqb (length t) state_size) 0 9 (λ _ z. absurd (z refl)) (λ _ z. refl))
    (λ e. cond-elim Numbered (eqb (length s) record_size) _ 1 (λ _. sooner-named (record_coded s) (build_refusal (record_of s) book) (build-named (record_of s) book)) (λ _ z. refl))

pub number_small : (why : Refusal) → number_of why < 16
number_small PacketSize = omega arith
number_small Layout = omega arith
number_small Languages = omega arith
number_small BookLength = omega arith
number_small OtherBook = omega arith
number_small PacketRoom = omega arith
number_small NoData = omega arith
number_small DataRoom = omega arith
number_small BadState = omega arith
number_small BadEvent = omega arith
number_small BadSetup = omega arith
number_small AnswerRoom = omega arith
