-- Laws of a state that the proofs cite. Assumes nothing.
use Rattle.std.proofs.Common.{◌≡◌, ℕ, ◌+◌, ◌-◌, ◌<◌, true, false, List, [], ◌++◌, length, take, drop, refl, sym, ap, ap₂, ◌∙◌, arith, append_assoc, append-nil, eq-eqb, ne_eqb, length-append, length-take, length-take-le, length-drop, take_all, take_at}
use Rattle.std.specs.Prelude.{Result, Ok}
use Rattle.std.proofs.lemmas.List.{drop-take, take-take}
use lib.ListN.{drop_of_length-le}
use Rattle.common.specs.Bytes.{part, placed}
use Rattle.common.specs.declared.Refusal.{Refusal}
use Rattle.control_pipe.specs.Sizes.{buffer_room}
use Rattle.device.specs.declared.Device.{Device}
use Rattle.live.specs.declared.Live.{Live}
use Rattle.record_bytes.specs.Layout.{record_size, record_bytes, record_of, record_coded}
use Rattle.live_bytes.specs.Layout.{live_size, live_bytes, live_of, live_coded}
use Rattle.live_bytes.proofs.Lengths.{live-length}
use Rattle.state.specs.State.{Parted, Writing, buffer_place, state_size, bytes_of, device_of, state_coded, read_of, kept}

-- ---- the parts of a state, as the code takes them: what stands before the buffer, and of that the record and the live part

module _ (s : List ℕ) where
  pub uncoded : (length s ≡ state_size → ⊥) → state_coded s ≡ false
  unfolding state_coded
  uncoded h = rw (ne_eqb (length s) state_size h)

  module _ {rest : List ℕ} (f : rest ≡ take (length s - buffer_room) s) where
    pub short-rest : length rest < record_size → state_coded s ≡ false
    short-rest h = uncoded (λ e. (let k = ap length f ∙ length-take (length s - buffer_room) s in omega (arith, k)))

    pub other-live : {l : List ℕ} → l ≡ drop record_size rest → (length l ≡ live_size → ⊥) → state_coded s ≡ false
    other-live g h =
        uncoded
        (λ e.
        let k = ap length f ∙ length-take (length s - buffer_room) s in
        let j = ap length g ∙ length-drop record_size rest in
        h (omega (arith, k, j, e)))

    module _ {r l b : List ℕ} (g : b ≡ drop (length s - buffer_room) s) (h : r ≡ take record_size rest) (i : l ≡ drop record_size rest) (j : length l ≡ live_size) where
      long : length s ≡ state_size
      long = let k = ap length f ∙ length-take (length s - buffer_room) s in let m = ap length i ∙ length-drop record_size rest in omega (arith, k, m)

      -- what stands before the buffer
      before : rest ≡ take buffer_place s
      before = f ∙ ap (λ (n : ℕ). take n s) (let e : length s - buffer_room ≡ buffer_place = let n = long in omega (arith, n) in e)

      record-part : r ≡ part 0 record_size s
      record-part = h ∙ (ap (take record_size) before ∙ take-take record_size buffer_place s (omega arith))

      live-part : l ≡ part record_size live_size s
      live-part = i ∙ (ap (drop record_size) before ∙ drop-take record_size live_size s)

      buffer-part : b ≡ part buffer_place buffer_room s
      buffer-part =
          g
          ∙ (ap (λ (n : ℕ). drop n s) (let e : length s - buffer_room ≡ buffer_place = let n = long in omega (arith, n) in e)
          ∙ sym (take_all buffer_room (drop buffer_place s) (let n = long in let k = length-drop buffer_place s in omega (arith, n, k))))

      pub bad-record : record_coded r ≡ false → state_coded s ≡ false
      unfolding state_coded
      bad-record e = rw (eq-eqb (length s) state_size long, ← record-part, e)

      pub bad-live : record_coded r ≡ true → live_coded l ≡ false → state_coded s ≡ false
      unfolding state_coded
      bad-live e k = rw (eq-eqb (length s) state_size long, ← record-part, ← live-part, e, k)

      pub parted : record_coded r ≡ true → live_coded l ≡ true → Parted r l b s
      unfolding state_coded
      parted e k = record { coded = rw (eq-eqb (length s) state_size long, ← record-part, ← live-part, e, k) refl; profile = record-part; live = live-part; buffer = buffer-part }

  pub read_some : {r l b : List ℕ} → Parted r l b s → ◌≡◌ {A = Result Device Refusal} (Ok (record { profile = record_of r; live = live_of l; buffer = b })) (read_of s)
  unfolding device_of
  read_some p = rw (p.coded, p.profile, p.live, p.buffer)

-- ---- a state that is written

-- a live part and a buffer, each put behind what stands there
pub kept-all : (live : Live) (b s : List ℕ) {l : List ℕ} (s₁ : List ℕ) {m : ℕ} → length s ≡ state_size → l ≡ live_bytes live → length b ≡ buffer_room → s₁ ≡ take record_size s ++ (l ++ drop live_size (drop record_size s))
    → m ≡ length s₁ - buffer_place → take buffer_place s₁ ++ (b ++ drop m (drop buffer_place s₁)) ≡ kept live b s
unfolding placed
kept-all live b s {l} s₁ {m} n e g h k =
    let p : length l ≡ live_size = ap length e ∙ live-length live in
    let q : length (take record_size s) ≡ record_size = length-take-le record_size s (omega (arith, n)) in
    let r = drop live_size (drop record_size s) in
    let u : s₁ ≡ (take record_size s ++ l) ++ r = h ∙ sym (append_assoc (take record_size s) l r) in
    let v : length (take record_size s ++ l) ≡ buffer_place = length-append (take record_size s) l ∙ omega (arith, p, q) in
    let w : take buffer_place s₁ ≡ take record_size s ++ l = ap (take buffer_place) u ∙ take_at (take record_size s ++ l) r buffer_place v in
    let x : drop m (drop buffer_place s₁) ≡ [] = drop_of_length-le (drop buffer_place s₁) (let y = length-drop buffer_place s₁ in omega (arith, k, y)) in
    let t = live_bytes live ++ b in
    let c : length t ≡ live_size + buffer_room = length-append (live_bytes live) b ∙ ap₂ (λ (i j : ℕ). i + j) (live-length live) g in
    let d : drop (record_size + length t) s ≡ [] = drop_of_length-le s (omega (arith, n, c)) in
    rw (eq-eqb (length s) state_size n, w, x, d, append-nil b, append-nil t, e) (append_assoc (take record_size s) (live_bytes live) b)

pub wrote-all : (d : Device) (s : List ℕ) {s₂ r : List ℕ} → length s ≡ state_size → r ≡ record_bytes d.profile → length r ≡ record_size → length d.buffer ≡ buffer_room
    → s₂ ≡ kept d.live d.buffer (r ++ drop record_size s) → Writing (Ok tt) s₂ d s
unfolding bytes_of placed
wrote-all d s {s₂} {r} n e a g h =
    let t = live_bytes d.live ++ d.buffer in
    let c : length t ≡ live_size + buffer_room = length-append (live_bytes d.live) d.buffer ∙ ap₂ (λ (i j : ℕ). i + j) (live-length d.live) g in
    let l : length (r ++ drop record_size s) ≡ state_size = length-append r (drop record_size s) ∙ (let k = length-drop record_size s in omega (arith, k, a, n)) in
    let w : take record_size (r ++ drop record_size s) ≡ r = take_at r (drop record_size s) record_size a in
    let x : drop (record_size + length t) (r ++ drop record_size s) ≡ [] = drop_of_length-le (r ++ drop record_size s) (omega (arith, l, c)) in
    record {
      value = rw (eq-eqb (length s) state_size n) refl;
      state = h ∙ rw (eq-eqb (length (r ++ drop record_size s)) state_size l, eq-eqb (length s) state_size n, w, x, append-nil t) (ap (λ (u : List ℕ). u ++ t) e);
    }
