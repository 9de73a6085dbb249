-- Laws of lines that the proofs cite. Assumes nothing.
use Rattle.std.proofs.Common.{◌≡◌, ℕ, zero, suc, ◌+◌, ◌-◌, ◌*◌, ◌/◌, ◌%◌, ◌^◌, ◌<◌, ◌≤◌, min, Bool, true, false, cond, eqb, ltb, leb, List, [], ◌∷◌, ◌++◌, length, get_or, take, drop, sym, refl, ap, ◌∙◌, ap₂, append_assoc, append-nil, add-zero, add-one, arith, length-append, length-drop, length-take, length-take-le, take_all, drop-drop, drop-cons, le-ltb, lt-ltb, leb-false, leb-true}
use native.Mathlib.Nat.{sub-zero}
use lib.ListN.{drop_of_length-le}
use Rattle.common.specs.Bytes.{placed}
use Rattle.common.proofs.Laws.{placed-nil, placed-more, length-placed, cond-elim, at_most}
use Rattle.common.proofs.Pending.{Pending, pending-start, pending-as, pending-turn, pending-end}
use Rattle.requests.specs.declared.State.{State}
use Rattle.effects.specs.declared.Action.{Action}
use Rattle.effects.specs.declared.Action.TheVariants.{Nothing, Resume, Suspend, Reset, UnstallOut, UnstallIn, StallOut, StallIn, Halt, Unhalt, Address, Write, Refused}
use Rattle.actions.specs.declared.Actions.{Actions}
use Rattle.stream.specs.Trace.{entry_room, top_room}
use Rattle.lines.specs.Lines.{digit, hex_of, hexes, decimal_in, decimal, word_of, words_of, line_of, bad_line}
use Rattle.lines.specs.Entries.{Wrote, state_at, action_in, actions_in, entry_line, stop_line, lines_of, after, line_room, bad_room, room_for}

-- ---- bytes one after the other

pub wrote_none : (d : List ℕ) (at : ℕ) → Wrote at d [] d at
wrote_none d at = record { value = sym (add-zero at); out = sym (placed-nil d at) }

pub wrote-more : {r q at : ℕ} {d₀ d₁ d₂ s t : List ℕ} → Wrote r d₁ s d₀ at → Wrote q d₂ t d₁ r → at + length s + length t ≤ length d₀ → Wrote q d₂ (s ++ t) d₀ at
wrote-more {r} {q} {at} {d₀} {d₁} {d₂} {s} {t} x y l =
    record {
      value = let e = length-append s t in omega (arith, x.value, y.value, e);
      out = y.out ∙ (ap₂ (λ (d : List ℕ) (a : ℕ). placed d a t) x.out x.value ∙ placed-more d₀ s t at l);
    }

-- ---- decimal digits

pub decimal-most : (k n : ℕ) → length (decimal_in k n) ≤ k
unfolding decimal_in
decimal-most zero n = omega arith
decimal-most (suc k) n =
    cond-elim (λ (x : List ℕ). length x ≤ suc k) (ltb n 10) _ _ (λ e. omega arith)
    (λ e. let l = decimal-most k (n / 10) in simp length-append (omega arith))

tens : ℕ → ℕ
tens zero = 1
tens (suc k) = 10 * tens k

-- one place more than a number needs adds nothing
decimal-more : (k n : ℕ) → n < tens k → 1 ≤ k → decimal_in k n ≡ decimal_in (suc k) n
unfolding decimal_in tens
decimal-more zero n h l = absurd (omega arith)
decimal-more (suc zero) n h l = let k : n < 10 = omega (arith, h) in rw (lt-ltb n 10 k)
decimal-more (suc (suc k)) n h l =
    let m : n / 10 < tens (suc k) = omega (arith, h) in
    ap (λ (x : List ℕ). cond (ltb n 10) (digit n ∷ []) (x ++ (digit (n % 10) ∷ []))) (decimal-more (suc k) (n / 10) m (omega arith))

pub decimal-one : (n : ℕ) → n < 10 → digit n ∷ [] ≡ decimal n
unfolding decimal_in
decimal-one n h = rw (lt-ltb n 10 h)

decimal-next : (n : ℕ) → n < 2 ^ 64 → 10 ≤ n → decimal (n / 10) ++ (digit (n % 10) ∷ []) ≡ decimal n
unfolding decimal_in tens
decimal-next n h l =
    let m : n / 10 < tens 19 = omega (arith, h) in
    rw (le-ltb n 10 l) (ap (λ (x : List ℕ). x ++ (digit (n % 10) ∷ [])) (sym (decimal-more 19 (n / 10) m (omega arith))))

pub decimal-two : (n : ℕ) → 10 ≤ n → n < 100 → digit (n / 10) ∷ digit (n % 10) ∷ [] ≡ decimal n
decimal-two n l h =
    let k : n / 10 < 10 = omega arith in
    let m : n < 2 ^ 64 = omega arith in
    ap (λ (x : List ℕ). x ++ (digit (n % 10) ∷ [])) (decimal-one (n / 10) k) ∙ decimal-next n m l

pub decimal-hundreds : (n : ℕ) → n < 2 ^ 64 → 100 ≤ n → decimal (n / 100) ++ (digit (n / 10 % 10) ∷ digit (n % 10) ∷ []) ≡ decimal n
decimal-hundreds n h l =
    let k : n / 10 < 2 ^ 64 = omega arith in
    let m : 10 ≤ n / 10 = omega arith in
    let o : 10 ≤ n = omega arith in
    let e : n / 100 ≡ n / 10 / 10 = omega arith in
    let x : decimal (n / 100) ++ (digit (n / 10 % 10) ∷ []) ≡ decimal (n / 10) = rw e (decimal-next (n / 10) k m) in
    sym (append_assoc (decimal (n / 100)) (digit (n / 10 % 10) ∷ []) (digit (n % 10) ∷ [])) ∙ (ap (λ (y : List ℕ). y ++ (digit (n % 10) ∷ [])) x ∙ decimal-next n h o)

-- a number's other digits leave two places
pub decimal-fewer : (n : ℕ) → n < 2 ^ 64 → length (decimal (n / 100)) ≤ 18
unfolding tens
decimal-fewer n h =
    let k : n / 100 < tens 18 = omega (arith, h) in
    let m : n / 100 < tens 19 = omega (arith, h) in
    let e = decimal-more 18 (n / 100) k (omega arith) ∙ decimal-more 19 (n / 100) m (omega arith) in
    rw (← e) (decimal-most 18 (n / 100))

-- ---- how long a word and a line can be

pub hexes-length : (bs : List ℕ) → length (hexes bs) ≡ 2 * length bs
unfolding hexes
hexes-length [] = refl
hexes-length (b ∷ bs) = let e = hexes-length bs in omega (arith, e)

pub packet-most : (n : ℕ) (p : List ℕ) → length p ≤ 64 → length (hexes (take n p)) ≤ 128
packet-most n p l = let e = hexes-length (take n p) in let k = length-take n p in omega (arith, e, k)

pub word-most : (a : Action) (p : List ℕ) → length p ≤ 64 → length (word_of a p) ≤ 130
unfolding word_of hexes
word-most Nothing p l = omega arith
word-most Resume p l = omega arith
word-most Suspend p l = omega arith
word-most Reset p l = omega arith
word-most UnstallOut p l = omega arith
word-most UnstallIn p l = omega arith
word-most StallOut p l = omega arith
word-most StallIn p l = omega arith
word-most (Halt e) p l = omega arith
word-most (Unhalt e) p l = omega arith
word-most (Address a) p l = omega arith
word-most (Write n) p l = omega (arith, packet-most n p l)
word-most (Refused n) p l = omega (arith, packet-most n p l)

pub line-most : (n : ℕ) (s : State) (a : Actions) (p : List ℕ) → length p ≤ 64 → length (line_of n s a p) ≤ line_room
unfolding line_of
line-most n s a p l =
    let d = decimal-most 20 n in
    let v = word-most a.first p l in
    let w = word-most a.second p l in
    let x = word-most a.third p l in
    let y = word-most a.fourth p l in
    let z = word-most a.fifth p l in
    simp length-append (omega (arith, d, v, w, x, y, z))

pub bad-most : (n : ℕ) → length (bad_line n) ≤ bad_room
unfolding bad_line
bad-most n = let d = decimal-most 20 n in simp length-append (omega (arith, d))

pub words-most : (a : Actions) (p : List ℕ) → length p ≤ 64 → length (words_of a p) ≤ 650
words-most a p l =
    let v = word-most a.first p l in
    let w = word-most a.second p l in
    let x = word-most a.third p l in
    let y = word-most a.fourth p l in
    let z = word-most a.fifth p l in
    simp length-append (omega (arith, v, w, x, y, z))

-- ---- the room behind what was written

pub wrote-long : {r at : ℕ} {d d₀ s : List ℕ} → Wrote r d s d₀ at → at + length s ≤ length d₀ → length d ≡ length d₀
wrote-long {r} {at} {d} {d₀} {s} w l = ap length w.out ∙ length-placed d₀ s at l

pub wrote-room : {r at : ℕ} {d d₀ s : List ℕ} (k m : ℕ) → Wrote r d s d₀ at → length s ≤ k → at + (k + m) ≤ length d₀ → r + m ≤ length d
wrote-room {r} {at} {d} {d₀} {s} k m w l h =
    let o : at + length s ≤ length d₀ = omega arith in
    let e = wrote-long w o in
    omega (arith, w.value, e)

-- ---- parts

pub take_min : (n : ℕ) (p : List ℕ) → take (min n (length p)) p ≡ take n p
take_min n p = by (leb n (length p)) refl
  where
    by : (t : Bool) → leb n (length p) ≡ t → take (min n (length p)) p ≡ take n p
    by true z = let l : n ≤ length p = leb-true n (length p) z in let e : min n (length p) ≡ n = omega arith in rw e
    by false z =
        let l : length p < n = leb-false n (length p) z in
        let e : min n (length p) ≡ length p = omega arith in
        rw e (take_all (length p) p (omega arith) ∙ sym (take_all n p (omega arith)))

-- an action's word in an entry
pub slot-most : (e : List ℕ) → length e ≡ entry_room → (i : ℕ) → length (word_of (action_in e i) (drop top_room e)) ≤ 130
slot-most e l i = let k = length-drop top_room e in word-most (action_in e i) (drop top_room e) (omega (arith, k, l))

-- a part that is at most so long, and two of them
pub record Short (r : ℕ) (d s d₀ : List ℕ) (at k : ℕ) : Type 0 where
  pub wrote : Wrote r d s d₀ at
  pub most : length s ≤ k

pub short : {r at k : ℕ} {d s d₀ : List ℕ} → Wrote r d s d₀ at → length s ≤ k → Short r d s d₀ at k
short w l = record { wrote = w; most = l }

pub short-then : {r q at k m : ℕ} {d₀ d₁ d₂ s t : List ℕ} → Short r d₁ s d₀ at k → Short q d₂ t d₁ r m → at + (k + m) ≤ length d₀ → Short q d₂ (s ++ t) d₀ at (k + m)
short-then {s = s} {t = t} x y o =
    let h = x.most in
    let l = y.most in
    let e = length-append s t in
    record { wrote = wrote-more x.wrote y.wrote (omega arith); most = omega arith }

pub entry-most : (e : List ℕ) → length e ≡ entry_room → length (words_of (actions_in e) (drop top_room e)) ≤ 650
entry-most e l = let k = length-drop top_room e in words-most (actions_in e) (drop top_room e) (omega (arith, k, l))

-- ---- bytes in hex, one by one

module _ (bytes : List ℕ) {whole d₀ : List ℕ} {at : ℕ} (i : ℕ) {d : List ℕ} {p : ℕ} where
  pub hexes-turn : i < length bytes → Pending whole d₀ at (hexes (drop i bytes)) d p → Pending whole d₀ at (hex_of (get_or bytes i 0) ++ hexes (drop (i + 1) bytes)) d p
  unfolding hexes
  hexes-turn h x = pending-as (rw (add-one, drop-cons bytes i 0 h) refl) x

  pub hexes-end : length bytes ≤ i → Pending whole d₀ at (hexes (drop i bytes)) d p → Wrote p d whole d₀ at
  unfolding hexes
  hexes-end h x = let e = pending-end (pending-as (rw (drop_of_length-le bytes h) refl) x) in record { value = e.1; out = e.0 }

-- ---- the lines of a trace, entry by entry

pub entry-line-most : (n : ℕ) (e : List ℕ) → length e ≤ entry_room → length (entry_line n e) ≤ line_room
unfolding entry_line
entry-line-most n e l = let k = length-drop top_room e in line-most n (state_at (get_or e 0 0)) (actions_in e) (drop top_room e) (omega (arith, k, l))

pub stop-most : (n why : ℕ) → length (stop_line n why) ≤ bad_room
unfolding stop_line
stop-most n why = cond-elim (λ (x : List ℕ). length x ≤ bad_room) (eqb why 10) _ _ (λ e. bad-most n) (λ e. omega arith)

pub lines-most : (k n : ℕ) (t : List ℕ) (why : ℕ) → length (lines_of k n t why) ≤ line_room * k + bad_room
unfolding lines_of
lines-most zero n t why = stop-most n why
lines-most (suc k) n t why =
    let a = entry-line-most n (take entry_room t) (at_most entry_room t) in
    let b = lines-most k (after n) (drop entry_room t) why in
    simp length-append (omega (arith, a, b))

pub lines_start : (count n : ℕ) (trace : List ℕ) (why : ℕ) (out : List ℕ) → line_room * count + bad_room ≤ length out → Pending (lines_of count n trace why) out 0 (lines_of (count - 0) n trace why) out 0
lines_start count n trace why out l =
    let m = lines-most count n trace why in
    pending-as (ap (λ (k : ℕ). lines_of k n trace why) (sym (sub-zero count))) (pending-start refl (omega (arith, m)))

abbrev pub entry_at : List ℕ → ℕ → List ℕ
entry_at trace i = take entry_room (drop (entry_room * i) trace)

-- an entry as the code takes it from the trace
pub slice-entry : (trace : List ℕ) (i count : ℕ) → i < count → entry_room * count ≤ length trace
    → (take (entry_room * i + entry_room - entry_room * i) (drop (entry_room * i) trace) ≡ entry_at trace i) × (length (entry_at trace i) ≡ entry_room)
slice-entry trace i count l h =
    let e : entry_room * i + entry_room - entry_room * i ≡ entry_room = omega arith in
    let k = length-drop (entry_room * i) trace in
    (rw e refl, length-take-le entry_room (drop (entry_room * i) trace) (omega (arith, k)))

-- the room that is left
pub room-line : (at i count : ℕ) {o o₀ : ℕ} → at ≤ line_room * i → i < count → o ≡ o₀ → line_room * count + bad_room ≤ o₀ → at + line_room ≤ o
room-line at i count a l e h = omega arith

pub room-stop : (at i count : ℕ) {o o₀ : ℕ} → at ≤ line_room * i → i ≤ count → o ≡ o₀ → line_room * count + bad_room ≤ o₀ → at + bad_room ≤ o
room-stop at i count a l e h = omega arith

module _ (trace : List ℕ) (count why : ℕ) {whole d₀ : List ℕ} (i n : ℕ) {d : List ℕ} {p : ℕ} where
  pub lines-turn : {r m : ℕ} {d' : List ℕ} → i < count → p ≤ line_room * i → m ≡ after n → Pending whole d₀ 0 (lines_of (count - i) n (drop (entry_room * i) trace) why) d p
      → Wrote r d' (entry_line n (entry_at trace i)) d p → Pending whole d₀ 0 (lines_of (count - (i + 1)) m (drop (entry_room * (i + 1)) trace) why) d' r × (r ≤ line_room * (i + 1)) × (i + 1 ≤ count)
  unfolding lines_of
  lines-turn {r} {m} l h v x w =
      let k : count - i ≡ suc (count - (i + 1)) = omega arith in
      let q : entry_room * i + entry_room ≡ entry_room * (i + 1) = omega arith in
      let g : drop entry_room (drop (entry_room * i) trace) ≡ drop (entry_room * (i + 1)) trace = drop-drop entry_room (entry_room * i) trace ∙ ap (λ (k : ℕ). drop k trace) q in
      let rest = lines_of (count - (i + 1)) m (drop (entry_room * (i + 1)) trace) why in
      let e : lines_of (count - i) n (drop (entry_room * i) trace) why ≡ entry_line n (entry_at trace i) ++ rest = rw (k, g, v) refl in
      let o = entry-line-most n (entry_at trace i) (at_most entry_room (drop (entry_room * i) trace)) in
      (pending-turn (entry_line n (entry_at trace i)) rest (pending-as e x) w.out w.value, omega (arith, w.value, o), omega arith)

  pub lines_end : {r : ℕ} {d' : List ℕ} → count ≤ i → Pending whole d₀ 0 (lines_of (count - i) n (drop (entry_room * i) trace) why) d p → Wrote r d' (stop_line n why) d p → Wrote r d' whole d₀ 0
  unfolding lines_of
  lines_end l x w =
      let m : count - i ≡ 0 = omega arith in
      let e : lines_of (count - i) n (drop (entry_room * i) trace) why ≡ stop_line n why ++ [] = rw m (sym (append-nil (stop_line n why))) in
      let z = pending-end (pending-turn (stop_line n why) [] (pending-as e x) w.out w.value) in
      record { value = z.1; out = z.0 }

pub room_small : (n : ℕ) → 80 * room_for n ≤ n
unfolding room_for
room_small n = omega arith
