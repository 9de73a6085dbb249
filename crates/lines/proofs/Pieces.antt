-- A stream that is handed over in pieces is told in the same lines as in one: behind k event records that were taken, the
-- device then and the number then go on with what is left. Assumes nothing.
use Rattle.std.proofs.Common.{◌≡◌, ℕ, zero, suc, ◌+◌, ◌*◌, ◌%◌, ◌^◌, ◌<◌, Bool, true, false, eqb, List, ◌++◌, take, drop, sym, refl, ap, ◌∙◌, ap₂, append_assoc, suc-add, zero-add, arith, drop-drop}
use borrow.Author.Tests.{eqb-false}
use Rattle.device.specs.declared.Device.{Device}
use Rattle.records.specs.Records.{known_of}
use Rattle.records.specs.Sizes.{event_room}
use Rattle.stream.specs.Stream.{turn, runs}
use Rattle.lines.specs.Entries.{after, event_line, told_lines}

-- the numbers go on
number-on : (n k : ℕ) → (after n + k) % 2 ^ 64 ≡ (n + suc k) % 2 ^ 64
number-on n k = omega arith

number_same : (n : ℕ) → n < 2 ^ 64 → n ≡ (n + 0) % 2 ^ 64
number_same n l = omega arith

after-fits : (n : ℕ) → after n < 2 ^ 64
after-fits n = omega arith

module _ (book : List ℕ) where
  -- what is told of a stream whose first k records are taken
  abbrev Split : ℕ → ℕ → ℕ → Device → List ℕ → Type 0
  Split k m n d events = told_lines (k + m) n d book events ≡ told_lines k n d book events ++ told_lines m ((n + k) % 2 ^ 64) (runs k d book events).device book (drop (event_room * k) events)

  pub pieces : (k m n : ℕ) (d : Device) (events : List ℕ) → n < 2 ^ 64 → (runs k d book events).number ≡ 0 → Split k m n d events
  unfolding runs told_lines
  pieces zero m n d events l e = ap₂ (λ (a b : ℕ). told_lines a b d book events) (zero-add m) (number_same n l)
  pieces (suc k) m n d events l e =
      let t = turn d book (take event_room events) in
      by (λ z. pieces k m (after n) t.device (drop event_room events) (after-fits n) z) (eqb t.number 0) refl
    where
      by : ((runs k (turn d book (take event_room events)).device book (drop event_room events)).number ≡ 0 → Split k m (after n) (turn d book (take event_room events)).device (drop event_room events))
          → (b : Bool) → eqb (turn d book (take event_room events)).number 0 ≡ b → Split (suc k) m n d events
      by f true z =
          let s = take event_room events in
          let t = turn d book s in
          let a = event_line (known_of s) n d book s in
          let x = f (rw z at e) in
          let q : event_room + event_room * k ≡ event_room * suc k = omega arith in
          let g : drop (event_room * k) (drop event_room events) ≡ drop (event_room * suc k) events = drop-drop (event_room * k) event_room events ∙ ap (λ (j : ℕ). drop j events) q in
          let p = told_lines k (after n) t.device book (drop event_room events) in
          let y = rw (number-on n k, g) at x in
          rw (suc-add k m, z) (ap (λ (v : List ℕ). a ++ v) y ∙ sym (append_assoc a p (told_lines m ((n + suc k) % 2 ^ 64) (runs k t.device book (drop event_room events)).device book (drop (event_room * suc k) events))))
      by f false z = absurd (eqb-false (turn d book (take event_room events)).number 0 z (rw z at e))
