-- Laws of a run that the proofs cite. Assumes nothing.
use Rattle.std.proofs.Common.{◌≡◌, ℕ, suc, ◌+◌, ◌-◌, ◌*◌, ◌/◌, ◌%◌, ◌<◌, ◌≤◌, min, Bool, true, false, ◌&&◌, eqb, leb, List, [], ◌++◌, length, get_or, take, drop, sym, refl, ap, ap₂, ◌∙◌, append_assoc, append-nil, add-zero, arith, length-append, length-drop, length-take-le, take_all, drop-drop, leb-true, ne_eqb, eqb-true, take-append-drop, leb-false}
use Rattle.std.proofs.lemmas.Bool.{eqb-false}
use native.Mathlib.Nat.{sub-zero, zero-add}
use lib.ListN.{drop_of_length-le}
use lib.Seq.{take_at, drop-append-le}
use Rattle.std.specs.Prelude.{⊤, Result, Ok, Err, Some, None}
use Rattle.common.specs.Bytes.{part, placed, front}
use Rattle.common.specs.Lists.{every}
use Rattle.common.specs.Refusals.{number_of, refusal, unless}
use Rattle.common.specs.declared.Refusal.{Refusal}
use Rattle.common.specs.declared.Refusal.TheVariants.{PacketSize, Layout, Languages, BookLength, OtherBook, PacketRoom, NoData, DataRoom, BadState, BadEvent, BadSetup, AnswerRoom}
use Rattle.common.proofs.Refusals.{Named, named, passed, refused}
use Rattle.common.proofs.Laws.{cond-elim, and_left, and_right, length-placed, placed-nil, placed-more}
use Rattle.requests.specs.declared.State.{State}
use Rattle.live.specs.declared.Live.{Live}
use Rattle.device.specs.declared.Device.{Device}
use Rattle.device.proofs.Laws.{step-named}
use Rattle.records.specs.declared.Happening.{Happening}
use Rattle.records.specs.Records.{is_zero, data_fine, kind_of, known_of}
use Rattle.records.specs.Sizes.{event_room, head_room, packet_room}
use Rattle.stream.specs.declared.Ran.{Ran}
use Rattle.stream.specs.Trace.{entry_room, top_room, top_bytes, entry_of}
use Rattle.events.specs.declared.Handled.{Handled}
use Rattle.events.specs.Events.{Came, handled_of}
use Rattle.device.specs.declared.Polled.{Polled}
use Rattle.device.specs.Device.{refused_by, step_of, room_of, done, polled_of}
use Rattle.steady.proofs.Usable.{taken-again}
use Rattle.stream.specs.Stream.{Turning, Running, Turn, Run, ran_of, clean, turn_of, turned, turn_by, turn, stopped, longer, runs, turns_by}

-- ---- an event record that is read has 80 bytes and a packet of at most 64

length_of : Result Happening Refusal → ℕ
length_of (Ok h) = h.length
length_of (Err why) = 0

readable : Result Happening Refusal → ℕ
readable (Ok h) = 1
readable (Err why) = 0

abbrev Few : Result Happening Refusal → Type 0
Few k = length_of k ≤ packet_room

few : (s : List ℕ) (kind : ℕ) → Few (kind_of kind s)
unfolding length_of
few s kind =
    cond-elim Few (eqb kind 0) _ _ (λ e. omega arith)
    (λ e. cond-elim Few (eqb kind 1) _ _ (λ e. omega arith)
    (λ e. cond-elim Few (eqb kind 2) _ _ (λ e. omega arith)
    (λ e. cond-elim Few (eqb kind 3) _ _ (λ e. omega arith)
    (λ e. cond-elim Few (eqb kind 4) _ _
    (λ e. cond-elim Few (data_fine s) _ _
    (λ e.
    let a = leb (get_or s 1 0) 2 && leb (get_or s 2 0) 1 in
    let b = leb (get_or s 3 0) packet_room in
    let c = every is_zero (drop 10 (take head_room s)) in
    let d = every is_zero (drop (head_room + get_or s 3 0) (take event_room s)) in
    leb-true (get_or s 3 0) packet_room (and_right a b (and_left (a && b) c (and_left (a && b && c) d e))))
    (λ e. omega arith))
    (λ e. omega arith)))))

pub known-good : (s : List ℕ) (h : Happening) → Ok h ≡ known_of s → (length s ≡ event_room) × (h.length ≤ packet_room)
unfolding length_of readable
known-good s h f = by (eqb (length s) event_room) refl
  where
    e : known_of s ≡ Ok h
    e = sym f

    by : (t : Bool) → eqb (length s) event_room ≡ t → (length s ≡ event_room) × (h.length ≤ packet_room)
    by true z =
        let k : kind_of (get_or s 0 0) s ≡ Ok h = rw z at e in
        let l : length_of (kind_of (get_or s 0 0) s) ≤ packet_room = few s (get_or s 0 0) in
        (eqb-true (length s) event_room z, rw k at l)
    by false z = absurd (let k : ◌≡◌ {A = ℕ} 0 1 = ap readable (rw z at e) in omega (arith, k))

-- ---- an entry is its head and then the room

length_front : (p r : List ℕ) → length (front p r) ≡ length r
unfolding front
length_front p r =
    cond-elim (λ (x : List ℕ). length x ≡ length r) (leb (length p) (length r)) _ _
    (λ e. let l : length p ≤ length r = leb-true (length p) (length r) e in simp (length-append, length-drop) (omega arith))
    (λ e. refl)

entry-long : (s : State) (p : Polled) (packet : List ℕ) → length (entry_of s p (front packet clean)) ≡ entry_room
entry-long s p packet = length-append (top_bytes s p) (front packet clean) ∙ ap (λ (k : ℕ). top_room + k) (length_front packet clean)

-- all of a room
placed-all : (d s : List ℕ) → length s ≡ length d → placed d 0 s ≡ s
unfolding placed
placed-all d s e = let k : length d ≤ length s = omega (arith, e) in rw (zero-add (length s), drop_of_length-le d k) (append-nil s)

-- ---- a turn, from what the calls ensure

refuses : (why : Refusal) → Err why ≡ unless {A = ⊤} (number_of why) tt
refuses PacketSize = refl
refuses Layout = refl
refuses Languages = refl
refuses BookLength = refl
refuses OtherBook = refl
refuses PacketRoom = refl
refuses NoData = refl
refuses DataRoom = refl
refuses BadState = refl
refuses BadEvent = refl
refuses BadSetup = refl
refuses AnswerRoom = refl

module _ (d : Device) (book s entry : List ℕ) where
  pub turn-bad : {r : Result ⊤ Refusal} (why : Refusal) → Err why ≡ known_of s → r ≡ Err why → Turning r d entry (turn d book s) entry
  unfolding turn_by
  turn-bad why k e = rw (← k) (record { value = e ∙ refuses why; device = refl; written = sym (placed-nil entry 0) })

  pub turn-unfit : {r fit : Result ⊤ Refusal} (h : Happening) (why : Refusal) → Ok h ≡ known_of s → fit ≡ unless (refused_by d book clean) tt → fit ≡ Err why → r ≡ Err why
      → Turning r d entry (turn d book s) entry
  unfolding turn_by turned turn_of step_of
  turn-unfit h why k f g e =
      let z = refused (refused_by d book clean) tt why (sym g ∙ f) in
      rw (← k, z.0)
      (record { value = e ∙ (ap (λ (w : Refusal). Err w) z.1 ∙ refuses (refusal (refused_by d book clean))); device = refl; written = sym (placed-nil entry 0) })

  pub turn-done : {x : Handled} {p : Polled} {live : Live} {buffer room exit : List ℕ} {fit : Result ⊤ Refusal} (h : Happening) → Ok h ≡ known_of s → fit ≡ unless (refused_by d book clean) tt → fit ≡ Ok tt
      → Came x live buffer room (done d book h.event (part head_room h.length s)) clean → p ≡ polled_of x h.event → exit ≡ entry_of live.kept.state p room → length entry ≡ entry_room
      → Turning (Ok tt) (record d { live = live; buffer = buffer }) exit (turn d book s) entry
  unfolding turn_by turned turn_of step_of room_of
  turn-done {x} {p} {live} {buffer} {room} {exit} h k f g c e w l =
      let D = done d book h.event (part head_room h.length s) in
      let z = passed (refused_by d book clean) tt tt (sym g ∙ f) in
      let P = polled_of (handled_of D) h.event in
      let q : p ≡ P = e ∙ ap (λ (a : Handled). polled_of a h.event) c.value in
      let E = entry_of D.live.kept.state P (front D.packet clean) in
      let y : exit ≡ E = w ∙ (ap₂ (λ (a : Live) (b : Polled). entry_of a.kept.state b room) c.live q ∙ ap (λ (a : List ℕ). entry_of D.live.kept.state P a) c.room) in
      let n : length E ≡ length entry = entry-long D.live.kept.state P D.packet ∙ sym l in
      rw (← k, z)
      (record {
        value = refl;
        device = ap₂ {C = Device} (λ (a : Live) (b : List ℕ). record d { live = a; buffer = b }) c.live c.buffer;
        written = y ∙ sym (placed-all entry E n);
      })

-- ---- a record is refused with 10 alone, so that a turn that no number refuses has a whole entry

abbrev Ten : Result Happening Refusal → Type 0
Ten (Ok h) = Unit {0}
Ten (Err why) = why ≡ refusal 10

ten : (s : List ℕ) → Ten (known_of s)
ten s =
    let kind = get_or s 0 0 in
    cond-elim Ten (eqb (length s) event_room) _ _
    (λ e. cond-elim Ten (eqb kind 0) _ _ (λ e. tt)
    (λ e. cond-elim Ten (eqb kind 1) _ _ (λ e. tt)
    (λ e. cond-elim Ten (eqb kind 2) _ _ (λ e. tt)
    (λ e. cond-elim Ten (eqb kind 3) _ _ (λ e. tt)
    (λ e. cond-elim Ten (eqb kind 4) _ _ (λ e. cond-elim Ten (data_fine s) _ _ (λ e. tt) (λ e. refl)) (λ e. refl))))))
    (λ e. refl)

-- what a turn may do: its number, if it has one, is of the table; it keeps the record, refused it does nothing, and no number that refuses a
-- step comes after one that refuses none
pub record Sound (d : Device) (book : List ℕ) (t : Turn) : Type 0 where
  pub number : (t.number ≡ 0 → ⊥) → Named t.number
  pub profile : t.device.profile ≡ d.profile
  pub device : (t.number ≡ 0 → ⊥) → t.device ≡ d
  pub entry : (t.number ≡ 0 → ⊥) → t.entry ≡ []
  pub long : t.number ≡ 0 → length t.entry ≡ entry_room
  pub fit : t.number ≡ 0 → (refused_by d book clean ≡ 0) × (refused_by t.device book clean ≡ 0)

pub sound : (d : Device) (book s : List ℕ) → Sound d book (turn d book s)
unfolding turn_by turned turn_of step_of room_of
sound d book s = by (known_of s) (ten s)
  where
    by : (k : Result Happening Refusal) → Ten k → Sound d book (turn_by k d book s)
    by (Err why) t =
        record {
          number = λ z. ap number_of (named why);
          profile = refl;
          device = λ z. refl;
          entry = λ z. refl;
          long = λ z. absurd (let x : ◌≡◌ {A = ℕ} 10 0 = sym (ap number_of t) ∙ z in omega (arith, x));
          fit = λ z. absurd (let x : ◌≡◌ {A = ℕ} 10 0 = sym (ap number_of t) ∙ z in omega (arith, x));
        }
    by (Ok h) t = at (eqb (refused_by d book clean) 0) refl
      where
        n : ℕ
        n = refused_by d book clean

        at : (b : Bool) → eqb n 0 ≡ b → Sound d book (turned d book h s)
        at true z =
            let y = eqb-true n 0 z in
            let D = done d book h.event (part head_room h.length s) in
            let m : refused_by (step_of d book h.event (part head_room h.length s) clean).device book clean ≡ 0 = taken-again d book h.event (part head_room h.length s) clean y in
            rw z
            (record {
              number = λ w. absurd (w refl);
              profile = refl;
              device = λ w. absurd (w refl);
              entry = λ w. absurd (w refl);
              long = λ w. entry-long D.live.kept.state (polled_of (handled_of D) h.event) D.packet;
              fit = λ w. (y, rw z at m);
            })
        at false z =
            let o : n ≡ 0 → ⊥ = eqb-false n 0 z in
            let k : number_of (refusal n) ≡ n = step-named d book clean o in
            rw z
            (record {
              number = λ w. ap number_of (named (refusal n));
              profile = refl;
              device = λ w. refl;
              entry = λ w. refl;
              long = λ w. absurd (o (sym k ∙ w));
              fit = λ w. absurd (o (sym k ∙ w));
            })

-- ---- a run, turn by turn

module _ (book : List ℕ) where
  pub run-turn : (whole : Run) (d : Device) (n i : ℕ) (b events : List ℕ) → i < n → whole ≡ longer b i (runs (n - i) d book (drop (event_room * i) events))
      → (turn d book (take event_room (drop (event_room * i) events))).number ≡ 0
      → whole ≡ longer (b ++ (turn d book (take event_room (drop (event_room * i) events))).entry) (i + 1) (runs (n - (i + 1)) (turn d book (take event_room (drop (event_room * i) events))).device book (drop (event_room * (i + 1)) events))
  unfolding runs
  run-turn whole d n i b events l e z =
      let t = turn d book (take event_room (drop (event_room * i) events)) in
      let m : n - i ≡ suc (n - (i + 1)) = omega arith in
      let q : event_room * i + event_room ≡ event_room * (i + 1) = omega arith in
      let g : drop event_room (drop (event_room * i) events) ≡ drop (event_room * (i + 1)) events = drop-drop event_room (event_room * i) events ∙ ap (λ (k : ℕ). drop k events) q in
      let r = runs (n - (i + 1)) t.device book (drop (event_room * (i + 1)) events) in
      let c : r.count + 1 + i ≡ r.count + (i + 1) = omega arith in
      e
      ∙ rw (m, z, g)
      (ap₂ {C = Run} (λ (x : List ℕ) (y : ℕ). record { device = r.device; bytes = x; count = y; number = r.number }) (sym (append_assoc b t.entry r.bytes)) c)

  pub run-stop : (whole : Run) (d : Device) (n i : ℕ) (b events : List ℕ) → i < n → whole ≡ longer b i (runs (n - i) d book (drop (event_room * i) events))
      → ((turn d book (take event_room (drop (event_room * i) events))).number ≡ 0 → ⊥)
      → whole ≡ longer b i (stopped d (turn d book (take event_room (drop (event_room * i) events))).number)
  unfolding runs
  run-stop whole d n i b events l e z =
      let m : n - i ≡ suc (n - (i + 1)) = omega arith in
      e ∙ rw (m, ne_eqb _ _ z) refl

  pub run_end : (whole : Run) (d : Device) (n i : ℕ) (b events : List ℕ) → n ≤ i → whole ≡ longer b i (runs (n - i) d book (drop (event_room * i) events)) → whole ≡ longer b i (stopped d 0)
  unfolding runs
  run_end whole d n i b events l e = let m : n - i ≡ 0 = omega arith in e ∙ rw m refl

-- ---- the trace, entry by entry: what is written stands at its front

pub trace-turn : (entry trace exit x : List ℕ) (i : ℕ) → length trace ≡ length entry → trace ≡ placed entry 0 (take (entry_room * i) trace)
    → exit ≡ placed trace (entry_room * i) x → length x ≡ entry_room → entry_room * i + entry_room ≤ length entry
    → (take (entry_room * (i + 1)) exit ≡ take (entry_room * i) trace ++ x) × (exit ≡ placed entry 0 (take (entry_room * (i + 1)) exit)) × (length exit ≡ length entry)
unfolding placed
trace-turn entry trace exit x i l e f n h =
    let k = entry_room * i in
    let b = take k trace in
    let m : k ≤ length trace = omega (arith, l, h) in
    let o : length b ≡ k = length-take-le k trace m in
    let z : k ≡ 0 + length b = omega (arith, o) in
    let y : 0 + length b + length x ≤ length entry = omega (arith, o, n, h) in
    let p : exit ≡ placed entry 0 (b ++ x) = f ∙ (ap₂ (λ (t : List ℕ) (a : ℕ). placed t a x) e z ∙ placed-more entry b x 0 y) in
    let w : length (b ++ x) ≡ entry_room * (i + 1) = length-append b x ∙ omega (arith, o, n) in
    let v : 0 + length (b ++ x) ≤ length entry = omega (arith, w, h) in
    let q : take (entry_room * (i + 1)) exit ≡ b ++ x = ap (take (entry_room * (i + 1))) p ∙ take_at (b ++ x) (drop (0 + length (b ++ x)) entry) (entry_room * (i + 1)) w in
    (q, p ∙ ap (λ (t : List ℕ). placed entry 0 t) (sym q), ap length p ∙ length-placed entry (b ++ x) 0 v)

-- ---- the bounds of a turn

-- a turn has an event record, a whole or a partial one, and room for its entry
pub turn-bounds : (events trace i : ℕ) → i < turns_by events trace → (event_room * i < events) × (entry_room * i + entry_room ≤ trace)
unfolding turns_by
turn-bounds events trace i l = by (eqb (events % event_room) 0) refl
  where
    by : (b : Bool) → eqb (events % event_room) 0 ≡ b → (event_room * i < events) × (entry_room * i + entry_room ≤ trace)
    by true z = let k : i < min (trace / entry_room) (events / event_room + 0) = rw z at l in (omega (arith, k), omega (arith, k))
    by false z =
        let k : i < min (trace / entry_room) (events / event_room + 1) = rw z at l in
        let m : events % event_room ≡ 0 → ⊥ = eqb-false (events % event_room) 0 z in
        (omega (arith, k, m), omega (arith, k))

-- .. from what the function that counts them ensures
pub bounds : {n i : ℕ} (events entry trace : List ℕ) → n ≡ turns_by (length events) (length entry) → i < n → length trace ≡ length entry
    → (event_room * i < length events) × (entry_room * i + entry_room ≤ length trace)
bounds {n} {i} events entry trace e l m =
    let b = turn-bounds (length events) (length entry) i (rw (← e) l) in
    let h = b.1 in
    (b.0, omega arith)

-- its event record, as the code takes it from the stream
pub slice-event : {m : ℕ} (events : List ℕ) (f : ℕ) → m ≡ min (length (take (length events - f) (drop f events))) event_room
    → take m (take (length events - f) (drop f events)) ≡ take event_room (drop f events)
slice-event {m} events f q = ap (λ (k : ℕ). take k (take (length events - f) r)) q ∙ rw all (by (leb (length r) event_room) refl)
  where
    r : List ℕ
    r = drop f events

    all : take (length events - f) r ≡ r
    all = take_all (length events - f) r (rw (length-drop f events) (omega arith))

    by : (b : Bool) → leb (length r) event_room ≡ b → take (min (length r) event_room) r ≡ take event_room r
    by true z =
        let l : length r ≤ event_room = leb-true (length r) event_room z in
        let e : min (length r) event_room ≡ length r = omega (arith, l) in
        rw e (take_all (length r) r (omega arith) ∙ sym (take_all event_room r l))
    by false z =
        let l : event_room < length r = leb-false (length r) event_room z in
        let e : min (length r) event_room ≡ event_room = omega (arith, l) in
        rw e refl

-- a part of the trace that is written on is the trace written on there
pub slice-entry : {exit part₁ : List ℕ} (trace x : List ℕ) (k m : ℕ) → exit ≡ take k trace ++ (part₁ ++ drop m (drop k trace)) → part₁ ≡ placed (take m (drop k trace)) 0 x → length x ≤ m → k + m ≤ length trace
    → exit ≡ placed trace k x
unfolding placed
slice-entry {exit} {part₁} trace x k m e f l h =
    let r = drop k trace in
    let n : length r ≡ length trace - k = length-drop k trace in
    let o : length (take m r) ≡ m = length-take-le m r (omega (arith, n, h)) in
    let j : length x ≤ length (take m r) = omega (arith, o, l) in
    let q : drop (length x) (take m r) ++ drop m r ≡ drop (length x) r = sym (drop-append-le (length x) (take m r) (drop m r) j) ∙ ap (drop (length x)) (take-append-drop m r) in
    let v : drop (length x) r ≡ drop (k + length x) trace = drop-drop (length x) k trace in
    let p : placed (take m r) 0 x ≡ x ++ drop (length x) (take m r) = rw (zero-add (length x)) refl in
    e
    ∙ ap (λ (y : List ℕ). take k trace ++ y)
    (ap (λ (a : List ℕ). a ++ drop m r) (f ∙ p) ∙ (append_assoc x (drop (length x) (take m r)) (drop m r) ∙ ap (λ (y : List ℕ). x ++ y) (q ∙ v)))

-- ---- the ways on from a turn, from what the calls ensure

module _ (book events entry : List ℕ) (d₀ d : Device) (n i : ℕ) (trace : List ℕ)
    (whole : runs n d₀ book events ≡ longer (take (entry_room * i) trace) i (runs (n - i) d book (drop (event_room * i) events)))
    (front₀ : trace ≡ placed entry 0 (take (entry_room * i) trace)) where
  abbrev here : Turn
  here = turn d book (take event_room (drop (event_room * i) events))

  module _ {r : Result ⊤ Refusal} {d₁ : Device} {part₁ trace₁ : List ℕ} (l : i < n) (t : Turning r d₁ part₁ here (take entry_room (drop (entry_room * i) trace)))
      (w : trace₁ ≡ take (entry_room * i) trace ++ (part₁ ++ drop entry_room (drop (entry_room * i) trace))) (h : entry_room * i + entry_room ≤ length trace) where
    fine : Sound d book here
    fine = sound d book (take event_room (drop (event_room * i) events))

    pub run-refused : {x : Ran} {why : Refusal} → r ≡ Err why → x ≡ record { count = i; stop = Some why } → Running x d₁ trace₁ (runs n d₀ book events) entry
    run-refused {x} {why} e f =
        let z = refused here.number tt why (sym e ∙ t.value) in
        let o = eqb-false here.number 0 z.0 in
        let v = run-stop book (runs n d₀ book events) d n i (take (entry_room * i) trace) events l whole o in
        let y = fine.entry o in
        let s : trace₁ ≡ placed trace (entry_room * i) here.entry = slice-entry trace here.entry (entry_room * i) entry_room w t.written (rw y (omega arith)) h in
        record {
          value = f ∙ (ap₂ {C = Ran} (λ (a : ℕ) (b : Refusal). record { count = a; stop = Some b }) (sym (zero-add i)) z.1 ∙ (rw z.0 refl ∙ ap ran_of (sym v)));
          device = t.device ∙ (fine.device o ∙ ap (λ (a : Run). a.device) (sym v));
          trace = s
              ∙ (ap (λ (a : List ℕ). placed trace (entry_room * i) a) y
              ∙ (placed-nil trace (entry_room * i) ∙ (front₀ ∙ ap (λ (a : List ℕ). placed entry 0 a) (sym (append-nil (take (entry_room * i) trace)) ∙ ap (λ (a : Run). a.bytes) (sym v)))));
        }

    pub run-again : r ≡ Ok tt → length trace ≡ length entry
        → (runs n d₀ book events ≡ longer (take (entry_room * (i + 1)) trace₁) (i + 1) (runs (n - (i + 1)) d₁ book (drop (event_room * (i + 1)) events)))
        × (trace₁ ≡ placed entry 0 (take (entry_room * (i + 1)) trace₁)) × (length trace₁ ≡ length entry) × (unless {A = ⊤} (refused_by d book clean) tt ≡ unless (refused_by d₁ book clean) tt)
    run-again e m =
        let o = eqb-true here.number 0 (passed here.number tt tt (sym e ∙ t.value)) in
        let y = fine.long o in
        let s : trace₁ ≡ placed trace (entry_room * i) here.entry = slice-entry trace here.entry (entry_room * i) entry_room w t.written (omega (arith, y)) h in
        let x = trace-turn entry trace trace₁ here.entry i m front₀ s y (omega (arith, m, h)) in
        let v = run-turn book (runs n d₀ book events) d n i (take (entry_room * i) trace) events l whole o in
        let f = fine.fit o in (
          v ∙ ap₂ (λ (b : List ℕ) (a : Device). longer b (i + 1) (runs (n - (i + 1)) a book (drop (event_room * (i + 1)) events))) (sym x.0) (sym t.device),
          x.1,
          x.2,
          ap (λ (k : ℕ). unless {A = ⊤} k tt) (f.0 ∙ sym (ap (λ (a : Device). refused_by a book clean) t.device ∙ f.1)),
        )

  -- behind the last turn
  pub run-ended : i ≤ n → n ≤ i → Running (record { count = n; stop = None }) d trace (runs n d₀ book events) entry
  run-ended h l =
      let v = run_end book (runs n d₀ book events) d n i (take (entry_room * i) trace) events l whole in
      let e : n ≡ 0 + i = omega arith in
      record {
        value = ap {B = Ran} (λ (a : ℕ). record { count = a; stop = None }) e ∙ ap ran_of (sym v);
        device = ap (λ (a : Run). a.device) (sym v);
        trace = front₀ ∙ ap (λ (a : List ℕ). placed entry 0 a) (sym (append-nil (take (entry_room * i) trace)) ∙ ap (λ (a : Run). a.bytes) (sym v));
      }

pub run-start : (n : ℕ) (d : Device) (book events trace : List ℕ) → runs n d book events ≡ longer (take (entry_room * 0) trace) 0 (runs (n - 0) d book (drop (event_room * 0) events))
run-start n d book events trace =
    let r = runs n d book events in
    rw (sub-zero n) (ap {B = Run} (λ (c : ℕ). record { device = r.device; bytes = r.bytes; count = c; number = r.number }) (sym (add-zero r.count)))
