-- What the bus is told in a step: five actions at most, and one packet at most. Assumes nothing.
use Prim.Native.Nat.{ℕ, ◌+◌, ◌≤◌}
use mathlib.Core.Bool.{Bool, true, false, cond, not, ◌&&◌}
use mathlib.Core.Path.{◌≡◌, refl}
use mathlib.Core.List.{List, [], ◌∷◌, ◌++◌}
use native.Mathlib.Omega.{arith}
use lib.Dec.{eqb}
use lib.ListN.{length, length-append}
use Rattle.std.specs.Prelude.{Option, Some, None}
use Rattle.common.specs.Bytes.{placed}
use Rattle.common.proofs.Laws.{cond-elim}
use Rattle.control.specs.declared.Request.{Request}
use Rattle.control.specs.Setup.{request_of}
use Rattle.record.specs.declared.Record.{Record}
use Rattle.control_pipe.specs.declared.Stage.TheVariants.{Idle, CompleteIn, CompleteOut, DataOut}
use Rattle.control_pipe.specs.declared.Told.{Told}
use Rattle.control_pipe.specs.declared.Pipe.{Pipe}
use Rattle.control_pipe.specs.Stages.{Move, at, still, stalled, fresh, opened, overlong, begin_by, grown, filled, written, send_chunk, in_at, in_complete}
use Rattle.requests.specs.declared.Effect.{Effect}
use Rattle.requests.specs.declared.Effect.TheVariants.{Nothing as NoEffect, Wakeup, Halt as HaltIt, Unhalt as UnhaltIt, Address as TakeAddress, Turn}
use Rattle.answers.specs.declared.Verdict.{Verdict}
use Rattle.answers.specs.declared.Verdict.TheVariants.{Bytes, Tiles, Accept}
use Rattle.answers.specs.Answers.{answer, verdict_of, buffer_of}
use Rattle.live.specs.declared.Live.{Live}
use Rattle.live.specs.Live.{awake}
use Rattle.effects.specs.declared.Action.{Action}
use Rattle.effects.specs.declared.Action.TheVariants.{Nothing as NoAction, Resume as TellResume, Suspend as TellSuspend, Reset as TellReset, UnstallOut, UnstallIn, StallOut, StallIn, Halt, Unhalt, Address, Write, Refused}
use Rattle.effects.specs.Effects.{Second, with_pipe, action_of, set_out, ticked}
use Rattle.events.specs.declared.Arrival.{Arrival}
use Rattle.events.specs.declared.Event.{Event}
use Rattle.events.specs.declared.Event.TheVariants.{Nothing, Reset, Suspend, Resume, Data}
use Rattle.events.specs.Events.{Done, odd, arrived, taken_by, followed, data_come, woken, happens, dull, handled, listed, alone, told_by}
use Rattle.steady.specs.Steady.{is_write, writes}
use Rattle.steady.proofs.Moves.{begin-elim, arrived-elim, in-elim}

-- ---- lists of actions

writes-append : (xs ys : List Action) → writes (xs ++ ys) ≡ writes xs + writes ys
unfolding writes
writes-append [] ys = omega arith
writes-append (a ∷ xs) ys = let e : writes (xs ++ ys) ≡ writes xs + writes ys = writes-append xs ys in omega arith

one-write-at : (a : Action) → is_write a ≤ 1
one-write-at NoAction = omega arith
one-write-at TellResume = omega arith
one-write-at TellSuspend = omega arith
one-write-at TellReset = omega arith
one-write-at UnstallOut = omega arith
one-write-at UnstallIn = omega arith
one-write-at StallOut = omega arith
one-write-at StallIn = omega arith
one-write-at (Halt e) = omega arith
one-write-at (Unhalt e) = omega arith
one-write-at (Address a) = omega arith
one-write-at (Write n) = omega arith
one-write-at (Refused n) = omega arith

writes-length : (xs : List Action) → writes xs ≤ length xs
unfolding writes
writes-length [] = omega arith
writes-length (a ∷ xs) = omega (arith, one-write-at a, writes-length xs)

one-alone : (a : Action) → length (alone a) ≤ 1
one-alone NoAction = omega arith
one-alone TellResume = omega arith
one-alone TellSuspend = omega arith
one-alone TellReset = omega arith
one-alone UnstallOut = omega arith
one-alone UnstallIn = omega arith
one-alone StallOut = omega arith
one-alone StallIn = omega arith
one-alone (Halt e) = omega arith
one-alone (Unhalt e) = omega arith
one-alone (Address a) = omega arith
one-alone (Write n) = omega arith
one-alone (Refused n) = omega arith

-- ---- the second half

-- what it tells: two actions at most, and the packet at most once and last
record Few (act : Action) (told : Told) : Type 0 where
  two : length (alone act) + length (listed told) ≤ 2
  none : writes (alone act) ≡ 0
  once : writes (listed told) ≤ 1

abbrev FewOf : Second → Type 0
FewOf h = Few h.act h.told

written_one : (taken : Bool) (n : ℕ) → length (listed (written taken n)) ≤ 1
written_one true n = omega arith
written_one false n = omega arith

few-one : (act : Action) (told : Told) → writes (alone act) ≡ 0 → length (listed told) ≤ 1 → Few act told
few-one act told e l =
    let a : length (alone act) ≤ 1 = one-alone act in
    let w : writes (listed told) ≤ length (listed told) = writes-length (listed told) in
    record { two = omega arith; none = e; once = omega arith }

act-none : (e : Effect) (quirk : Bool) → writes (alone (action_of e quirk)) ≡ 0
unfolding writes
act-none NoEffect quirk = refl
act-none (Wakeup on) quirk = refl
act-none (HaltIt e) quirk = refl
act-none (UnhaltIt e) quirk = refl
act-none (TakeAddress a) true = refl
act-none (TakeAddress a) false = refl
act-none (Turn s) quirk = refl

set-few : (v : Option Verdict) (size : ℕ) (quirk taken : Bool) (book : List ℕ) (l : Live) (b : List ℕ) → FewOf (set_out v size quirk taken book l b)
unfolding set_out send_chunk writes
set-few None size quirk taken book l b = record { two = omega arith; none = refl; once = omega arith }
set-few (Some (Bytes n)) size quirk taken book l b = few-one NoAction (written taken _) refl (written_one taken _)
set-few (Some (Tiles start)) size quirk taken book l b = few-one NoAction (written taken _) refl (written_one taken _)
set-few (Some (Accept e)) size quirk taken book l b = few-one (action_of e quirk) (written taken 0) (act-none e quirk) (written_one taken 0)

in_one : (size : ℕ) (taken : Bool) (book : List ℕ) (p : Pipe) (b : List ℕ) → length (listed (in_complete size taken book p b).told) ≤ 1
unfolding send_chunk
in_one size taken book p b =
    in-elim (λ m. length (listed m.told) ≤ 1) p b (omega arith) size taken book (λ e. written_one taken _) (λ e. written_one taken 0) (λ e. omega arith) (λ e. omega arith)

tick-few : (size : ℕ) (quirk taken : Bool) (book : List ℕ) (l : Live) (b : List ℕ) → FewOf (ticked size quirk taken book l b)
unfolding ticked writes
tick-few size quirk taken book l b =
    let m = in_complete size taken book l.pipe b in
    let k : length (listed m.told) ≤ 1 = in_one size taken book l.pipe b in
    cond-elim FewOf (m.done && not quirk && not (eqb m.pipe.pending.0 0)) _ _ (λ e. few-one (Address m.pipe.pending) m.told refl k)
    (λ e. few-one NoAction m.told refl k)

follow-few : (r : Record) (complete tick taken : Bool) (book : List ℕ) (l : Live) (b : List ℕ) → FewOf (followed r complete tick taken book l b)
unfolding followed writes
follow-few r true tick taken book l b =
    let a = answer r l.kept l.pipe l.book in
    set-few (verdict_of a) r.plan.basics.packet r.plan.basics.quirk taken book l (buffer_of a b)
follow-few r false true taken book l b = tick-few r.plan.basics.packet r.plan.basics.quirk taken book l b
follow-few r false false taken book l b = record { two = omega arith; none = refl; once = omega arith }

-- ---- the first half

-- no packet; and four actions at most, with those of the second half, whatever it is
record Begins (m : Move) : Type 0 where
  none : writes (listed m.told) ≡ 0
  four : (r : Record) (tick taken : Bool) (book : List ℕ) (l : Live) → let h = followed r m.done tick taken book (with_pipe m.pipe l) m.buffer in
      length (listed m.told) + (length (alone h.act) + length (listed h.told)) ≤ 4

begins : (m : Move) → writes (listed m.told) ≡ 0 → length (listed m.told) ≤ 2 → Begins m
begins m e k =
    record {
      none = e;
      four = λ r tick taken book l. let f = (follow-few r m.done tick taken book (with_pipe m.pipe l) m.buffer).two in omega (arith, f, k);
    }

-- an OUT request that is too long tells four, and nothing after that
overlong-begins : (q : Request) → Begins (overlong q)
unfolding writes followed ticked in_complete in_at
overlong-begins q = record { none = refl; four = λ r tick taken book l. after r tick taken book l }
  where
    after : (r : Record) (tick taken : Bool) (book : List ℕ) (l : Live) → let m = overlong q in let h = followed r m.done tick taken book (with_pipe m.pipe l) m.buffer in
        length (listed m.told) + (length (alone h.act) + length (listed h.told)) ≤ 4
    after r true taken book l = omega arith
    after r false taken book l = omega arith

still-begins : (p : Pipe) (b : List ℕ) → Begins (still p b)
unfolding writes
still-begins p b = begins (still p b) refl (let l : 0 ≤ 2 = omega arith in l)

stalled-begins : (p : Pipe) (b : List ℕ) → Begins (stalled p b)
unfolding writes
stalled-begins p b = begins (stalled p b) refl (let l : 2 ≤ 2 = omega arith in l)

opened-begins : (p : Pipe) (done : Bool) → Begins (opened p done)
unfolding writes
opened-begins p done = begins (opened p done) refl (let l : 2 ≤ 2 = omega arith in l)

begin-begins : (q : Request) → Begins (begin_by q.direction q)
begin-begins q =
    begin-elim Begins q (λ d. opened-begins (fresh CompleteIn q 0) true) (λ d. opened-begins (fresh CompleteOut q 0) true) (λ d l. opened-begins (fresh DataOut q q.length) false) (overlong-begins q)

filled-begins : (p : Pipe) (b : List ℕ) → Begins (filled p b)
unfolding writes
filled-begins p b = begins (filled p b) refl (let l : 0 ≤ 2 = omega arith in l)

arrived-begins : (a : Arrival) (s : List ℕ) (p : Pipe) (b : List ℕ) → Begins (arrived a s p b)
arrived-begins a s p b =
    arrived-elim Begins p b (still-begins p b) s (still-begins (at Idle p) b) (stalled-begins p b) (λ e l. filled-begins (grown (length s) p) (placed b p.coming.held s)) a
    (λ o r e. begin-begins (request_of s))

-- ---- the whole event

record Brief (d : Done) : Type 0 where
  five : length (told_by d.resumed d.first d.act d.second) ≤ 5
  once : writes (told_by d.resumed d.first d.act d.second) ≤ 1
  quiet : (writes (listed d.first) ≡ 0) × (writes (alone d.act) ≡ 0)

resumed-one : (resumed : Bool) → (length (cond resumed (TellResume ∷ []) []) ≤ 1) × (writes (cond resumed (TellResume ∷ []) []) ≡ 0)
unfolding writes
resumed-one true = (omega arith, refl)
resumed-one false = (omega arith, refl)

brief : (d : Done) → length (listed d.first) + (length (alone d.act) + length (listed d.second)) ≤ 4 → writes (listed d.first) ≡ 0 → writes (alone d.act) ≡ 0 → writes (listed d.second) ≤ 1 → Brief d
brief d l x y z =
    let xs = cond d.resumed (TellResume ∷ []) [] in
    let w = resumed-one d.resumed in
    record {
      five = rw (length-append xs (listed d.first ++ (alone d.act ++ listed d.second)), length-append (listed d.first) (alone d.act ++ listed d.second), length-append (alone d.act) (listed d.second)) (omega (arith, w.0, l));
      once = rw (writes-append xs (listed d.first ++ (alone d.act ++ listed d.second)), writes-append (listed d.first) (alone d.act ++ listed d.second), writes-append (alone d.act) (listed d.second)) (omega (arith, w.1, x, y, z));
      quiet = (x, y);
    }

happens-brief : (e : Event) (r : Record) (resumed : Bool) (s book : List ℕ) (l : Live) (b : List ℕ) → Brief (happens e r resumed s book l b)
unfolding happens data_come writes
happens-brief Nothing r resumed s book l b = brief _ (let k : 0 + (0 + 0) ≤ 4 = omega arith in k) refl refl (let k : 0 ≤ 1 = omega arith in k)
happens-brief Reset r resumed s book l b = brief _ (let k : 0 + (1 + 0) ≤ 4 = omega arith in k) refl refl (let k : 0 ≤ 1 = omega arith in k)
happens-brief Suspend r resumed s book l b = brief _ (let k : 0 + (1 + 0) ≤ 4 = omega arith in k) refl refl (let k : 0 ≤ 1 = omega arith in k)
happens-brief Resume r resumed s book l b = brief _ (let k : 0 + (0 + 0) ≤ 4 = omega arith in k) refl refl (let k : 0 ≤ 1 = omega arith in k)
happens-brief (Data a) r resumed s book l b =
    let m = arrived a s l.pipe b in
    let g = arrived-begins a s l.pipe b in
    let f = follow-few r m.done (odd a.done) (taken_by a.write) book (with_pipe m.pipe l) m.buffer in
    brief _ (g.four r (odd a.done) (taken_by a.write) book l) g.none f.none f.once

handled-brief : (e : Event) (r : Record) (s book : List ℕ) (l : Live) (b : List ℕ) → Brief (handled e r s book l b)
unfolding handled writes
handled-brief e r s book l b =
    let asleep = not (awake l.kept.state) in
    cond-elim Brief (asleep && dull e) _ _ (λ t. brief _ (let k : 0 + (0 + 0) ≤ 4 = omega arith in k) refl refl (let k : 0 ≤ 1 = omega arith in k))
    (λ t. happens-brief e r asleep s book (woken l) b)

-- whatever happens, the bus is told five actions at most: five slots are never too few
pub five : (e : Event) (r : Record) (s book : List ℕ) (l : Live) (b : List ℕ) → let d = handled e r s book l b in length (told_by d.resumed d.first d.act d.second) ≤ 5
five e r s book l b = (handled-brief e r s book l b).five

-- .. and it is given one packet at most, taken or refused
pub one-write : (e : Event) (r : Record) (s book : List ℕ) (l : Live) (b : List ℕ) → let d = handled e r s book l b in writes (told_by d.resumed d.first d.act d.second) ≤ 1
one-write e r s book l b = (handled-brief e r s book l b).once

-- .. which is told last
pub write-last : (e : Event) (r : Record) (s book : List ℕ) (l : Live) (b : List ℕ) → let d = handled e r s book l b in (writes (listed d.first) ≡ 0) × (writes (alone d.act) ≡ 0)
write-last e r s book l b = (handled-brief e r s book l b).quiet
