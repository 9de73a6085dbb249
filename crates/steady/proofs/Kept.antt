-- What every step leaves as it was: the book's length, the mark of building, and the buffer's length. Assumes nothing.
use Prim.Native.Nat.{ℕ, ◌-◌, ◌%◌, ◌≤◌}
use mathlib.Core.Bool.{Bool, true, false, not, ◌&&◌}
use mathlib.Core.Path.{◌≡◌, refl, ◌∙◌}
use mathlib.Core.List.{List, [], ◌∷◌}
use native.Mathlib.Omega.{arith}
use lib.Dec.{eqb, ltb}
use lib.ListN.{length}
use Rattle.std.specs.Prelude.{Option, Some, None}
use Rattle.common.specs.Bytes.{placed}
use Rattle.common.proofs.Laws.{cond-elim, length-placed, placed-nil}
use Rattle.control.specs.declared.BusAddress.{BusAddress}
use Rattle.control.specs.declared.EndpointAddress.{EndpointAddress}
use Rattle.control.specs.declared.Request.{Request}
use Rattle.control.specs.Setup.{request_of}
use Rattle.record.specs.declared.Record.{Record}
use Rattle.control_pipe.specs.declared.Pipe.{Pipe}
use Rattle.control_pipe.specs.Sizes.{buffer_room}
use Rattle.control_pipe.specs.Stages.{Move, begin_by, send_chunk, in_complete}
use Rattle.requests.specs.declared.Effect.{Effect}
use Rattle.requests.specs.declared.Effect.TheVariants.{Nothing as NoEffect, Wakeup, Halt, Unhalt, Address, Turn}
use Rattle.answers.specs.declared.Verdict.{Verdict}
use Rattle.answers.specs.declared.Verdict.TheVariants.{Bytes, Tiles, Accept}
use Rattle.answers.specs.Answers.{Answer, stall, tell, tiles, accept, answer, verdict_of, buffer_of}
use Rattle.live.specs.declared.Live.{Live}
use Rattle.live.specs.Live.{awake}
use Rattle.effects.specs.Effects.{Second, with_pipe, halting, awaiting, effected, set_out, ticked}
use Rattle.events.specs.declared.Arrival.{Arrival}
use Rattle.events.specs.declared.Event.{Event}
use Rattle.events.specs.declared.Event.TheVariants.{Nothing, Reset, Suspend, Resume, Data}
use Rattle.events.specs.Events.{Done, odd, arrived, taken_by, followed, data_come, woken, happens, dull, handled}
use Rattle.steady.proofs.Keeps.{Sound, answer-sound}
use Rattle.steady.proofs.Moves.{begin-elim, arrived-elim, in-elim}

-- ---- book and building

record Same (l k : Live) : Type 0 where
  book : k.book ≡ l.book
  built : k.built ≡ l.built

abbrev SameOf : Live → Second → Type 0
SameOf l h = Same l h.live

module _ (l : Live) where
  halting-same : (e : EndpointAddress) (on : Bool) → Same l (halting e on l)
  halting-same e on =
      cond-elim (Same l) (eqb (e.0 % 16) 0) _ _
      (λ t. cond-elim (Same l) (ltb e.0 128) _ _ (λ t. record { book = refl; built = refl }) (λ t. record { book = refl; built = refl }))
      (λ t. record { book = refl; built = refl })

  awaiting-same : (a : BusAddress) (quirk : Bool) → Same l (awaiting a quirk l)
  awaiting-same a true = record { book = refl; built = refl }
  awaiting-same a false = record { book = refl; built = refl }

  effected-same : (e : Effect) (quirk : Bool) → Same l (effected e quirk l)
  effected-same NoEffect quirk = record { book = refl; built = refl }
  effected-same (Wakeup on) quirk = record { book = refl; built = refl }
  effected-same (Halt e) quirk = halting-same e true
  effected-same (Unhalt e) quirk = halting-same e false
  effected-same (Address a) quirk = awaiting-same a quirk
  effected-same (Turn s) quirk = record { book = refl; built = refl }

  set_same : (v : Option Verdict) (size : ℕ) (quirk taken : Bool) (book b : List ℕ) → SameOf l (set_out v size quirk taken book l b)
  unfolding set_out
  set_same None size quirk taken book b = record { book = refl; built = refl }
  set_same (Some (Bytes n)) size quirk taken book b = record { book = refl; built = refl }
  set_same (Some (Tiles start)) size quirk taken book b = record { book = refl; built = refl }
  set_same (Some (Accept e)) size quirk taken book b = let s = effected-same e quirk in record { book = s.book; built = s.built }

  tick-same : (size : ℕ) (quirk taken : Bool) (book b : List ℕ) → SameOf l (ticked size quirk taken book l b)
  unfolding ticked
  tick-same size quirk taken book b =
      let m = in_complete size taken book l.pipe b in
      cond-elim (SameOf l) (m.done && not quirk && not (eqb m.pipe.pending.0 0)) _ _ (λ e. record { book = refl; built = refl })
      (λ e. record { book = refl; built = refl })

  follow-same : (r : Record) (complete tick taken : Bool) (book b : List ℕ) → SameOf l (followed r complete tick taken book l b)
  unfolding followed
  follow-same r true tick taken book b =
      let a = answer r l.kept l.pipe l.book in
      set_same (verdict_of a) r.plan.basics.packet r.plan.basics.quirk taken book (buffer_of a b)
  follow-same r false true taken book b = tick-same r.plan.basics.packet r.plan.basics.quirk taken book b
  follow-same r false false taken book b = record { book = refl; built = refl }

happens-same : (e : Event) (r : Record) (resumed : Bool) (s book : List ℕ) (l : Live) (b : List ℕ) → Same l (happens e r resumed s book l b).live
unfolding happens data_come
happens-same Nothing r resumed s book l b = record { book = refl; built = refl }
happens-same Reset r resumed s book l b = record { book = refl; built = refl }
happens-same Suspend r resumed s book l b = record { book = refl; built = refl }
happens-same Resume r resumed s book l b = record { book = refl; built = refl }
happens-same (Data a) r resumed s book l b =
    let m = arrived a s l.pipe b in
    let f = follow-same (with_pipe m.pipe l) r m.done (odd a.done) (taken_by a.write) book m.buffer in
    record { book = f.book; built = f.built }

handled-same : (e : Event) (r : Record) (s book : List ℕ) (l : Live) (b : List ℕ) → Same l (handled e r s book l b).live
unfolding handled
handled-same e r s book l b =
    let asleep = not (awake l.kept.state) in
    cond-elim (λ (d : Done). Same l d.live) (asleep && dull e) _ _ (λ t. record { book = refl; built = refl })
    (λ t. let h = happens-same e r asleep s book (woken l) b in record { book = h.book; built = h.built })

-- no step changes how long the book is
pub kept-book : (e : Event) (r : Record) (s book : List ℕ) (l : Live) (b : List ℕ) → (handled e r s book l b).live.book ≡ l.book
kept-book e r s book l b = (handled-same e r s book l b).book

-- .. nor whether the device was built
pub kept-built : (e : Event) (r : Record) (s book : List ℕ) (l : Live) (b : List ℕ) → (handled e r s book l b).live.built ≡ l.built
kept-built e r s book l b = (handled-same e r s book l b).built

-- ---- the buffer

abbrev pub Whole : List ℕ → Type 0
Whole b = length b ≡ buffer_room

abbrev pub WholeOf : Move → Type 0
WholeOf m = Whole m.buffer

-- a packet that the rest of the buffer takes leaves its length; none is taken where more than the buffer is held
placed-whole : (b s : List ℕ) (held : ℕ) → Whole b → length s ≤ buffer_room - held → Whole (placed b held s)
placed-whole b [] held w l = rw (placed-nil b held) w
placed-whole b (x ∷ s) held w l = length-placed b (x ∷ s) held (omega (arith, w, l)) ∙ w

begin-whole : (q : Request) → WholeOf (begin_by q.direction q)
begin-whole q = begin-elim WholeOf q (λ d. refl) (λ d. refl) (λ d l. refl) refl

module _ (p : Pipe) (b : List ℕ) (w : Whole b) where
  pub arrived-whole : (a : Arrival) (s : List ℕ) → WholeOf (arrived a s p b)
  arrived-whole a s = arrived-elim WholeOf p b w s w w (λ e l. placed-whole b s p.coming.held w l) a (λ o r e. begin-whole (request_of s))

  in_whole : (size : ℕ) (taken : Bool) (book : List ℕ) → WholeOf (in_complete size taken book p b)
  unfolding send_chunk
  in_whole size taken book = in-elim WholeOf p b w size taken book (λ e. w) (λ e. w) (λ e. w) (λ e. w)

-- the bytes that an answer tells fit
buffer-whole : (a : Answer) (book : ℕ) (b : List ℕ) → Sound book (verdict_of a) → Whole b → Whole (buffer_of a b)
buffer-whole stall book b s w = w
buffer-whole (tell bytes) book b s w = placed-whole b bytes 0 w (omega (arith, s))
buffer-whole (tiles start) book b s w = w
buffer-whole (accept e) book b s w = w

set-whole : (v : Option Verdict) (size : ℕ) (quirk taken : Bool) (book : List ℕ) (l : Live) (b : List ℕ) → Whole b → Whole (set_out v size quirk taken book l b).buffer
unfolding set_out send_chunk
set-whole None size quirk taken book l b w = w
set-whole (Some (Bytes n)) size quirk taken book l b w = w
set-whole (Some (Tiles start)) size quirk taken book l b w = w
set-whole (Some (Accept e)) size quirk taken book l b w = w

tick-whole : (size : ℕ) (quirk taken : Bool) (book : List ℕ) (l : Live) (b : List ℕ) → Whole b → Whole (ticked size quirk taken book l b).buffer
unfolding ticked
tick-whole size quirk taken book l b w =
    let m = in_complete size taken book l.pipe b in
    let k = in_whole l.pipe b w size taken book in
    cond-elim (λ (h : Second). Whole h.buffer) (m.done && not quirk && not (eqb m.pipe.pending.0 0)) _ _ (λ e. k) (λ e. k)

follow-whole : (r : Record) (complete tick taken : Bool) (book : List ℕ) (l : Live) (b : List ℕ) → Whole b → Whole (followed r complete tick taken book l b).buffer
unfolding followed
follow-whole r true tick taken book l b w =
    let a = answer r l.kept l.pipe l.book in
    set-whole (verdict_of a) r.plan.basics.packet r.plan.basics.quirk taken book l (buffer_of a b) (buffer-whole a l.book b (answer-sound l.book r l.kept l.pipe) w)
follow-whole r false true taken book l b w = tick-whole r.plan.basics.packet r.plan.basics.quirk taken book l b w
follow-whole r false false taken book l b w = w

happens-whole : (e : Event) (r : Record) (resumed : Bool) (s book : List ℕ) (l : Live) (b : List ℕ) → Whole b → Whole (happens e r resumed s book l b).buffer
unfolding happens data_come
happens-whole Nothing r resumed s book l b w = w
happens-whole Reset r resumed s book l b w = refl
happens-whole Suspend r resumed s book l b w = w
happens-whole Resume r resumed s book l b w = w
happens-whole (Data a) r resumed s book l b w =
    let m = arrived a s l.pipe b in
    follow-whole r m.done (odd a.done) (taken_by a.write) book (with_pipe m.pipe l) m.buffer (arrived-whole l.pipe b w a s)

-- no step changes how long the buffer is, from any state and with any record
pub kept-length : (e : Event) (r : Record) (s book : List ℕ) (l : Live) (b : List ℕ) → length b ≡ buffer_room → length (handled e r s book l b).buffer ≡ buffer_room
unfolding handled
kept-length e r s book l b w =
    let asleep = not (awake l.kept.state) in
    cond-elim (λ (d : Done). Whole d.buffer) (asleep && dull e) _ _ (λ t. w) (λ t. happens-whole e r asleep s book (woken l) b w)
