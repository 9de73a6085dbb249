-- No packet is longer than the packet size, nor is one that the bus is told of. Assumes nothing.
use Prim.Native.Nat.{ℕ, ◌+◌, ◌-◌, ◌≤◌}
use mathlib.Core.Bool.{Bool, true, false, not, ◌&&◌}
use mathlib.Core.Path.{◌≡◌, refl}
use mathlib.Core.List.{List, []}
use native.Mathlib.Omega.{arith}
use lib.Dec.{eqb}
use lib.ListN.{length, drop, length-take}
use Rattle.std.specs.Prelude.{Option, Some, None}
use Rattle.common.specs.Bytes.{inside, part, piece}
use Rattle.common.proofs.Laws.{cond-elim}
use Rattle.record.specs.declared.Record.{Record}
use Rattle.control_pipe.specs.declared.Source.TheVariants.{Buffer, Book}
use Rattle.control_pipe.specs.declared.Told.{Told}
use Rattle.control_pipe.specs.declared.Told.TheVariants.{Nothing as Silence, Unstalls, UnstallsStalls, Stalls, UnstallOut as UnstalledOut, Write as Wrote, Refused as Declined}
use Rattle.control_pipe.specs.declared.Pipe.{Pipe}
use Rattle.control_pipe.specs.Stages.{Move, written, send_chunk, in_complete, chunk, bytes_of, answering}
use Rattle.answers.specs.declared.Verdict.{Verdict}
use Rattle.answers.specs.declared.Verdict.TheVariants.{Bytes, Tiles, Accept}
use Rattle.answers.specs.Answers.{answer, verdict_of, buffer_of}
use Rattle.live.specs.declared.Live.{Live}
use Rattle.live.specs.Live.{awake}
use Rattle.effects.specs.Effects.{Second, with_pipe, set_out, ticked}
use Rattle.events.specs.declared.Event.{Event}
use Rattle.events.specs.declared.Event.TheVariants.{Nothing, Reset, Suspend, Resume, Data}
use Rattle.events.specs.Events.{Done, arrived, odd, taken_by, followed, data_come, dull, woken, happens, handled}
use Rattle.steady.proofs.Moves.{in-elim}

piece-short : (at n : ℕ) (s : List ℕ) → length (piece at n s) ≤ n
unfolding piece
piece-short at n s = cond-elim (λ (x : List ℕ). length x ≤ n) (inside s at n) (part at n s) [] (λ e. rw (length-take n (drop at s)) (omega arith)) (λ e. omega arith)

-- how long the packet is that the bus is told of
abbrev pub told_length : Told → ℕ
told_length Silence = 0
told_length Unstalls = 0
told_length UnstallsStalls = 0
told_length Stalls = 0
told_length UnstalledOut = 0
told_length (Wrote n) = n
told_length (Declined n) = n

written-length : (taken : Bool) (n : ℕ) → told_length (written taken n) ≤ n
written-length true n = omega arith
written-length false n = omega arith

pub record Small (size : ℕ) (t : Told) (s : List ℕ) : Type 0 where
  pub told : told_length t ≤ size
  pub packet : length s ≤ size

none-small : (size : ℕ) (told : Told) → told_length told ≡ 0 → Small size told []
none-small size told e = record { told = omega (arith, e); packet = omega arith }

empty-small : (size : ℕ) (taken : Bool) → Small size (written taken 0) []
empty-small size taken = let l : told_length (written taken 0) ≤ 0 = written-length taken 0 in none-small size (written taken 0) (omega arith)

abbrev SmallMove : ℕ → Move → Type 0
SmallMove size m = Small size m.told m.packet

abbrev SmallHalf : ℕ → Second → Type 0
SmallHalf size h = Small size h.told h.packet

abbrev SmallDone : ℕ → Done → Type 0
SmallDone size d = Small size d.second d.packet

chunk-short : (size : ℕ) (taken : Bool) (book : List ℕ) (p : Pipe) (b : List ℕ) → SmallMove size (send_chunk size taken book p b)
unfolding send_chunk
chunk-short size taken book p b =
    let n = chunk size p.reply in
    let l : length (piece (p.reply.start + p.reply.sent) n (bytes_of p.reply.source b book)) ≤ n = piece-short (p.reply.start + p.reply.sent) n (bytes_of p.reply.source b book) in
    let k : told_length (written taken n) ≤ n = written-length taken n in
    record { told = omega arith; packet = omega arith }

in-short : (size : ℕ) (taken : Bool) (book : List ℕ) (p : Pipe) (b : List ℕ) → SmallMove size (in_complete size taken book p b)
in-short size taken book p b =
    in-elim (SmallMove size) p b (none-small size Silence refl) size taken book (λ e. chunk-short size taken book p b) (λ e. empty-small size taken) (λ e. none-small size UnstalledOut refl)
    (λ e. none-small size Silence refl)

set-short : (v : Option Verdict) (size : ℕ) (quirk taken : Bool) (book : List ℕ) (l : Live) (b : List ℕ) → SmallHalf size (set_out v size quirk taken book l b)
unfolding set_out
set-short None size quirk taken book l b = none-small size Stalls refl
set-short (Some (Bytes n)) size quirk taken book l b = chunk-short size taken book (answering Buffer 0 n l.pipe) b
set-short (Some (Tiles start)) size quirk taken book l b = chunk-short size taken book (answering Book start (l.book - start) l.pipe) b
set-short (Some (Accept e)) size quirk taken book l b = empty-small size taken

tick-short : (size : ℕ) (quirk taken : Bool) (book : List ℕ) (l : Live) (b : List ℕ) → SmallHalf size (ticked size quirk taken book l b)
unfolding ticked
tick-short size quirk taken book l b =
    let m = in_complete size taken book l.pipe b in
    let k = in-short size taken book l.pipe b in
    cond-elim (SmallHalf size) (m.done && not quirk && not (eqb m.pipe.pending.0 0)) _ _ (λ e. k) (λ e. k)

follow-short : (r : Record) (complete tick taken : Bool) (book : List ℕ) (l : Live) (b : List ℕ) → SmallHalf r.plan.basics.packet (followed r complete tick taken book l b)
unfolding followed
follow-short r true tick taken book l b =
    let a = answer r l.kept l.pipe l.book in
    set-short (verdict_of a) r.plan.basics.packet r.plan.basics.quirk taken book l (buffer_of a b)
follow-short r false true taken book l b = tick-short r.plan.basics.packet r.plan.basics.quirk taken book l b
follow-short r false false taken book l b = none-small r.plan.basics.packet Silence refl

happens-short : (e : Event) (r : Record) (resumed : Bool) (s book : List ℕ) (l : Live) (b : List ℕ) → SmallDone r.plan.basics.packet (happens e r resumed s book l b)
unfolding happens data_come
happens-short Nothing r resumed s book l b = none-small r.plan.basics.packet Silence refl
happens-short Reset r resumed s book l b = none-small r.plan.basics.packet Silence refl
happens-short Suspend r resumed s book l b = none-small r.plan.basics.packet Silence refl
happens-short Resume r resumed s book l b = none-small r.plan.basics.packet Silence refl
happens-short (Data a) r resumed s book l b =
    let m = arrived a s l.pipe b in
    follow-short r m.done (odd a.done) (taken_by a.write) book (with_pipe m.pipe l) m.buffer

-- whatever happens, the packet that the bus is given is no longer than the packet size, nor is it told of a longer one
pub short : (e : Event) (r : Record) (s book : List ℕ) (l : Live) (b : List ℕ) → let d = handled e r s book l b in Small r.plan.basics.packet d.second d.packet
unfolding handled
short e r s book l b =
    let asleep = not (awake l.kept.state) in
    cond-elim (SmallDone r.plan.basics.packet) (asleep && dull e) _ _ (λ t. none-small r.plan.basics.packet Silence refl)
    (λ t. happens-short e r asleep s book (woken l) b)
