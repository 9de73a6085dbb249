-- No step leaves a state that refusal 9 names. Assumes nothing.
use Prim.Native.Nat.{ℕ, ◌+◌, ◌-◌, ◌/◌, ◌%◌, ◌≤◌}
use mathlib.Core.Bool.{Bool, true, false, cond, not, ◌&&◌, false≢true}
use mathlib.Core.Path.{◌≡◌, refl}
use mathlib.Core.List.{List}
use Rattle.std.specs.Prelude.{Option, Some, None}
use native.Mathlib.Omega.{arith}
use borrow.Author.Tests.{le-leb, leb-true, eqb-true}
use lib.Dec.{eqb, leb, ltb}
use lib.ListN.{length}
use Rattle.std.proofs.lemmas.Bool.{and_from}
use Rattle.common.proofs.Laws.{cond-elim, and_left, and_right}
use Rattle.control.specs.declared.BusAddress.{BusAddress}
use Rattle.control.specs.declared.EndpointAddress.{EndpointAddress}
use Rattle.control.specs.declared.Direction.{Direction}
use Rattle.control.specs.declared.Direction.TheVariants.{In, Out}
use Rattle.control.specs.declared.Request.{Request}
use Rattle.control.specs.Setup.{request_of}
use Rattle.record.specs.declared.Record.{Record}
use Rattle.limits.specs.Limits.{lowest}
use Rattle.descriptor.specs.Device.{device_bytes}
use Rattle.configuration.specs.Configuration.{configuration_bytes}
use Rattle.strings.specs.Strings.{string_of}
use Rattle.control_pipe.specs.declared.Stage.{Stage}
use Rattle.control_pipe.specs.declared.Stage.TheVariants.{Idle, DataInLast, CompleteIn, CompleteOut, DataOut, StatusIn, Error}
use Rattle.control_pipe.specs.declared.Source.{Source}
use Rattle.control_pipe.specs.declared.Source.TheVariants.{Buffer, Book}
use Rattle.control_pipe.specs.declared.Coming.{Coming}
use Rattle.control_pipe.specs.declared.Reply.{Reply}
use Rattle.control_pipe.specs.declared.Pipe.{Pipe}
use Rattle.control_pipe.specs.Sizes.{buffer_room}
use Rattle.control_pipe.specs.Stages.{Move, at, fresh, idle, begin_by, chunk, advanced, send_chunk, in_complete, answering}
use Rattle.requests.specs.declared.State.{State}
use Rattle.requests.specs.declared.State.TheVariants.{Default, Addressed, Configured, Suspend as Suspended}
use Rattle.requests.specs.declared.Kept.{Kept}
use Rattle.requests.specs.declared.Effect.{Effect}
use Rattle.requests.specs.declared.Effect.TheVariants.{Nothing as NoEffect, Wakeup, Halt, Unhalt, Address, Turn}
use Rattle.requests.specs.declared.Decision.{Decision}
use Rattle.requests.specs.declared.Decision.TheVariants.{Status, Byte, Describe, Tiles as TilesFrom, Accept as AcceptIt}
use Rattle.requests.specs.Requests.{decide_by, decided}
use Rattle.answers.specs.declared.Verdict.{Verdict}
use Rattle.answers.specs.declared.Verdict.TheVariants.{Bytes, Tiles, Accept}
use Rattle.writer.specs.Descriptors.{descriptor_of}
use Rattle.answers.specs.Answers.{Answer, told, described, answer_of, answered, answer, verdict_of, buffer_of}
use Rattle.answers.proofs.Laws.{device-fits, configuration-fits, string-fits}
use Rattle.live.specs.declared.Live.{Live}
use Rattle.live.specs.Live.{book_fine, coming_fine, source_room, reply_fine, pipe_fine, awake, state_fine, live_fine}
use Rattle.effects.specs.Effects.{Second, with_pipe, halting, awaiting, effected, set_out, ticked}
use Rattle.events.specs.declared.Arrival.{Arrival}
use Rattle.events.specs.declared.Event.{Event}
use Rattle.events.specs.declared.Event.TheVariants.{Nothing, Reset, Suspend, Resume, Data}
use Rattle.events.specs.Events.{Done, odd, arrived, taken_by, followed, data_come, state_after, woken, happens, dull, handled}
use Rattle.steady.proofs.Decisions.{decide-in-elim, decide-out-elim}
use Rattle.steady.proofs.Moves.{begin-elim, arrived-elim, in-elim}

-- ---- a good pipe, as facts

-- of OUT data, IN answer and pending address, beside a book of so many bytes
pub record Fits (c : Coming) (a : Reply) (pending : BusAddress) (book : ℕ) : Type 0 where
  pub awaited : c.awaited ≤ buffer_room
  pub held : c.held ≤ buffer_room
  pub sent : a.sent ≤ a.len
  pub inside : a.start + a.len ≤ source_room a.source book
  pub address : pending.0 ≤ 127

abbrev pub FitsOf : ℕ → Pipe → Type 0
FitsOf book p = Fits p.coming p.reply p.pending book

pub pipe-facts : (p : Pipe) (book : ℕ) → pipe_fine p book ≡ true → FitsOf book p
pipe-facts p book e =
    let c = p.coming in
    let a = p.reply in
    let x = and_left (coming_fine c && reply_fine a book) (leb p.pending.0 127) e in
    let y = and_left (coming_fine c) (reply_fine a book) x in
    let z = and_right (coming_fine c) (reply_fine a book) x in
    record {
      awaited = leb-true _ _ (and_left (leb c.awaited buffer_room) (leb c.held buffer_room) y);
      held = leb-true _ _ (and_right (leb c.awaited buffer_room) (leb c.held buffer_room) y);
      sent = leb-true _ _ (and_left (leb a.sent a.len) (leb (a.start + a.len) (source_room a.source book)) z);
      inside = leb-true _ _ (and_right (leb a.sent a.len) (leb (a.start + a.len) (source_room a.source book)) z);
      address = leb-true _ _ (and_right (coming_fine c && reply_fine a book) (leb p.pending.0 127) e);
    }

pipe-fine : (p : Pipe) (book : ℕ) → FitsOf book p → pipe_fine p book ≡ true
pipe-fine p book f =
    and_from _ _ (and_from _ _ (and_from _ _ (le-leb _ _ f.awaited) (le-leb _ _ f.held)) (and_from _ _ (le-leb _ _ f.sent) (le-leb _ _ f.inside))) (le-leb _ _ f.address)

fresh-fits : (book : ℕ) (t : Stage) (q : Request) (n : ℕ) → n ≤ buffer_room → FitsOf book (fresh t q n)
fresh-fits book t q n l = record { awaited = l; held = omega arith; sent = omega arith; inside = omega arith; address = omega arith }

-- ---- the first half of an event

module _ (book : ℕ) where
  abbrev pub Holds : Move → Type 0
  Holds m = FitsOf book m.pipe

  begin-holds : (q : Request) → Holds (begin_by q.direction q)
  begin-holds q =
      let none : 0 ≤ buffer_room = omega arith in
      begin-elim Holds q (λ d. fresh-fits book CompleteIn q 0 none) (λ d. fresh-fits book CompleteOut q 0 none) (λ d l. fresh-fits book DataOut q q.length l) (fresh-fits book Error q 0 none)

  module _ (p : Pipe) (b : List ℕ) (f : FitsOf book p) where
    pub arrived-holds : (a : Arrival) (s : List ℕ) → Holds (arrived a s p b)
    arrived-holds a s =
        arrived-elim Holds p b f s f f
        (λ e l. record { awaited = f.awaited; held = omega (arith, l, f.held); sent = f.sent; inside = f.inside; address = f.address })
        a (λ o r e. begin-holds (request_of s))

    -- ---- what the pipe sends

    chunk-holds : (size : ℕ) (taken : Bool) (bytes : List ℕ) → Holds (send_chunk size taken bytes p b)
    unfolding send_chunk advanced
    chunk-holds size taken bytes =
        cond-elim (FitsOf book) taken (advanced size (chunk size p.reply) p) p
        (λ e. record { awaited = f.awaited; held = f.held; sent = omega (arith, f.sent); inside = f.inside; address = f.address })
        (λ e. f)

    empty_holds : (taken : Bool) (t : Stage) → FitsOf book (cond taken (at t p) p)
    empty_holds taken t = cond-elim (FitsOf book) taken (at t p) p (λ e. f) (λ e. f)

    in-holds : (size : ℕ) (taken : Bool) (bytes : List ℕ) → Holds (in_complete size taken bytes p b)
    in-holds size taken bytes = in-elim Holds p b f size taken bytes (λ e. chunk-holds size taken bytes) (λ e. empty_holds taken DataInLast) (λ e. f) (λ e. f)

    -- an answer inside its source
    answering-fits : (source : Source) (start n : ℕ) → start + n ≤ source_room source book → FitsOf book (answering source start n p)
    answering-fits source start n l = record { awaited = f.awaited; held = f.held; sent = omega arith; inside = omega (arith, l); address = f.address }

-- ---- what chapter 9 decides

-- an address that is pending is 127 at most, and no request leads to Suspend
abbrev Allowed : Effect → Type 0
Allowed NoEffect = Unit {0}
Allowed (Wakeup on) = Unit {0}
Allowed (Halt e) = Unit {0}
Allowed (Unhalt e) = Unit {0}
Allowed (Address a) = a.0 ≤ 127
Allowed (Turn s) = awake s ≡ true

-- tiles start inside the book
abbrev Fair : ℕ → Option Decision → Type 0
Fair book None = Unit {0}
Fair book (Some (Status n)) = Unit {0}
Fair book (Some (Byte n)) = Unit {0}
Fair book (Some Describe) = Unit {0}
Fair book (Some (TilesFrom start)) = start ≤ book
Fair book (Some (AcceptIt e)) = Allowed e

decided-fair : (book : ℕ) (k : Kept) (p : Pipe) → Fair book (decided k p book)
unfolding decided
decided-fair book k p = by p.request.direction
  where
    by : (d : Direction) → Fair book (decide_by d k p p.request book)
    by In = decide-in-elim (Fair book) tt k p.request p book (λ n. tt) (λ n. tt) tt (λ n l. l) p.request.kind
    by Out = decide-out-elim (Fair book) tt k p.request tt (λ on. tt) (λ e. tt) (λ e. tt) (λ a l t w c v. l) (λ s e. e)

-- ---- .. and tells

-- bytes that are told fit in the buffer
abbrev pub Sound : ℕ → Option Verdict → Type 0
Sound book None = Unit {0}
Sound book (Some (Bytes n)) = n ≤ buffer_room
Sound book (Some (Tiles start)) = start ≤ book
Sound book (Some (Accept e)) = Allowed e

module _ (book : ℕ) (r : Record) where
  abbrev SoundOf : Answer → Type 0
  SoundOf a = Sound book (verdict_of a)

  told-sound : (o : Option (List ℕ)) → ((b : List ℕ) → o ≡ Some b → length b ≤ buffer_room) → SoundOf (told o)
  told-sound None f = tt
  told-sound (Some b) f = f b refl

  module _ (q : Request) where
    descriptor-sound : (kind index language : ℕ) → lowest r ≡ 0 → SoundOf (told (descriptor_of r kind index language))
    unfolding descriptor_of
    descriptor-sound kind index language z =
        let P : Option (List ℕ) → Type 0 = λ o. SoundOf (told o) in
        cond-elim P (eqb kind 1) _ _ (λ e. told-sound (Some (device_bytes r)) (device-fits r z))
        (λ e. cond-elim P (eqb kind 2) _ _ (λ e. told-sound (Some (configuration_bytes r.plan)) (configuration-fits r z))
        (λ e. cond-elim P (eqb kind 3) _ _
        (λ e. told-sound (string_of r index language) (string-fits r z index language))
        (λ e. tt)))

    described-sound : SoundOf (described r q)
    unfolding described
    described-sound =
        let n = lowest r in
        cond-elim SoundOf (eqb n 0) _ _ (λ e. descriptor-sound (q.value / 256) (q.value % 256) q.index (eqb-true n 0 e)) (λ e. tt)

  answered-sound : (q : Request) (d : Option Decision) → Fair book d → SoundOf (answered r q d)
  unfolding answer_of
  answered-sound q None f = tt
  answered-sound q (Some (Status n)) f = let l : 2 ≤ buffer_room = omega arith in l
  answered-sound q (Some (Byte n)) f = let l : 1 ≤ buffer_room = omega arith in l
  answered-sound q (Some Describe) f = described-sound q
  answered-sound q (Some (TilesFrom start)) f = f
  answered-sound q (Some (AcceptIt e)) f = f

  pub answer-sound : (k : Kept) (p : Pipe) → SoundOf (answer r k p book)
  unfolding answer
  answer-sound k p = answered-sound p.request (decided k p book) (decided-fair book k p)

-- ---- the second half of an event

-- a good device that is awake, as facts
record Awake (l : Live) : Type 0 where
  built : l.built ≡ true
  book : book_fine l.book ≡ true
  state : awake l.kept.state ≡ true
  pipe : FitsOf l.book l.pipe

abbrev AwakeOf : Second → Type 0
AwakeOf h = Awake h.live

module _ (l : Live) (w : Awake l) where
  with-pipe : (p : Pipe) → FitsOf l.book p → Awake (with_pipe p l)
  with-pipe p f = record { built = w.built; book = w.book; state = w.state; pipe = f }

  halting-keeps : (e : EndpointAddress) (on : Bool) → Awake (halting e on l)
  halting-keeps e on =
      cond-elim Awake (eqb (e.0 % 16) 0) _ _
      (λ t. cond-elim Awake (ltb e.0 128) _ _
      (λ t. record { built = w.built; book = w.book; state = w.state; pipe = w.pipe })
      (λ t. record { built = w.built; book = w.book; state = w.state; pipe = w.pipe }))
      (λ t. record { built = w.built; book = w.book; state = w.state; pipe = w.pipe })

  awaiting-keeps : (a : BusAddress) (quirk : Bool) → a.0 ≤ 127 → Awake (awaiting a quirk l)
  awaiting-keeps a true h = record { built = w.built; book = w.book; state = refl; pipe = w.pipe }
  awaiting-keeps a false h =
      let f = w.pipe in
      record {
        built = w.built;
        book = w.book;
        state = w.state;
        pipe = record { awaited = f.awaited; held = f.held; sent = f.sent; inside = f.inside; address = h };
      }

  effected-keeps : (e : Effect) (quirk : Bool) → Allowed e → Awake (effected e quirk l)
  effected-keeps NoEffect quirk a = w
  effected-keeps (Wakeup on) quirk a = record { built = w.built; book = w.book; state = w.state; pipe = w.pipe }
  effected-keeps (Halt e) quirk a = halting-keeps e true
  effected-keeps (Unhalt e) quirk a = halting-keeps e false
  effected-keeps (Address x) quirk a = awaiting-keeps x quirk a
  effected-keeps (Turn s) quirk a = record { built = w.built; book = w.book; state = a; pipe = w.pipe }

module _ (size : ℕ) (quirk taken : Bool) (bytes : List ℕ) (l : Live) (b : List ℕ) (w : Awake l) where
  set_keeps : (v : Option Verdict) → Sound l.book v → AwakeOf (set_out v size quirk taken bytes l b)
  unfolding set_out
  set_keeps None s = with-pipe l w _ w.pipe
  set_keeps (Some (Bytes n)) s =
      let p = answering Buffer 0 n l.pipe in
      with-pipe l w _ (chunk-holds l.book p b (answering-fits l.book l.pipe b w.pipe Buffer 0 n (omega (arith, s))) size taken bytes)
  set_keeps (Some (Tiles start)) s =
      let p = answering Book start (l.book - start) l.pipe in
      with-pipe l w _ (chunk-holds l.book p b (answering-fits l.book l.pipe b w.pipe Book start (l.book - start) (omega (arith, s))) size taken bytes)
  set_keeps (Some (Accept e)) s =
      let k = effected e quirk l in
      let x = effected-keeps l w e quirk s in
      with-pipe k x _ (empty_holds k.book k.pipe b x.pipe taken StatusIn)

  tick-keeps : AwakeOf (ticked size quirk taken bytes l b)
  unfolding ticked
  tick-keeps =
      let m = in_complete size taken bytes l.pipe b in
      let f = in-holds l.book l.pipe b w.pipe size taken bytes in
      cond-elim AwakeOf (m.done && not quirk && not (eqb m.pipe.pending.0 0)) _ _
      (λ e. record {
        built = w.built;
        book = w.book;
        state = refl;
        pipe = record { awaited = f.awaited; held = f.held; sent = f.sent; inside = f.inside; address = omega arith };
      })
      (λ e. with-pipe l w m.pipe f)

follow-keeps : (r : Record) (complete tick taken : Bool) (bytes : List ℕ) (l : Live) (b : List ℕ) → Awake l → AwakeOf (followed r complete tick taken bytes l b)
unfolding followed
follow-keeps r true tick taken bytes l b w =
    let a = answer r l.kept l.pipe l.book in
    set_keeps r.plan.basics.packet r.plan.basics.quirk taken bytes l (buffer_of a b) w (verdict_of a) (answer-sound l.book r l.kept l.pipe)
follow-keeps r false true taken bytes l b w = tick-keeps r.plan.basics.packet r.plan.basics.quirk taken bytes l b w
follow-keeps r false false taken bytes l b w = w

-- ---- the whole event

fine : (l : Live) → l.built ≡ true → book_fine l.book ≡ true → state_fine l.kept.state l.before ≡ true → FitsOf l.book l.pipe → live_fine l ≡ true
unfolding live_fine
fine l x y z f = and_from _ _ (and_from _ _ (and_from _ _ x y) z) (pipe-fine l.pipe l.book f)

awake-fine : (s before : State) → awake s ≡ true → state_fine s before ≡ true
awake-fine Default before e = refl
awake-fine Addressed before e = refl
awake-fine Configured before e = refl
awake-fine Suspended before e = absurd (false≢true e)

awake-live : (l : Live) → Awake l → live_fine l ≡ true
awake-live l w = fine l w.built w.book (awake-fine l.kept.state l.before w.state) w.pipe

happens-keeps : (e : Event) (r : Record) (resumed : Bool) (s book : List ℕ) (l : Live) (b : List ℕ) → Awake l → live_fine (happens e r resumed s book l b).live ≡ true
unfolding happens data_come
happens-keeps Nothing r resumed s book l b w = awake-live l w
happens-keeps Reset r resumed s book l b w = fine _ w.built w.book refl (fresh-fits l.book Idle idle.request 0 (let none : 0 ≤ buffer_room = omega arith in none))
happens-keeps Suspend r resumed s book l b w = fine _ w.built w.book w.state w.pipe
happens-keeps Resume r resumed s book l b w = awake-live l w
happens-keeps (Data a) r resumed s book l b w =
    let m = arrived a s l.pipe b in
    let k = with-pipe l w m.pipe (arrived-holds l.book l.pipe b w.pipe a s) in
    awake-live _ (follow-keeps r m.done (odd a.done) (taken_by a.write) book (with_pipe m.pipe l) m.buffer k)

after-awake : (s before : State) → state_fine s before ≡ true → awake (state_after s before) ≡ true
after-awake Default before e = refl
after-awake Addressed before e = refl
after-awake Configured before e = refl
after-awake Suspended before e = e

woken-awake : (l : Live) → live_fine l ≡ true → Awake (woken l)
unfolding live_fine
woken-awake l e =
    let t = state_fine l.kept.state l.before in
    let x = and_left (l.built && book_fine l.book && t) (pipe_fine l.pipe l.book) e in
    let y = and_left (l.built && book_fine l.book) t x in
    record {
      built = and_left l.built (book_fine l.book) y;
      book = and_right l.built (book_fine l.book) y;
      state = after-awake l.kept.state l.before (and_right (l.built && book_fine l.book) t x);
      pipe = pipe-facts l.pipe l.book (and_right (l.built && book_fine l.book && t) (pipe_fine l.pipe l.book) e);
    }

-- from every good state, reachable or not, and with any record and any bytes, each event leads to a good state:
-- no step leaves a state that refusal 9 names
pub keeps : (e : Event) (r : Record) (s book : List ℕ) (l : Live) (b : List ℕ) → live_fine l ≡ true → live_fine (handled e r s book l b).live ≡ true
unfolding handled
keeps e r s book l b f =
    let asleep = not (awake l.kept.state) in
    cond-elim (λ (d : Done). live_fine d.live ≡ true) (asleep && dull e) _ _ (λ t. f) (λ t. happens-keeps e r asleep s book (woken l) b (woken-awake l f))
