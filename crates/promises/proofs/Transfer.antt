-- Each IN transfer that reaches StatusOut has sent exactly what its own SETUP was owed. Assumes nothing.
use Prim.Native.Nat.{ℕ, ◌+◌, ◌-◌, ◌%◌, ◌≤◌, min}
use mathlib.Core.Bool.{Bool, true, false, cond, not, ◌&&◌, false≢true}
use mathlib.Core.Path.{◌≡◌, refl, sym, ap, ap₂, subst, subst⁻¹, ◌∙◌}
use mathlib.Core.List.{List, [], ◌∷◌, ◌++◌, append-nil}
use native.Mathlib.Omega.{arith}
use borrow.Author.Tests.{le-leb, leb-true, eqb-true}
use lib.Dec.{eqb, leb, ltb}
use lib.ListN.{length, take, drop, length-drop}
use lib.Seq.{take-add, drop-drop, take-append-le, length-take-le}
use Rattle.std.specs.Prelude.{Option, Some, None}
use Rattle.common.specs.Bytes.{part, placed, piece}
use Rattle.common.proofs.Laws.{cond-elim, and_left, and_right, length-placed}
use Rattle.control.specs.declared.Direction.{Direction}
use Rattle.control.specs.declared.Direction.TheVariants.{Out}
use Rattle.control.specs.declared.Request.{Request}
use Rattle.control.specs.Setup.{request_of}
use Rattle.record.specs.declared.Record.{Record}
use Rattle.control_pipe.specs.declared.Stage.{Stage}
use Rattle.control_pipe.specs.declared.Stage.TheVariants.{Idle, DataIn, DataInZlp, DataInLast, CompleteIn, StatusOut, CompleteOut, DataOut, StatusIn, Error}
use Rattle.control_pipe.specs.declared.Read.{Read}
use Rattle.control_pipe.specs.declared.Read.TheVariants.{Packet, Block, Fault}
use Rattle.control_pipe.specs.declared.Source.{Source}
use Rattle.control_pipe.specs.declared.Source.TheVariants.{Buffer, Book}
use Rattle.control_pipe.specs.declared.Told.{Told}
use Rattle.control_pipe.specs.declared.Reply.{Reply}
use Rattle.control_pipe.specs.declared.Pipe.{Pipe}
use Rattle.control_pipe.specs.Stages.{send_empty, opened, Move, at, fresh, zeros, still, stalled, grown, filled, written, bytes_of, chunk, chunk_bytes, after_chunk, advanced, send_chunk, answering, begin_by, in_complete}
use Rattle.requests.specs.declared.Kept.{Kept}
use Rattle.requests.specs.declared.Effect.{Effect}
use Rattle.requests.specs.declared.Effect.TheVariants.{Nothing as NoEffect, Wakeup, Halt as HaltIt, Unhalt as UnhaltIt, Address as TakeAddress, Turn}
use Rattle.requests.specs.declared.Decision.{Decision}
use Rattle.requests.specs.declared.Decision.TheVariants.{Status, Byte, Describe, Tiles, Accept}
use Rattle.requests.specs.Requests.{decide_out, decide_by, decided}
use Rattle.answers.specs.Answers.{Answer, stall, tell, tiles, accept, answer_of, answered, answer, verdict_of, bytes_of as answer_bytes}
use Rattle.live.specs.declared.Live.{Live}
use Rattle.live.specs.Live.{awake, source_room}
use Rattle.effects.specs.Effects.{Second, with_pipe, effected, accepted, set_out, ticked}
use Rattle.events.specs.declared.Arrival.{Arrival}
use Rattle.events.specs.declared.Event.{Event}
use Rattle.events.specs.declared.Event.TheVariants.{Nothing, Reset, Suspend, Resume, Data}
use Rattle.events.specs.Events.{Done, odd, arrived, replied, taken_by, followed, data_come, woken, dull, happens as happens_to, handled}
use Rattle.device.specs.declared.Device.{Device}
use Rattle.device.specs.declared.Stepped.{Stepped}
use Rattle.device.specs.Device.{build_refusal, made, refused_by, unfit_device, step_of, powered_of, done}
use Rattle.steady.proofs.Decisions.{decide-out-elim}
use Rattle.steady.proofs.Moves.{begin-elim, arrived-elim, in-elim}
use Rattle.steady.proofs.Keeps.{FitsOf, pipe-facts, arrived-holds, Sound, answer-sound}
use Rattle.steady.proofs.Kept.{Whole, arrived-whole, kept-length}
use Rattle.steady.proofs.Packets.{short}
use Rattle.promises.specs.History.{Moment, happens, powers, asks, after, shown}
use Rattle.promises.specs.Transfers.{is_packet, accepts, opens, owed_by, gone, joined, Log, next, follow, Lends, begin}
use Rattle.promises.proofs.Cut.{accepted as accepted-setup, data-done}
use Rattle.steady.proofs.Usable.{Usable, usable, step-taken}
use Rattle.promises.proofs.Sent.{took_of, Exact, joined-append, listed-took, step-refused, gone-refused, gone-taken}

-- ---- lists

two-parts : (at n m : ℕ) (s : List ℕ) → part at n s ++ part (at + n) m s ≡ part at (n + m) s
two-parts at n m s = sym (take-add n m (drop at s) ∙ ap (λ (t : List ℕ). take n (drop at s) ++ take m t) (drop-drop n at s))

piece_inside : (at n : ℕ) (s : List ℕ) → at + n ≤ length s → piece at n s ≡ part at n s
unfolding piece
piece_inside at n s l = rw (le-leb (at + n) (length s) l) refl

part_length : (at n : ℕ) (s : List ℕ) → at + n ≤ length s → length (part at n s) ≡ n
part_length at n s l = let k : n ≤ length (drop at s) = simp length-drop (omega arith) in length-take-le n (drop at s) k

-- ---- an accepted SETUP

pub accepts-setup : (a : Arrival) (s : List ℕ) → odd a.setup ≡ true → a.read ≡ Packet → length s ≡ 8 → accepts (Data a) s ≡ true
accepts-setup a s o r e = rw (o, r, e) refl

-- ---- how far an answer has gone

-- what is owed is the answer of the pipe, and what was sent is its part so far
record Reading (a : Reply) (all owed sent : List ℕ) : Type 0 where
  owes : owed ≡ part a.start a.len all
  has : sent ≡ part a.start a.sent all

module _ (book : List ℕ) where
  abbrev UnderAt : Stage → Reply → Request → List ℕ → List ℕ → List ℕ → Type 0
  UnderAt Idle a q b owed sent = Unit {0}
  UnderAt DataIn a q b owed sent = Reading a (bytes_of a.source b book) owed sent
  UnderAt DataInZlp a q b owed sent = sent ≡ owed
  UnderAt DataInLast a q b owed sent = sent ≡ owed
  UnderAt CompleteIn a q b owed sent = Unit {0}
  UnderAt StatusOut a q b owed sent = sent ≡ owed
  UnderAt CompleteOut a q b owed sent = Unit {0}
  UnderAt DataOut a q b owed sent = q.direction ≡ Out
  UnderAt StatusIn a q b owed sent = Unit {0}
  UnderAt Error a q b owed sent = Unit {0}

  abbrev Under : Pipe → List ℕ → List ℕ → List ℕ → Type 0
  Under p b owed sent = UnderAt p.stage p.reply p.request b owed sent

  -- .. after something was told, perhaps with a packet
  record Sends (p : Pipe) (b : List ℕ) (t : Told) (s owed sent : List ℕ) : Type 0 where
    under : Under p b owed (sent ++ took_of t s)
    exact : Exact t s

  abbrev Next : List ℕ → List ℕ → Move → Type 0
  Next owed sent m = Sends m.pipe m.buffer m.told m.packet owed sent

  module _ (owed sent : List ℕ) where
    -- nothing more was sent
    same : (t : Stage) (a : Reply) (q : Request) (b : List ℕ) → UnderAt t a q b owed sent → UnderAt t a q b owed (sent ++ [])
    same t a q b u = subst⁻¹ (λ (x : List ℕ). UnderAt t a q b owed x) (append-nil sent) u

    module _ (p : Pipe) (b : List ℕ) where
      abbrev all : List ℕ
      all = bytes_of p.reply.source b book

      -- a chunk of the answer
      module _ (size : ℕ) (e : p.stage ≡ DataIn) (u : Reading p.reply all owed sent) (l : p.reply.sent ≤ p.reply.len) (k : p.reply.start + p.reply.len ≤ length all) where
        abbrev a : Reply
        a = p.reply

        abbrev n : ℕ
        n = chunk size a

        h : a.start + a.sent + n ≤ length all
        h = omega (arith, l, k)

        g : chunk_bytes size a b book ≡ part (a.start + a.sent) n all
        g = piece_inside (a.start + a.sent) n all h

        more : sent ++ chunk_bytes size a b book ≡ part a.start (a.sent + n) all
        more = ap₂ (λ (x y : List ℕ). x ++ y) u.has g ∙ two-parts a.start a.sent n all

        further : Under (advanced size n p) b owed (sent ++ chunk_bytes size a b book)
        unfolding advanced after_chunk
        further =
            let next : Reply = record { source = a.source; start = a.start; len = a.len; sent = a.sent + n } in
            let P : Stage → Type 0 = λ t. UnderAt t next p.request b owed (sent ++ chunk_bytes size a b book) in
            cond-elim P (leb a.len (a.sent + n)) _ _
            (λ x. let y : a.len ≤ a.sent + n = leb-true _ _ x in
            let z : a.sent + n ≡ a.len = omega (arith, l, y) in
            let whole : sent ++ chunk_bytes size a b book ≡ owed = more ∙ (ap (λ (i : ℕ). part a.start i all) z ∙ sym u.owes) in
            cond-elim P (eqb n size) _ _ (λ x. whole) (λ x. whole))
            (λ x. record { owes = u.owes; has = more })

        chunk_next : (taken : Bool) → Next owed sent (send_chunk size taken book p b)
        unfolding send_chunk
        chunk_next false = record { under = subst⁻¹ (λ (t : Stage). UnderAt t p.reply p.request b owed (sent ++ [])) e (same DataIn p.reply p.request b u); exact = tt }
        chunk_next true = record { under = further; exact = rw g (part_length (a.start + a.sent) n all h) }

      -- ---- an IN-complete

      in-next : (size : ℕ) (taken : Bool) → Under p b owed sent → p.reply.sent ≤ p.reply.len → p.reply.start + p.reply.len ≤ length all → Next owed sent (in_complete size taken book p b)
      in-next size taken u l k =
          in-elim (Next owed sent) p b still-next size taken book (λ e. chunk_next size e (known DataIn e) l k taken) (λ e. empty-next taken (known DataInZlp e))
          (λ e. record { under = append-nil sent ∙ known DataInLast e; exact = tt }) (λ e. record { under = tt; exact = tt })
        where
          known : (t : Stage) → p.stage ≡ t → UnderAt t p.reply p.request b owed sent
          known t e = subst (λ (x : Stage). UnderAt x p.reply p.request b owed sent) e u

          still-next : Next owed sent (still p b)
          still-next = record { under = same p.stage p.reply p.request b u; exact = tt }

          empty-next : (t : Bool) → sent ≡ owed → Next owed sent (send_empty t DataInLast p b)
          empty-next true e = record { under = append-nil sent ∙ e; exact = refl }
          empty-next false e = record { under = still-next.under; exact = tt }

    -- ---- the first half of an event that is no accepted SETUP

    -- nothing is sent, and a request that is complete is an OUT request
    record Half (m : Move) : Type 0 where
      waits : m.done ≡ false → Under m.pipe m.buffer owed sent
      decides : m.done ≡ true → (m.pipe.request.direction ≡ Out) × (m.pipe.stage ≡ CompleteOut)

    module _ (p : Pipe) (b : List ℕ) where
      still-half : Under p b owed sent → Half (still p b)
      still-half u = record { waits = λ x. u; decides = λ x. absurd (false≢true x) }

      idle-half : Half (still (at Idle p) b)
      idle-half = record { waits = λ x. tt; decides = λ x. absurd (false≢true x) }

      stalled-half : Half (stalled p b)
      stalled-half = record { waits = λ x. tt; decides = λ x. absurd (false≢true x) }

      filled-half : (b' : List ℕ) (x : Pipe) → x.request.direction ≡ Out → Half (filled x b')
      filled-half b' x o = by (leb x.coming.awaited x.coming.held) refl
        where
          by : (full : Bool) → leb x.coming.awaited x.coming.held ≡ full → Half (filled x b')
          by true e = record { waits = λ z. absurd (false≢true (sym z ∙ e)); decides = λ z. (o, rw e refl) }
          by false e = record { waits = λ z. rw e o; decides = λ z. absurd (false≢true (sym e ∙ z)) }

      arrived-half : (a : Arrival) (s : List ℕ) → accepts (Data a) s ≡ false → Under p b owed sent → Half (arrived a s p b)
      arrived-half a s e u =
          arrived-elim Half p b (still-half u) s idle-half stalled-half
          (λ x l. filled-half (placed b p.coming.held s) (grown (length s) p) (subst (λ (t : Stage). UnderAt t p.reply p.request b owed sent) x u))
          a (λ o r k. absurd (false≢true (sym e ∙ accepts-setup a s o r k)))

pub is-packet : (r : Read) → is_packet r ≡ true → r ≡ Packet
is-packet Packet e = refl
is-packet Block e = absurd (false≢true e)
is-packet Fault e = absurd (false≢true e)

-- ---- what an OUT request is decided to: a stall, or an effect

abbrev pub Bare : Option Decision → Type 0
Bare None = Unit {0}
Bare (Some (Status n)) = ⊥
Bare (Some (Byte n)) = ⊥
Bare (Some Describe) = ⊥
Bare (Some (Tiles n)) = ⊥
Bare (Some (Accept e)) = Unit {0}

pub bare : (k : Kept) (q : Request) → Bare (decide_out q.kind k q)
bare k q = decide-out-elim Bare tt k q tt (λ on. tt) (λ e. tt) (λ e. tt) (λ a l t w c v. tt) (λ s e. tt)

-- ---- the second half of an event

pub effected-stage : (e : Effect) (quirk : Bool) (l : Live) → (effected e quirk l).pipe.stage ≡ l.pipe.stage
effected-stage NoEffect quirk l = refl
effected-stage (Wakeup on) quirk l = refl
effected-stage (HaltIt e) quirk l =
    let P : Live → Type 0 = λ x. x.pipe.stage ≡ l.pipe.stage in
    cond-elim P (eqb (e.0 % 16) 0) _ _ (λ t. cond-elim P (ltb e.0 128) _ _ (λ t. refl) (λ t. refl)) (λ t. refl)
effected-stage (UnhaltIt e) quirk l =
    let P : Live → Type 0 = λ x. x.pipe.stage ≡ l.pipe.stage in
    cond-elim P (eqb (e.0 % 16) 0) _ _ (λ t. cond-elim P (ltb e.0 128) _ _ (λ t. refl) (λ t. refl)) (λ t. refl)
effected-stage (TakeAddress a) true l = refl
effected-stage (TakeAddress a) false l = refl
effected-stage (Turn s) quirk l = refl

room-length : (source : Source) (b book : List ℕ) (n : ℕ) → Whole b → n ≡ length book → source_room source n ≡ length (bytes_of source b book)
room-length Buffer b book n w e = sym w
room-length Book b book n w e = e

module _ (book : List ℕ) (r : Record) where
  abbrev size : ℕ
  size = r.plan.basics.packet

  abbrev quirk : Bool
  quirk = r.plan.basics.quirk

  abbrev Second-next : List ℕ → List ℕ → Second → Type 0
  Second-next owed sent h = Sends book h.live.pipe h.buffer h.told h.packet owed sent

  abbrev Done-next : List ℕ → List ℕ → Done → Type 0
  Done-next owed sent d = Sends book d.live.pipe d.buffer d.second d.packet owed sent

  module _ (owed sent : List ℕ) (taken : Bool) (l : Live) (b : List ℕ) where
    -- a stage of which nothing is claimed
    abbrev Free : Stage → Type 0
    Free t = (a : Reply) (q : Request) (x : List ℕ) → UnderAt book t a q b owed x

    accept-next : (e : Effect) (t : Stage) → l.pipe.stage ≡ t → Free t → Second-next owed sent (accepted e quirk taken l b)
    accept-next e t z f =
        let x = (effected e quirk l).pipe in
        let free : Under book x b owed (sent ++ []) = subst⁻¹ (λ (s : Stage). UnderAt book s x.reply x.request b owed (sent ++ [])) (effected-stage e quirk l ∙ z) (f x.reply x.request (sent ++ [])) in
        by taken x free
      where
        by : (u : Bool) (x : Pipe) → Under book x b owed (sent ++ []) → Sends book (cond u (at StatusIn x) x) b (written u 0) [] owed sent
        by true x f = record { under = tt; exact = refl }
        by false x f = record { under = f; exact = tt }

    -- an OUT request sends nothing of an answer
    out-next : (d : Option Decision) → Bare d → l.pipe.stage ≡ CompleteOut → Second-next owed sent (replied (answered r l.pipe.request d) size quirk taken book l b)
    unfolding answer_of set_out
    out-next None f e = record { under = tt; exact = tt }
    out-next (Some (Status n)) f e = absurd f
    out-next (Some (Byte n)) f e = absurd f
    out-next (Some Describe) f e = absurd f
    out-next (Some (Tiles n)) f e = absurd f
    out-next (Some (Accept x)) f e = accept-next x CompleteOut e (λ a q s. tt)

    ticked-next : Under book l.pipe b owed sent → l.pipe.reply.sent ≤ l.pipe.reply.len → l.pipe.reply.start + l.pipe.reply.len ≤ length (bytes_of l.pipe.reply.source b book)
        → Second-next owed sent (ticked size quirk taken book l b)
    unfolding ticked
    ticked-next u f g =
        let p = l.pipe in
        let m = in_complete size taken book p b in
        let k = in-next book owed sent p b size taken u f g in
        cond-elim (Second-next owed sent) (m.done && not quirk && not (eqb m.pipe.pending.0 0)) _ _ (λ e. record { under = k.under; exact = k.exact }) (λ e. record { under = k.under; exact = k.exact })

    -- no request came out
    waits-next : (tick : Bool) → Under book l.pipe b owed sent → l.pipe.reply.sent ≤ l.pipe.reply.len → l.pipe.reply.start + l.pipe.reply.len ≤ length (bytes_of l.pipe.reply.source b book)
        → Second-next owed sent (followed r false tick taken book l b)
    unfolding followed
    waits-next true u f g = ticked-next u f g
    waits-next false u f g = record { under = same book owed sent l.pipe.stage l.pipe.reply l.pipe.request b u; exact = tt }

    -- an OUT request came out
    decides-next : (tick : Bool) → l.pipe.request.direction ≡ Out → l.pipe.stage ≡ CompleteOut → Second-next owed sent (followed r true tick taken book l b)
    unfolding followed answer decided
    decides-next tick o e =
        let q = l.pipe.request in
        subst⁻¹ (λ (x : Direction). Second-next owed sent (replied (answered r q (decide_by x l.kept l.pipe q l.book)) size quirk taken book l b)) o (out-next (decide_out q.kind l.kept q) (bare l.kept q) e)

  -- ---- the event of an accepted SETUP

  -- the first bytes of an answer
  abbrev first_of : Request → Answer → List ℕ
  first_of q a = take (min (length (answer_bytes a book)) q.length) (answer_bytes a book)

  module _ (q : Request) (taken : Bool) (l : Live) (n : l.book ≡ length book) where
    abbrev opened-live : Live
    opened-live = with_pipe (fresh CompleteIn q 0) l

    -- an IN request: the answer sets out
    in-answer : (a : Answer) → Sound l.book (verdict_of a) → Second-next (first_of q a) [] (replied a size quirk taken book opened-live zeros)
    unfolding set_out answer_bytes placed
    in-answer stall f = record { under = tt; exact = tt }
    in-answer (tell bytes) f =
        let k = min (length bytes) q.length in
        let rest = drop (0 + length bytes) zeros in
        let p = answering Buffer 0 (length bytes) (fresh CompleteIn q 0) in
        let fits : 0 + length bytes ≤ length zeros = omega (arith, f) in
        let whole : length (placed zeros 0 bytes) ≡ length zeros = length-placed zeros bytes 0 fits in
        let room : 0 + k ≤ length (bytes ++ rest) = rw whole (omega arith) in
        let owes : take k bytes ≡ take k (bytes ++ rest) = sym (take-append-le k bytes rest (omega arith)) in
        let z = chunk_next book (take k bytes) [] p (bytes ++ rest) size refl (record { owes = owes; has = refl }) (omega arith) room taken in
        record { under = z.under; exact = z.exact }
    in-answer (tiles start) f =
        let p = answering Book start (l.book - start) (fresh CompleteIn q 0) in
        let e : length (drop start book) ≡ l.book - start = length-drop start book ∙ ap (λ (x : ℕ). x - start) (sym n) in
        let owes : first_of q (tiles start) ≡ part start (min (l.book - start) q.length) book = ap (λ (x : ℕ). take (min x q.length) (drop start book)) e in
        let room : start + min (l.book - start) q.length ≤ length book = omega (arith, f, n) in
        let z = chunk_next book (first_of q (tiles start)) [] p zeros size refl (record { owes = owes; has = refl }) (omega arith) room taken in
        record { under = z.under; exact = z.exact }
    in-answer (accept e) f = accept-next (first_of q (accept e)) [] taken opened-live zeros e CompleteIn refl (λ a q s. tt)

  module _ (q : Request) (tick taken : Bool) (l : Live) (n : l.book ≡ length book) where
    -- what is owed to it
    abbrev owed : List ℕ
    owed = first_of q (answer r l.kept (fresh CompleteIn q 0) (length book))

    abbrev Opened : Move → Type 0
    Opened m = Second-next owed [] (followed r m.done tick taken book (with_pipe m.pipe l) m.buffer)

    opened_in : Opened (opened (fresh CompleteIn q 0) true)
    unfolding followed
    opened_in =
        let p = fresh CompleteIn q 0 in
        subst⁻¹ (λ (x : ℕ). Second-next (first_of q (answer r l.kept p x)) [] (replied (answer r l.kept p l.book) size quirk taken book (with_pipe p l) zeros)) (sym n)
        (in-answer q taken l n (answer r l.kept p l.book) (answer-sound l.book r l.kept p))

    opened-next : Opened (begin_by q.direction q)
    opened-next =
        begin-elim Opened q (λ d. opened_in) (λ d. decides-next owed [] taken (with_pipe (fresh CompleteOut q 0) l) zeros tick d refl)
        (λ d k. waits-next owed [] taken (with_pipe (fresh DataOut q q.length) l) zeros tick d (omega arith) (omega arith))
        (waits-next owed [] taken (with_pipe (stalled (fresh Error q 0) zeros).pipe l) zeros tick tt (omega arith) (omega arith))

  -- ---- the whole event

  module _ (s : List ℕ) (l : Live) (b : List ℕ) (n : l.book ≡ length book) (w : Whole b) (f : FitsOf l.book l.pipe) where
    -- one that is no accepted SETUP goes on
    goes_on : (owed sent : List ℕ) (resumed : Bool) (a : Arrival) → accepts (Data a) s ≡ false → Under book l.pipe b owed sent → Done-next owed sent (data_come r resumed a s book l b)
    unfolding data_come
    goes_on owed sent resumed a x u =
        let m = arrived a s l.pipe b in
        let h = arrived-half book owed sent l.pipe b a s x u in
        let g = arrived-holds l.book l.pipe b f a s in
        let c = m.pipe.reply in
        let k : c.start + c.len ≤ length (bytes_of c.source m.buffer book) =
        subst (λ (x : ℕ). c.start + c.len ≤ x) (room-length c.source m.buffer book l.book (arrived-whole l.pipe b w a s) n) g.inside in
        let z = by m h g.sent k m.done refl in
        record { under = z.under; exact = z.exact }
      where
        by : (m : Move) → Half book owed sent m → m.pipe.reply.sent ≤ m.pipe.reply.len → m.pipe.reply.start + m.pipe.reply.len ≤ length (bytes_of m.pipe.reply.source m.buffer book)
            → (t : Bool) → m.done ≡ t → Second-next owed sent (followed r t (odd a.done) (taken_by a.write) book (with_pipe m.pipe l) m.buffer)
        by m h g k true e = let y = h.decides e in decides-next owed sent (taken_by a.write) (with_pipe m.pipe l) m.buffer (odd a.done) y.0 y.1
        by m h g k false e = waits-next owed sent (taken_by a.write) (with_pipe m.pipe l) m.buffer (odd a.done) (h.waits e) g k

    -- an accepted SETUP begins anew
    begins : (resumed : Bool) (a : Arrival) → odd a.setup ≡ true → a.read ≡ Packet → length s ≡ 8
        → Done-next (first_of (request_of s) (answer r l.kept (fresh CompleteIn (request_of s) 0) (length book))) [] (data_come r resumed a s book l b)
    unfolding data_come
    begins resumed a o x e =
        let q = request_of s in
        let m = begin_by q.direction q in
        let z = opened-next q (odd a.done) (taken_by a.write) l n in
        let y : Opened q (odd a.done) (taken_by a.write) l n (arrived a s l.pipe b) = subst⁻¹ (Opened q (odd a.done) (taken_by a.write) l n) (accepted-setup a s l.pipe b o x e) z in
        record { under = y.under; exact = y.exact }

  module _ (s : List ℕ) (l : Live) (b : List ℕ) (n : l.book ≡ length book) (w : Whole b) (f : FitsOf l.book l.pipe) where
    happens-next : (e : Event) (owed sent : List ℕ) → accepts e s ≡ false → Under book l.pipe b owed sent → Done-next owed sent (handled e r s book l b)
    unfolding handled happens_to
    happens-next e owed sent x u =
        let asleep = not (awake l.kept.state) in
        cond-elim (Done-next owed sent) (asleep && dull e) _ _ (λ t. record { under = same book owed sent l.pipe.stage l.pipe.reply l.pipe.request b u; exact = tt }) (λ t. by e x)
      where
        by : (e : Event) → accepts e s ≡ false → Done-next owed sent (happens_to e r (not (awake l.kept.state)) s book (woken l) b)
        by Nothing x = record { under = same book owed sent l.pipe.stage l.pipe.reply l.pipe.request b u; exact = tt }
        by Reset x = record { under = tt; exact = tt }
        by Suspend x = record { under = same book owed sent l.pipe.stage l.pipe.reply l.pipe.request b u; exact = tt }
        by Resume x = record { under = same book owed sent l.pipe.stage l.pipe.reply l.pipe.request b u; exact = tt }
        by (Data a) x = goes_on s (woken l) b n w f owed sent (not (awake l.kept.state)) a x u

    setup-next : (e : Event) → accepts e s ≡ true
        → Done-next (first_of (request_of s) (answer r (woken l).kept (fresh CompleteIn (request_of s) 0) (length book))) [] (handled e r s book l b)
    setup-next Nothing x = absurd (false≢true x)
    setup-next Reset x = absurd (false≢true x)
    setup-next Suspend x = absurd (false≢true x)
    setup-next Resume x = absurd (false≢true x)
    setup-next (Data a) x =
        let y = and_right (odd a.setup) (is_packet a.read && eqb (length s) 8) x in
        subst⁻¹ (Done-next (first_of (request_of s) (answer r (woken l).kept (fresh CompleteIn (request_of s) 0) (length book))) []) (data-done a r s book l b)
        (begins s (woken l) b n w f (not (awake l.kept.state)) a (and_left (odd a.setup) (is_packet a.read && eqb (length s) 8) x)
        (is-packet a.read (and_left (is_packet a.read) (eqb (length s) 8) y)) (eqb-true (length s) 8 (and_right (is_packet a.read) (eqb (length s) 8) y)))

-- ---- histories

-- what holds all along: how far the answer of the last accepted SETUP has gone
record Along (book : List ℕ) (d : Device) (owed sent : List ℕ) : Type 0 where
  whole : Whole d.buffer
  under : Under book d.live.pipe d.buffer owed sent

abbrev AlongOf : List ℕ → Log → Type 0
AlongOf book g = Along book g.device g.owed (joined g.sent)

module _ (book : List ℕ) (g : Log) (c : AlongOf book g) where
  abbrev d : Device
  d = g.device

  still-along : Along book d g.owed (joined (g.sent ++ []))
  still-along = subst⁻¹ (λ (x : List (List ℕ)). Along book d g.owed (joined x)) (append-nil g.sent) c

  powers-along : (on : Bool) → AlongOf book (next g (powers on))
  unfolding next opens after gone shown powered_of
  powers-along on = cond-elim (λ (x : Device). Along book x g.owed (joined (g.sent ++ []))) (eqb (unfit_device d) 0) _ _ (λ t. record { whole = c.whole; under = still-along.under }) (λ t. still-along)

  asks-along : (room : List ℕ) → AlongOf book (next g (asks room))
  unfolding next opens after gone shown
  asks-along room = still-along

  module _ (e : Event) (s room : List ℕ) where
    abbrev m : Moment
    m = happens e book s room

    -- a refused call is no event
    refused-along : eqb (refused_by d book room) 0 ≡ false → AlongOf book (next g m)
    unfolding next opens after
    refused-along z =
        rw (z, gone-refused d book e s room z)
        (subst⁻¹ (λ (x : Stepped). Along book x.device g.owed (joined (g.sent ++ []))) (step-refused d book e s room z) still-along)

    module _ (z : refused_by d book room ≡ 0) where
      abbrev x : Done
      x = done d book e s

      abbrev u : Usable d book room
      u = usable d book room z

      -- what an event leaves, of what was owed and sent before it
      taken-along : (owed : List ℕ) (sent : List (List ℕ)) → Sends book x.live.pipe x.buffer x.second x.packet owed (joined sent) → Along book (after d m) owed (joined (sent ++ gone (shown d m)))
      unfolding after
      taken-along owed sent y =
          let f : length x.packet ≤ d.profile.plan.basics.packet = (short e d.profile s book d.live d.buffer).packet in
          let k : length x.packet ≤ length room = omega (arith, f, u.room) in
          let h : joined (sent ++ gone (shown d m)) ≡ joined sent ++ took_of x.second x.packet =
          joined-append sent (gone (shown d m))
          ∙ ap (λ (i : List ℕ). joined sent ++ i) (ap joined (gone-taken d book e s room z) ∙ listed-took x.second x.packet room y.exact k) in
          subst⁻¹ (λ (i : List ℕ). Along book (step_of d book e s room).device owed i) h
          (subst⁻¹ (λ (i : Stepped). Along book i.device owed (joined sent ++ took_of x.second x.packet)) (step-taken d book e s room z)
          (record { whole = kept-length e d.profile s book d.live d.buffer c.whole; under = y.under }))

      event-along : AlongOf book (next g m)
      unfolding next opens owed_by joined
      event-along =
          let n : d.live.book ≡ length book = sym u.same in
          let f = pipe-facts d.live.pipe d.live.book u.pipe in
          rw z (cond-elim (AlongOf book) (accepts e s) _ _ (λ t. taken-along _ [] (setup-next book d.profile s d.live d.buffer n c.whole f e t))
          (λ t. taken-along g.owed g.sent (happens-next book d.profile s d.live d.buffer n c.whole f e g.owed (joined g.sent) t c.under)))

    happens-along : AlongOf book (next g m)
    happens-along = by (eqb (refused_by d book room) 0) refl
      where
        by : (t : Bool) → eqb (refused_by d book room) 0 ≡ t → AlongOf book (next g m)
        by true z = event-along (eqb-true (refused_by d book room) 0 z)
        by false z = refused-along z

along : (book : List ℕ) (ms : List Moment) (g : Log) → Lends book ms → AlongOf book g → AlongOf book (follow g ms)
unfolding follow
along book [] g l c = c
along book (happens e b s room ∷ ms) g l c =
    subst⁻¹ (λ (x : List ℕ). AlongOf book (follow (next g (happens e x s room)) ms)) l.0 (along book ms (next g (happens e book s room)) l.1 (happens-along book g c e s room))
along book (powers on ∷ ms) g l c = along book ms (next g (powers on)) l (powers-along book g c on)
along book (asks room ∷ ms) g l c = along book ms (next g (asks room)) l (asks-along book g c room)

built-along : (r : Record) (n : ℕ) (book : List ℕ) → AlongOf book (begin r n)
unfolding made
built-along r n book = cond-elim (λ (x : Device). Along book x [] (joined [])) (eqb (build_refusal r n) 0) _ _ (λ t. record { whole = refl; under = tt }) (λ t. record { whole = refl; under = tt })

arrives : (book : List ℕ) (t : Stage) (a : Reply) (q : Request) (b owed sent : List ℕ) → t ≡ StatusOut → UnderAt book t a q b owed sent → sent ≡ owed
arrives book t a q b owed sent e u = subst (λ (x : Stage). UnderAt book x a q b owed sent) e u

-- Build a mast, lend it one book, and let anything happen to it. Whenever an answer has been read to its end, the bytes that the
-- laptop took since it asked are the first min(length, wLength) bytes of the answer to its own question, and nothing else.
pub transfer : (r : Record) (n : ℕ) (book : List ℕ) (ms : List Moment) → Lends book ms
    → (let g = follow (begin r n) ms in g.device.live.pipe.stage ≡ StatusOut → joined g.sent ≡ g.owed)
transfer r n book ms l e =
    let g = follow (begin r n) ms in
    let p = g.device.live.pipe in
    arrives book p.stage p.reply p.request g.device.buffer g.owed (joined g.sent) e (along book ms (begin r n) l (built-along r n book)).under
