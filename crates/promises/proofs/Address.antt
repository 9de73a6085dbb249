-- An address is set only where the request that names it lets it be. Assumes nothing.
use Prim.Native.Nat.{ℕ, ◌+◌, ◌-◌, ◌/◌, ◌%◌}
use mathlib.Core.Bool.{Bool, true, false, cond, not, ◌&&◌, false≢true}
use mathlib.Core.Path.{◌≡◌, refl, sym, ap, subst, subst⁻¹, ◌∙◌}
use mathlib.Core.List.{List, [], ◌∷◌, ◌++◌}
use Rattle.std.specs.Prelude.{Option, Some, None}
use borrow.Author.Tests.{eqb-true}
use lib.Dec.{eqb, leb, ltb}
use lib.ListN.{length}
use Rattle.common.specs.Bytes.{placed}
use Rattle.common.proofs.Laws.{cond-elim, and_left, and_right, and-false}
use Rattle.control.specs.declared.EndpointAddress.{EndpointAddress}
use Rattle.control.specs.declared.BusAddress.{BusAddress}
use Rattle.control.specs.declared.Direction.{Direction}
use Rattle.control.specs.declared.Direction.TheVariants.{In, Out}
use Rattle.control.specs.declared.Request.{Request}
use Rattle.control.specs.Setup.{request_of}
use Rattle.record.specs.declared.Record.{Record}
use Rattle.limits.specs.Limits.{lowest}
use Rattle.control_pipe.specs.declared.Stage.{Stage}
use Rattle.control_pipe.specs.declared.Stage.TheVariants.{Idle, DataIn, DataInZlp, DataInLast, CompleteIn, StatusOut, CompleteOut, DataOut, StatusIn, Error}
use Rattle.control_pipe.specs.declared.Read.TheVariants.{Packet}
use Rattle.control_pipe.specs.declared.Told.{Told}
use Rattle.control_pipe.specs.declared.Told.TheVariants.{Nothing as Silence, Unstalls, UnstallsStalls, Stalls, UnstallOut as UnstalledOut, Write as Wrote, Refused as Declined}
use Rattle.control_pipe.specs.declared.Pipe.{Pipe}
use Rattle.control_pipe.specs.declared.Source.TheVariants.{Buffer, Book}
use Rattle.control_pipe.specs.Stages.{send_empty, Move, at, answering, fresh, zeros, still, stalled, grown, filled, chunk, after_chunk, advanced, send_chunk, begin_by, in_complete}
use Rattle.requests.specs.declared.Kept.{Kept}
use Rattle.requests.specs.declared.Effect.{Effect}
use Rattle.requests.specs.declared.Effect.TheVariants.{Nothing as NoEffect, Wakeup, Halt as HaltIt, Unhalt as UnhaltIt, Address as TakeAddress, Turn}
use Rattle.requests.specs.declared.Decision.{Decision}
use Rattle.requests.specs.declared.Decision.TheVariants.{Status, Byte, Describe, Tiles, Accept}
use Rattle.requests.specs.Requests.{decide_out, decide_by, decided}
use Rattle.writer.specs.Descriptors.{descriptor_of}
use Rattle.answers.specs.Answers.{Answer, stall, tell, tiles, accept, told, described, answer_of, answered, answer}
use Rattle.live.specs.declared.Live.{Live}
use Rattle.live.specs.Live.{awake}
use Rattle.effects.specs.declared.Action.{Action}
use Rattle.effects.specs.declared.Action.TheVariants.{Nothing as NoAction, Resume as TellResume, Suspend as TellSuspend, Reset as TellReset, UnstallOut, UnstallIn, StallOut, StallIn, Halt, Unhalt, Address, Write, Refused}
use Rattle.effects.specs.Effects.{Second, with_pipe, halting, effected, action_of, set_out, ticked}
use Rattle.events.specs.declared.Arrival.{Arrival}
use Rattle.events.specs.declared.Event.{Event}
use Rattle.events.specs.declared.Event.TheVariants.{Nothing, Reset, Suspend, Resume, Data}
use Rattle.events.specs.Events.{Done, odd, arrived, replied, taken_by, followed, data_come, woken, happens as happens_to, handled, listed, alone, told_by}
use Rattle.actions.specs.Actions.{packed, slots}
use Rattle.device.specs.declared.Device.{Device}
use Rattle.device.specs.declared.Stepped.{Stepped}
use Rattle.device.specs.Device.{build_refusal, made, refused_by, unfit_device, stepped_to, powered_of, done}
use Rattle.steady.proofs.Decisions.{decide-in-elim, decide-out-elim}
use Rattle.steady.proofs.Moves.{begin-elim, arrived-elim, in-elim}
use Rattle.promises.specs.History.{Moment, happens, powers, asks, after, shown, told_in}
use Rattle.promises.specs.Transfers.{is_packet, accepts, All}
use Rattle.promises.specs.Addresses.{last_by, last_after, Tale, further, tale, opening, Names, Named, Acts, Addresses, tick_of, ticks, Completed, decided_by, decides}
use Rattle.steady.proofs.Usable.{step-taken}
use Rattle.promises.proofs.Cut.{accepted}
use Rattle.promises.proofs.Sent.{step-refused, kept-profile, all_append, all_slots}
use Rattle.promises.proofs.Transfer.{accepts-setup, is-packet, effected-stage}

-- ---- a request that is accepted with an address names it

module _ (q : Request) where
  abbrev Naming : Effect → Type 0
  Naming NoEffect = Unit {0}
  Naming (Wakeup on) = Unit {0}
  Naming (HaltIt e) = Unit {0}
  Naming (UnhaltIt e) = Unit {0}
  Naming (TakeAddress a) = Names q a
  Naming (Turn s) = Unit {0}

  abbrev NamingBy : Option Decision → Type 0
  NamingBy None = Unit {0}
  NamingBy (Some (Status n)) = Unit {0}
  NamingBy (Some (Byte n)) = Unit {0}
  NamingBy (Some Describe) = Unit {0}
  NamingBy (Some (Tiles n)) = Unit {0}
  NamingBy (Some (Accept e)) = Naming e

  abbrev NamingIn : Answer → Type 0
  NamingIn stall = Unit {0}
  NamingIn (tell bytes) = Unit {0}
  NamingIn (tiles start) = Unit {0}
  NamingIn (accept e) = Naming e

  out-names : (k : Kept) → q.direction ≡ Out → NamingBy (decide_out q.kind k q)
  out-names k o = decide-out-elim NamingBy tt k q tt (λ on. tt) (λ e. tt) (λ e. tt) (λ a l t w c v. record { direction = o; kind = t; recipient = w; code = c; value = v }) (λ s e. tt)

  decision-names : (d : Direction) (k : Kept) (p : Pipe) (n : ℕ) → q.direction ≡ d → NamingBy (decide_by d k p q n)
  decision-names In k p n o = decide-in-elim NamingBy tt k q p n (λ n. tt) (λ n. tt) tt (λ s l. tt) q.kind
  decision-names Out k p n o = out-names k o

  told_names : (o : Option (List ℕ)) → NamingIn (told o)
  told_names None = tt
  told_names (Some bytes) = tt

  answer-names : (r : Record) (d : Option Decision) → NamingBy d → NamingIn (answered r q d)
  unfolding answer_of described
  answer-names r None f = tt
  answer-names r (Some (Status n)) f = tt
  answer-names r (Some (Byte n)) f = tt
  answer-names r (Some Describe) f = cond-elim NamingIn (eqb (lowest r) 0) _ _ (λ t. told_names (descriptor_of r (q.value / 256) (q.value % 256) q.index)) (λ t. tt)
  answer-names r (Some (Tiles n)) f = tt
  answer-names r (Some (Accept e)) f = f

names : (r : Record) (k : Kept) (p : Pipe) (n : ℕ) → NamingIn p.request (answer r k p n)
unfolding answer decided
names r k p n = answer-names p.request r (decide_by p.request.direction k p p.request n) (decision-names p.request p.request.direction k p n refl)

-- ---- what holds all along

-- an address that is pending was named by the last accepted SETUP
abbrev Pends : Option Request → BusAddress → Type 0
Pends last a = eqb a.0 0 ≡ false → Named last a

-- .. which is the request that waits for its data
abbrev Owns : Stage → Option Request → Request → Type 0
Owns Idle last q = Unit {0}
Owns DataIn last q = Unit {0}
Owns DataInZlp last q = Unit {0}
Owns DataInLast last q = Unit {0}
Owns CompleteIn last q = Unit {0}
Owns StatusOut last q = Unit {0}
Owns CompleteOut last q = Unit {0}
Owns DataOut last q = last ≡ Some q
Owns StatusIn last q = Unit {0}
Owns Error last q = Unit {0}

abbrev IsThere : Option Request → Type 0
IsThere None = ⊥
IsThere (Some q) = Unit {0}

none≢some : {q : Request} → None ≡ Some q → ⊥
none≢some e = subst⁻¹ IsThere e tt

-- what is known at the stage of a status
abbrev AtStatus : Stage → Type 0 → Type 0
AtStatus Idle X = Unit {0}
AtStatus DataIn X = Unit {0}
AtStatus DataInZlp X = Unit {0}
AtStatus DataInLast X = Unit {0}
AtStatus CompleteIn X = Unit {0}
AtStatus StatusOut X = Unit {0}
AtStatus CompleteOut X = Unit {0}
AtStatus DataOut X = Unit {0}
AtStatus StatusIn X = X
AtStatus Error X = Unit {0}

-- what is claimed of an address that an event sets: with the quirk a request is decided, without it a status stage completes
-- of the last accepted SETUP before the event
abbrev Claim : Bool → Option Request → Option Request → Bool → Bool → Stage → Stage → BusAddress → Type 0
Claim true old last decided tick before now a = (decided ≡ true) × Named last a
Claim false old last decided tick before now a = ((before ≡ StatusIn) × ((tick ≡ true) × (now ≡ Idle))) × Named old a

record Kind (quirk : Bool) (old last : Option Request) (decided tick : Bool) (before : Stage) (p : Pipe) (act : Action) : Type 0 where
  pends : Pends last p.pending
  owns : Owns p.stage last p.request
  acts : Acts (Claim quirk old last decided tick before p.stage) act

module _ (quirk : Bool) (old last : Option Request) (tick : Bool) (before : Stage) where
  abbrev SecondKind : Bool → Second → Type 0
  SecondKind decided h = Kind quirk old last decided tick before h.live.pipe h.act

  -- ---- a complete request

  chunk-free : (size n : ℕ) (p : Pipe) (q : Request) → Owns (after_chunk size n p) last q
  unfolding after_chunk
  chunk-free size n p q =
      cond-elim (λ (t : Stage). Owns t last q) (leb p.reply.len (p.reply.sent + n)) _ _ (λ e. cond-elim (λ (t : Stage). Owns t last q) (eqb n size) _ _ (λ e. tt) (λ e. tt)) (λ e. tt)

  sent-kind : (size : ℕ) (taken : Bool) (book : List ℕ) (p : Pipe) (b : List ℕ) → p.stage ≡ DataIn → Pends last p.pending → Kind quirk old last true tick before (send_chunk size taken book p b).pipe NoAction
  unfolding send_chunk advanced
  sent-kind size true book p b e f = record { pends = f; owns = chunk-free size (chunk size p.reply) p p.request; acts = tt }
  sent-kind size false book p b e f = record { pends = f; owns = subst⁻¹ (λ (t : Stage). Owns t last p.request) e tt; acts = tt }

  module _ (l : Live) (b : List ℕ) (last-is : last ≡ Some l.pipe.request) (free : Owns l.pipe.stage None l.pipe.request) (f : Pends last l.pipe.pending) where
    named : (a : BusAddress) → Names l.pipe.request a → Named last a
    named a n = subst⁻¹ (λ (x : Option Request). Named x a) last-is n

    halting-kind : (e : EndpointAddress) (on : Bool) → Pends last (halting e on l).pipe.pending
    halting-kind e on = cond-elim (λ (x : Live). Pends last x.pipe.pending) (eqb (e.0 % 16) 0) _ _ (λ t. cond-elim (λ (x : Live). Pends last x.pipe.pending) (ltb e.0 128) _ _ (λ t. f) (λ t. f)) (λ t. f)

    effect-pends : (e : Effect) → Naming l.pipe.request e → Pends last (effected e quirk l).pipe.pending
    effect-pends NoEffect n = f
    effect-pends (Wakeup on) n = f
    effect-pends (HaltIt e) n = halting-kind e true
    effect-pends (UnhaltIt e) n = halting-kind e false
    effect-pends (TakeAddress a) n = cond-elim (λ (x : Live). Pends last x.pipe.pending) quirk _ _ (λ t. f) (λ t e. named a n)
    effect-pends (Turn s) n = f

    effect-acts : (now : Stage) (e : Effect) → Naming l.pipe.request e → Acts (Claim quirk old last true tick before now) (action_of e quirk)
    effect-acts now NoEffect n = tt
    effect-acts now (Wakeup on) n = tt
    effect-acts now (HaltIt e) n = tt
    effect-acts now (UnhaltIt e) n = tt
    effect-acts now (TakeAddress a) n = by quirk
      where
        by : (t : Bool) → Acts (Claim t old last true tick before now) (cond t (Address a) NoAction)
        by true = (refl, named a n)
        by false = tt
    effect-acts now (Turn s) n = tt

    -- a stage that owns nothing stays one
    accept-owns : (taken : Bool) (e : Effect) → Owns (cond taken (at StatusIn (effected e quirk l).pipe) (effected e quirk l).pipe).stage last (cond taken (at StatusIn (effected e quirk l).pipe) (effected e quirk l).pipe).request
    accept-owns true e = tt
    accept-owns false e = subst⁻¹ (λ (t : Stage). Owns t last (effected e quirk l).pipe.request) (effected-stage e quirk l) (owns_none l.pipe.stage (effected e quirk l).pipe.request free)
      where
        owns_none : (t : Stage) (q : Request) → Owns t None l.pipe.request → Owns t last q
        owns_none Idle q o = tt
        owns_none DataIn q o = tt
        owns_none DataInZlp q o = tt
        owns_none DataInLast q o = tt
        owns_none CompleteIn q o = tt
        owns_none StatusOut q o = tt
        owns_none CompleteOut q o = tt
        owns_none DataOut q o = absurd (none≢some o)
        owns_none StatusIn q o = tt
        owns_none Error q o = tt

    accept-pends : (taken : Bool) (e : Effect) → Naming l.pipe.request e → Pends last (cond taken (at StatusIn (effected e quirk l).pipe) (effected e quirk l).pipe).pending
    accept-pends true e n = effect-pends e n
    accept-pends false e n = effect-pends e n

    replied-kind : (a : Answer) (size : ℕ) (taken : Bool) (book : List ℕ) → NamingIn l.pipe.request a → SecondKind true (replied a size quirk taken book l b)
    unfolding set_out
    replied-kind stall size taken book n = record { pends = f; owns = tt; acts = tt }
    replied-kind (tell bytes) size taken book n = let z = sent-kind size taken book (answering Buffer 0 (length bytes) l.pipe) (placed b 0 bytes) refl f in record { pends = z.pends; owns = z.owns; acts = tt }
    replied-kind (tiles start) size taken book n = let z = sent-kind size taken book (answering Book start (l.book - start) l.pipe) b refl f in record { pends = z.pends; owns = z.owns; acts = tt }
    replied-kind (accept e) size taken book n = record { pends = accept-pends taken e n; owns = accept-owns taken e; acts = effect-acts _ e n }

  -- ---- an IN-complete, where no request came out

  -- what an IN-complete leaves of a pipe: the pending address and the request; complete only at the stage of a status
  record InKind (p : Pipe) (X : Type 0) (m : Move) : Type 0 where
    pending : m.pipe.pending ≡ p.pending
    owns : Owns m.pipe.stage last m.pipe.request
    ends : m.done ≡ true → (m.pipe.stage ≡ Idle) × X

  module _ (p : Pipe) (b : List ℕ) (X : Type 0) (o : Owns p.stage last p.request) (x : AtStatus p.stage X) where
    still-in : InKind p X (still p b)
    still-in = record { pending = refl; owns = o; ends = λ z. absurd (false≢true z) }

    chunk_in : (size : ℕ) (taken : Bool) (book : List ℕ) → InKind p X (send_chunk size taken book p b)
    unfolding send_chunk advanced
    chunk_in size true book = record { pending = refl; owns = chunk-free size (chunk size p.reply) p p.request; ends = λ z. absurd (false≢true z) }
    chunk_in size false book = record { pending = refl; owns = o; ends = λ z. absurd (false≢true z) }

    empty-in : (taken : Bool) → InKind p X (send_empty taken DataInLast p b)
    empty-in true = record { pending = refl; owns = tt; ends = λ z. absurd (false≢true z) }
    empty-in false = record { pending = refl; owns = o; ends = λ z. absurd (false≢true z) }

    in-kind : (size : ℕ) (taken : Bool) (book : List ℕ) → InKind p X (in_complete size taken book p b)
    in-kind size taken book =
        in-elim (InKind p X) p b still-in size taken book (λ e. chunk_in size taken book) (λ e. empty-in taken) (λ e. record { pending = refl; owns = tt; ends = λ z. absurd (false≢true z) })
        (λ e. record { pending = refl; owns = tt; ends = λ z. (refl, subst (λ (t : Stage). AtStatus t X) e x) })

  module _ (l : Live) (b : List ℕ) (f : Pends last l.pipe.pending) (o : Owns l.pipe.stage last l.pipe.request) where
    -- without the quirk, and only then, a pending address is taken
    ticked-kind : (size : ℕ) (taken : Bool) (book : List ℕ) → AtStatus l.pipe.stage ((before ≡ StatusIn) × ((tick ≡ true) × (last ≡ old))) → SecondKind false (ticked size quirk taken book l b)
    unfolding ticked
    ticked-kind size taken book x =
        let p = l.pipe in
        let m = in_complete size taken book p b in
        let k = in-kind p b ((before ≡ StatusIn) × ((tick ≡ true) × (last ≡ old))) o x size taken book in
        let g : Pends last m.pipe.pending = subst⁻¹ (Pends last) k.pending f in
        cond-elim (SecondKind false) (m.done && not quirk && not (eqb m.pipe.pending.0 0)) _ _
        (λ t. let u = and_left (m.done && not quirk) (not (eqb m.pipe.pending.0 0)) t in
        let n = g (is_false (eqb m.pipe.pending.0 0) (and_right (m.done && not quirk) (not (eqb m.pipe.pending.0 0)) t)) in
        let y = k.ends (and_left m.done (not quirk) u) in
        record { pends = λ z. absurd (false≢true (sym z)); owns = k.owns; acts = by quirk m.pipe.stage m.pipe.pending (and_right m.done (not quirk) u) n y.0 y.1 })
        (λ t. record { pends = g; owns = k.owns; acts = tt })
      where
        is_false : (t : Bool) → not t ≡ true → t ≡ false
        is_false true e = absurd (false≢true e)
        is_false false e = refl

        by : (t : Bool) (s : Stage) (a : BusAddress) → not t ≡ true → Named last a → s ≡ Idle → (before ≡ StatusIn) × ((tick ≡ true) × (last ≡ old)) → Claim t old last false tick before s a
        by true s a e n i y = absurd (false≢true e)
        by false s a e n i y = ((y.0, (y.1.0, i)), subst (λ (x : Option Request). Named x a) y.1.1 n)

-- ---- the second half of an event

module _ (r : Record) (old last : Option Request) (before : Stage) (book : List ℕ) (taken : Bool) (l : Live) (b : List ℕ) (f : Pends last l.pipe.pending) where
  abbrev quirk : Bool
  quirk = r.plan.basics.quirk

  follow-decides : (tick : Bool) → last ≡ Some l.pipe.request → Owns l.pipe.stage None l.pipe.request → SecondKind quirk old last tick before true (followed r true tick taken book l b)
  unfolding followed
  follow-decides tick e o = replied-kind quirk old last tick before l b e o f (answer r l.kept l.pipe l.book) r.plan.basics.packet taken book (names r l.kept l.pipe l.book)

  follow-waits : (tick : Bool) → Owns l.pipe.stage last l.pipe.request → AtStatus l.pipe.stage ((before ≡ StatusIn) × (last ≡ old)) → SecondKind quirk old last tick before false (followed r false tick taken book l b)
  unfolding followed
  follow-waits true o x = ticked-kind quirk old last true before l b f o r.plan.basics.packet taken book (with-tick l.pipe.stage x)
    where
      with-tick : (t : Stage) → AtStatus t ((before ≡ StatusIn) × (last ≡ old)) → AtStatus t ((before ≡ StatusIn) × ((true ≡ true) × (last ≡ old)))
      with-tick Idle x = tt
      with-tick DataIn x = tt
      with-tick DataInZlp x = tt
      with-tick DataInLast x = tt
      with-tick CompleteIn x = tt
      with-tick StatusOut x = tt
      with-tick CompleteOut x = tt
      with-tick DataOut x = tt
      with-tick StatusIn x = (x.0, (refl, x.1))
      with-tick Error x = tt
  follow-waits false o x = record { pends = f; owns = o; acts = tt }

-- ---- the first half

abbrev Was : Option Request → Stage → Stage → Type 0
Was last before t = AtStatus t ((before ≡ StatusIn) × (last ≡ last))

-- one that is no accepted SETUP leaves the pending address and the request
record FirstKind (p : Pipe) (last : Option Request) (m : Move) : Type 0 where
  pending : m.pipe.pending ≡ p.pending
  waits : m.done ≡ false → Owns m.pipe.stage last m.pipe.request × Was last p.stage m.pipe.stage
  decides : m.done ≡ true → (last ≡ Some m.pipe.request) × Owns m.pipe.stage None m.pipe.request

was : (last : Option Request) (t : Stage) → Was last t t
was last Idle = tt
was last DataIn = tt
was last DataInZlp = tt
was last DataInLast = tt
was last CompleteIn = tt
was last StatusOut = tt
was last CompleteOut = tt
was last DataOut = tt
was last StatusIn = (refl, refl)
was last Error = tt

module _ (p : Pipe) (last : Option Request) (b : List ℕ) where
  abbrev First : Move → Type 0
  First m = FirstKind p last m

  still-first : Owns p.stage last p.request → First (still p b)
  still-first o = record { pending = refl; waits = λ z. (o, was last p.stage); decides = λ z. absurd (false≢true z) }

  idle-first : First (still (at Idle p) b)
  idle-first = record { pending = refl; waits = λ z. (tt, tt); decides = λ z. absurd (false≢true z) }

  stalled-first : First (stalled p b)
  stalled-first = record { pending = refl; waits = λ z. (tt, tt); decides = λ z. absurd (false≢true z) }

  filled-first : (b' : List ℕ) (x : Pipe) → x.pending ≡ p.pending → last ≡ Some x.request → First (filled x b')
  filled-first b' x e o = by (leb x.coming.awaited x.coming.held) refl
    where
      by : (full : Bool) → leb x.coming.awaited x.coming.held ≡ full → First (filled x b')
      by true z = record { pending = e; waits = λ y. absurd (false≢true (sym y ∙ z)); decides = λ y. (o, rw z tt) }
      by false z = record { pending = e; waits = λ y. (rw z o, rw z tt); decides = λ y. absurd (false≢true (sym z ∙ y)) }

  arrived-first : Owns p.stage last p.request → (a : Arrival) (s : List ℕ) → accepts (Data a) s ≡ false → First (arrived a s p b)
  arrived-first o a s e =
      arrived-elim First p b (still-first o) s idle-first stalled-first
      (λ x l. filled-first (placed b p.coming.held s) (grown (length s) p) refl (subst (λ (t : Stage). Owns t last p.request) x o))
      a (λ t r k. absurd (false≢true (sym e ∙ accepts-setup a s t r k)))

-- ---- the whole event

module _ (r : Record) (s book : List ℕ) where
  abbrev DoneKind : Option Request → Option Request → Bool → Bool → Stage → Done → Type 0
  DoneKind old last decided tick before d = Kind r.plan.basics.quirk old last decided tick before d.live.pipe d.act

  module _ (l : Live) (b : List ℕ) (last : Option Request) (f : Pends last l.pipe.pending) (o : Owns l.pipe.stage last l.pipe.request) where
    -- one that is no accepted SETUP
    goes_on : (resumed : Bool) (a : Arrival) → accepts (Data a) s ≡ false → DoneKind last last (arrived a s l.pipe b).done (odd a.done) l.pipe.stage (data_come r resumed a s book l b)
    unfolding data_come
    goes_on resumed a x =
        let m = arrived a s l.pipe b in
        let g = arrived-first l.pipe last b o a s x in
        let z = by m g m.done refl in
        record { pends = z.pends; owns = z.owns; acts = z.acts }
      where
        by : (m : Move) → FirstKind l.pipe last m → (t : Bool) → m.done ≡ t
            → SecondKind r.plan.basics.quirk last last (odd a.done) l.pipe.stage t (followed r t (odd a.done) (taken_by a.write) book (with_pipe m.pipe l) m.buffer)
        by m g true e = let y = g.decides e in follow-decides r last last l.pipe.stage book (taken_by a.write) (with_pipe m.pipe l) m.buffer (subst⁻¹ (Pends last) g.pending f) (odd a.done) y.0 y.1
        by m g false e = let y = g.waits e in follow-waits r last last l.pipe.stage book (taken_by a.write) (with_pipe m.pipe l) m.buffer (subst⁻¹ (Pends last) g.pending f) (odd a.done) y.0 y.1

  module _ (l : Live) (b : List ℕ) (old : Option Request) (before : Stage) where
    -- an accepted SETUP
    begin-kind : (q : Request) (tick taken : Bool)
        → let m = begin_by q.direction q in SecondKind r.plan.basics.quirk old (Some q) tick before m.done (followed r m.done tick taken book (with_pipe m.pipe l) m.buffer)
    begin-kind q tick taken =
        let P : Move → Type 0 = λ m. SecondKind r.plan.basics.quirk old (Some q) tick before m.done (followed r m.done tick taken book (with_pipe m.pipe l) m.buffer) in
        let f : Pends (Some q) (record { 0 = 0 }) = λ z. absurd (false≢true (sym z)) in
        begin-elim P q (λ d. follow-decides r old (Some q) before book taken (with_pipe (fresh CompleteIn q 0) l) zeros f tick refl tt)
        (λ d. follow-decides r old (Some q) before book taken (with_pipe (fresh CompleteOut q 0) l) zeros f tick refl tt)
        (λ d k. follow-waits r old (Some q) before book taken (with_pipe (fresh DataOut q q.length) l) zeros f tick refl tt)
        (follow-waits r old (Some q) before book taken (with_pipe (stalled (fresh Error q 0) zeros).pipe l) zeros f tick tt tt)

    begins : (resumed : Bool) (a : Arrival) → odd a.setup ≡ true → a.read ≡ Packet → length s ≡ 8
        → DoneKind old (Some (request_of s)) (arrived a s l.pipe b).done (odd a.done) before (data_come r resumed a s book l b)
    unfolding data_come
    begins resumed a x y z =
        let q = request_of s in
        let P : Move → Type 0 = λ m. SecondKind r.plan.basics.quirk old (Some q) (odd a.done) before m.done (followed r m.done (odd a.done) (taken_by a.write) book (with_pipe m.pipe l) m.buffer) in
        let k : P (arrived a s l.pipe b) = subst⁻¹ P (accepted a s l.pipe b x y z) (begin-kind q (odd a.done) (taken_by a.write)) in
        record { pends = k.pends; owns = k.owns; acts = k.acts }

  -- whatever happens
  module _ (l : Live) (b : List ℕ) (last : Option Request) (f : Pends last l.pipe.pending) (o : Owns l.pipe.stage last l.pipe.request) where
    accepted-kind : (resumed : Bool) (a : Arrival) → DoneKind last (last_by (Data a) s last) (arrived a s l.pipe b).done (odd a.done) l.pipe.stage (data_come r resumed a s book l b)
    unfolding last_by
    accepted-kind resumed a =
        let P : Option Request → Type 0 = λ x. DoneKind last x (arrived a s l.pipe b).done (odd a.done) l.pipe.stage (data_come r resumed a s book l b) in
        cond-elim P (accepts (Data a) s) _ _
        (λ x. let y = and_right (odd a.setup) (is_packet a.read && eqb (length s) 8) x in
        begins l b last l.pipe.stage resumed a (and_left (odd a.setup) (is_packet a.read && eqb (length s) 8) x) (is-packet a.read (and_left (is_packet a.read) (eqb (length s) 8) y))
        (eqb-true (length s) 8 (and_right (is_packet a.read) (eqb (length s) 8) y)))
        (λ x. goes_on l b last f o resumed a x)

-- of a device
module _ (d : Device) (s book : List ℕ) (last : Option Request) (f : Pends last d.live.pipe.pending) (o : Owns d.live.pipe.stage last d.live.pipe.request) where
  happens-kind : (e : Event) → DoneKind d.profile s book last (last_by e s last) (decided_by e s d) (tick_of e) d.live.pipe.stage (handled e d.profile s book d.live d.buffer)
  unfolding handled happens_to last_by
  happens-kind Nothing =
      cond-elim (λ (x : Done). DoneKind d.profile s book last last false false d.live.pipe.stage x) (not (awake d.live.kept.state) && true) _ _ (λ t. record { pends = f; owns = o; acts = tt }) (λ t. record { pends = f; owns = o; acts = tt })
  happens-kind Reset =
      rw (and-false (not (awake d.live.kept.state))) (record { pends = λ z. absurd (false≢true (sym z)); owns = tt; acts = tt })
  happens-kind Suspend =
      cond-elim (λ (x : Done). DoneKind d.profile s book last last false false d.live.pipe.stage x) (not (awake d.live.kept.state) && true) _ _ (λ t. record { pends = f; owns = o; acts = tt }) (λ t. record { pends = f; owns = o; acts = tt })
  happens-kind Resume = rw (and-false (not (awake d.live.kept.state))) (record { pends = f; owns = o; acts = tt })
  happens-kind (Data a) =
      rw (and-false (not (awake d.live.kept.state))) (accepted-kind d.profile s book (woken d.live) d.buffer last f o (not (awake d.live.kept.state)) a)

-- ---- what the bus is told

module _ (P : BusAddress → Type 0) where
  acts-alone : (a : Action) → Acts P a → All (Acts P) (alone a)
  acts-alone NoAction x = tt
  acts-alone TellResume x = (tt, tt)
  acts-alone TellSuspend x = (tt, tt)
  acts-alone TellReset x = (tt, tt)
  acts-alone UnstallOut x = (tt, tt)
  acts-alone UnstallIn x = (tt, tt)
  acts-alone StallOut x = (tt, tt)
  acts-alone StallIn x = (tt, tt)
  acts-alone (Halt e) x = (tt, tt)
  acts-alone (Unhalt e) x = (tt, tt)
  acts-alone (Address a) x = (x, tt)
  acts-alone (Write n) x = (tt, tt)
  acts-alone (Refused n) x = (tt, tt)

  acts-listed : (t : Told) → All (Acts P) (listed t)
  acts-listed Silence = tt
  acts-listed Unstalls = (tt, (tt, tt))
  acts-listed UnstallsStalls = (tt, (tt, (tt, (tt, tt))))
  acts-listed Stalls = (tt, (tt, tt))
  acts-listed UnstalledOut = (tt, tt)
  acts-listed (Wrote n) = (tt, tt)
  acts-listed (Declined n) = (tt, tt)

  acts-resumed : (resumed : Bool) → All (Acts P) (cond resumed (TellResume ∷ []) [])
  acts-resumed true = (tt, tt)
  acts-resumed false = tt

  acts-told : (x : Done) → Acts P x.act → All (Acts P) (slots (packed (told_by x.resumed x.first x.act x.second)))
  acts-told x a =
      all_slots (Acts P) (told_by x.resumed x.first x.act x.second) tt
      (all_append (Acts P) (cond x.resumed (TellResume ∷ []) []) (listed x.first ++ (alone x.act ++ listed x.second)) (acts-resumed x.resumed)
      (all_append (Acts P) (listed x.first) (alone x.act ++ listed x.second) (acts-listed x.first) (all_append (Acts P) (alone x.act) (listed x.second) (acts-alone x.act a) (acts-listed x.second))))

-- ---- histories

record Along (t : Tale) : Type 0 where
  pends : Pends t.last t.device.live.pipe.pending
  owns : Owns t.device.live.pipe.stage t.last t.device.live.pipe.request

module _ (t : Tale) (c : Along t) where
  abbrev d : Device
  d = t.device

  abbrev quirky : Bool
  quirky = t.device.profile.plan.basics.quirk

  -- what a moment leaves, and what is claimed of its addresses
  record Moves (m : Moment) : Type 0 where
    along : Along (further t m)
    acts : Addresses (Claim quirky t.last (further t m).last (decides d m) (ticks m) d.live.pipe.stage (after d m).live.pipe.stage) (shown d m)

  powers-moves : (on : Bool) → Moves (powers on)
  unfolding after shown last_after powered_of
  powers-moves on =
      record { along = cond-elim (λ (x : Device). Along (record { device = x; last = t.last })) (eqb (unfit_device d) 0) _ _ (λ e. record { pends = c.pends; owns = c.owns }) (λ e. c); acts = tt }

  asks-moves : (room : List ℕ) → Moves (asks room)
  unfolding after shown last_after
  asks-moves room = record { along = c; acts = tt }

  module _ (e : Event) (book s room : List ℕ) where
    abbrev m : Moment
    m = happens e book s room

    -- a refused call is no event
    moves-refused : eqb (refused_by d book room) 0 ≡ false → Moves m
    unfolding after shown last_after
    moves-refused z =
        let r = step-refused d book e s room z in
        let l : last_after d t.last m ≡ t.last = rw z refl in
        record {
          along = subst⁻¹ (λ (y : Stepped). Along (record { device = y.device; last = last_after d t.last m })) r (subst⁻¹ (λ (y : Option Request). Along (record { device = d; last = y })) l c);
          acts = subst⁻¹ (λ (y : Stepped). All (Acts (Claim quirky t.last (last_after d t.last m) (decided_by e s d) (tick_of e) d.live.pipe.stage y.device.live.pipe.stage)) (told_in y.said)) r
              tt;
        }

    moves-taken : refused_by d book room ≡ 0 → Moves m
    unfolding after shown last_after
    moves-taken z =
        let x = done d book e s in
        let k = happens-kind d s book t.last c.pends c.owns e in
        let r = step-taken d book e s room z in
        let l : last_after d t.last m ≡ last_by e s t.last = rw z refl in
        record {
          along = subst⁻¹ (λ (y : Stepped). Along (record { device = y.device; last = last_after d t.last m })) r
              (subst⁻¹ (λ (y : Option Request). Along (record { device = (stepped_to d e x).device; last = y })) l (record { pends = k.pends; owns = k.owns }));
          acts = subst⁻¹ (λ (y : Stepped). All (Acts (Claim quirky t.last (last_after d t.last m) (decided_by e s d) (tick_of e) d.live.pipe.stage y.device.live.pipe.stage)) (told_in y.said)) r
              (subst⁻¹ (λ (y : Option Request). All (Acts (Claim quirky t.last y (decided_by e s d) (tick_of e) d.live.pipe.stage x.live.pipe.stage)) (told_in (stepped_to d e x).said)) l
              (acts-told (Claim quirky t.last (last_by e s t.last) (decided_by e s d) (tick_of e) d.live.pipe.stage x.live.pipe.stage) x k.acts));
        }

  moves : (m : Moment) → Moves m
  moves (powers on) = powers-moves on
  moves (asks room) = asks-moves room
  moves (happens e book s room) = by (eqb (refused_by d book room) 0) refl
    where
      by : (u : Bool) → eqb (refused_by d book room) 0 ≡ u → Moves (happens e book s room)
      by true z = moves-taken e book s room (eqb-true (refused_by d book room) 0 z)
      by false z = moves-refused e book s room z

along-all : (ms : List Moment) (t : Tale) → Along t → Along (tale t ms)
unfolding tale
along-all [] t c = c
along-all (m ∷ ms) t c = along-all ms (further t m) (moves t c m).along

built-along : (r : Record) (n : ℕ) → Along (opening r n)
unfolding made
built-along r n =
    cond-elim (λ (x : Device). Along (record { device = x; last = None })) (eqb (build_refusal r n) 0) _ _ (λ e. record { pends = λ z. absurd (false≢true (sym z)); owns = tt })
    (λ e. record { pends = λ z. absurd (false≢true (sym z)); owns = tt })

tale-profile : (ms : List Moment) (t : Tale) → (tale t ms).device.profile ≡ t.device.profile
unfolding tale
tale-profile [] t = refl
tale-profile (m ∷ ms) t = tale-profile ms (further t m) ∙ kept-profile t.device m

built-profile : (r : Record) (n : ℕ) → (made r n).profile ≡ r
unfolding made
built-profile r n = cond-elim (λ (x : Device). x.profile ≡ r) (eqb (build_refusal r n) 0) _ _ (λ e. refl) (λ e. refl)

module _ (r : Record) (n : ℕ) (ms : List Moment) (m : Moment) where
  abbrev told-so : Tale
  told-so = tale (opening r n) ms

  claims : (quirk : Bool) → r.plan.basics.quirk ≡ quirk
      → Addresses (Claim quirk told-so.last (further told-so m).last (decides told-so.device m) (ticks m) told-so.device.live.pipe.stage (after told-so.device m).live.pipe.stage) (shown told-so.device m)
  claims q e =
      subst (λ (x : Bool). Addresses (Claim x told-so.last (further told-so m).last (decides told-so.device m) (ticks m) told-so.device.live.pipe.stage (after told-so.device m).live.pipe.stage) (shown told-so.device m))
      (ap (λ (x : Record). x.plan.basics.quirk) (tale-profile ms (opening r n) ∙ built-profile r n) ∙ e) (moves told-so (along-all ms (opening r n) (built-along r n)) m).acts

-- Without the quirk a mast takes an address only where the status stage of the SET_ADDRESS that named it completes. That request is
-- the last SETUP that the mast accepted, and no bus reset came after it.
pub address : (r : Record) (n : ℕ) (ms : List Moment) (m : Moment) → r.plan.basics.quirk ≡ false
    → (let t = tale (opening r n) ms in Addresses (λ a. Completed t.device m × Named t.last a) (shown t.device m))
address r n ms m e = claims r n ms m false e

-- With the quirk it takes one only where such a request is decided.
pub address-quirk : (r : Record) (n : ℕ) (ms : List Moment) (m : Moment) → r.plan.basics.quirk ≡ true
    → (let t = tale (opening r n) ms in Addresses (λ a. (decides t.device m ≡ true) × Named (further t m).last a) (shown t.device m))
address-quirk r n ms m e = claims r n ms m true e
