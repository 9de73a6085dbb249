-- How many packets an answer takes, and how many IN-completes. Assumes nothing.
use Prim.Native.Nat.{ℕ, zero, suc, ◌+◌, ◌-◌, ◌/◌, ◌≤◌, ◌<◌, min}
use mathlib.Core.Bool.{Bool, true, false, cond, not, ◌&&◌, false≢true}
use mathlib.Core.Path.{◌≡◌, refl, sym, ap, ap₂, subst, subst⁻¹, ◌∙◌}
use mathlib.Core.List.{List, [], ◌∷◌, ◌++◌}
use native.Mathlib.Omega.{arith}
use native.Mathlib.Nat.{div-eq_of_lt, div-eq-sub-div, div_self, sub-zero, add-zero}
use borrow.Author.Tests.{leb-true, leb-false, eqb-true, eqb-false}
use lib.Dec.{eqb, leb}
use lib.ListN.{length, take, drop, length-append, length-take, length-drop}
use Rattle.std.specs.Prelude.{Option, Some, None}
use Rattle.common.specs.Bytes.{front}
use Rattle.common.proofs.Laws.{cond-elim, and-false}
use Rattle.common.specs.Lists.{member}
use Rattle.limits.specs.Limits.{packet_fine, lowest}
use Rattle.limits.proofs.Good.{good}
use Rattle.control.specs.declared.Direction.{Direction}
use Rattle.control.specs.declared.Direction.TheVariants.{In, Out}
use Rattle.control.specs.declared.Request.{Request}
use Rattle.control.specs.Setup.{request_of}
use Rattle.record.specs.declared.Record.{Record}
use Rattle.control_pipe.specs.declared.Stage.{Stage}
use Rattle.control_pipe.specs.declared.Stage.TheVariants.{Idle, DataIn, DataInZlp, DataInLast, CompleteIn, StatusOut, CompleteOut, DataOut, StatusIn, Error}
use Rattle.control_pipe.specs.declared.Reply.{Reply}
use Rattle.control_pipe.specs.declared.Pipe.{Pipe}
use Rattle.control_pipe.specs.declared.Told.{Told}
use Rattle.control_pipe.specs.declared.Told.TheVariants.{Nothing as Silence, Unstalls, Write as Wrote}
use Rattle.control_pipe.specs.declared.Source.TheVariants.{Buffer, Book}
use Rattle.control_pipe.specs.declared.Read.TheVariants.{Packet}
use Rattle.control_pipe.specs.Stages.{Move, fresh, zeros, answering, begin_by, chunk, after_chunk, advanced, send_chunk, in_at, in_complete}
use Rattle.requests.specs.declared.Kept.{Kept}
use Rattle.requests.specs.declared.Decision.{Decision}
use Rattle.requests.specs.declared.Decision.TheVariants.{Status, Byte, Describe, Tiles, Accept}
use Rattle.requests.specs.Requests.{decide_out, decide_by, decided}
use Rattle.answers.specs.Answers.{Answer, stall, tell, tiles, accept, answer_of, answered as answered_by, answer, bytes_of}
use Rattle.live.specs.declared.Live.{Live}
use Rattle.live.specs.Live.{awake, live_fine, unfit}
use Rattle.effects.specs.declared.Action.TheVariants.{Nothing as NoAction}
use Rattle.effects.specs.Effects.{Second, with_pipe, set_out, turned, addressed, ticked}
use Rattle.events.specs.declared.Write.{Write}
use Rattle.events.specs.declared.Write.TheVariants.{Taken}
use Rattle.events.specs.declared.Arrival.{Arrival}
use Rattle.events.specs.declared.Event.{Event}
use Rattle.events.specs.declared.Event.TheVariants.{Nothing, Reset, Suspend, Resume, Data}
use Rattle.events.specs.Events.{Done, odd, arrived, replied, taken_by, followed, data_come, woken, listed}
use Rattle.device.specs.declared.Device.{Device}
use Rattle.device.specs.declared.Stepped.{Stepped}
use Rattle.device.specs.Device.{refused_by, unfit_device, done}
use Rattle.steady.proofs.Fit.{both}
use Rattle.promises.specs.History.{Moment, happens, powers, asks, after, shown}
use Rattle.promises.specs.Transfers.{packets, gone, Log, next, opens, follow, owed_by, answer_to}
use Rattle.promises.specs.Counts.{speaks, Completion, Complete}
use Rattle.steady.proofs.Usable.{Ready, ready-taken, ready-after, Usable, usable, step-taken}
use Rattle.promises.proofs.Cut.{accepted, data-done}
use Rattle.promises.proofs.Sent.{gone-taken, kept-profile}
use Rattle.promises.proofs.Transfer.{Bare, bare}

-- ---- the packets that are still to come, at each stage, of any packet size

abbrev GoingAt : ℕ → ℕ → Stage → Reply → Type 0
GoingAt size k Idle a = ⊥
GoingAt size k DataIn a = k ≡ (a.len - a.sent) / size + 1
GoingAt size k DataInZlp a = k ≡ 1
GoingAt size k DataInLast a = k ≡ 0
GoingAt size k CompleteIn a = ⊥
GoingAt size k StatusOut a = ⊥
GoingAt size k CompleteOut a = ⊥
GoingAt size k DataOut a = ⊥
GoingAt size k StatusIn a = ⊥
GoingAt size k Error a = ⊥

abbrev Going : ℕ → ℕ → Pipe → Type 0
Going size k p = GoingAt size k p.stage p.reply

-- a chunk is one of them
chunk-counts : (size k : ℕ) (p : Pipe) → 0 < size → suc k ≡ (p.reply.len - p.reply.sent) / size + 1 → Going size k (advanced size (chunk size p.reply) p)
unfolding advanced after_chunk
chunk-counts size k p z e =
    let a = p.reply in
    let n = chunk size a in
    let x = a.len - a.sent in
    let next : Reply = record { source = a.source; start = a.start; len = a.len; sent = a.sent + n } in
    let P : Stage → Type 0 = λ t. GoingAt size k t next in
    cond-elim P (leb a.len (a.sent + n)) _ _
    (λ t. let l : a.len ≤ a.sent + n = leb-true _ _ t in
    cond-elim P (eqb n size) _ _
    (λ t. let f : n ≡ size = eqb-true _ _ t in
    let g : x ≡ size = omega (arith, l, f) in
    let h : x / size ≡ 1 = ap (λ (y : ℕ). y / size) g ∙ div_self z in
    omega (arith, e, h))
    (λ t. let f : n ≡ size → ⊥ = eqb-false _ _ t in
    let g : x < size = omega (arith, l, f) in
    let h : x / size ≡ 0 = div-eq_of_lt g in
    omega (arith, e, h)))
    (λ t. let l : a.sent + n < a.len = leb-false _ _ t in
    let g : size ≤ x = omega (arith, l) in
    let f : x - size ≡ a.len - (a.sent + n) = omega (arith, l) in
    let h : x / size ≡ (x - size) / size + 1 = div-eq-sub-div z g in
    let i : (x - size) / size ≡ (a.len - (a.sent + n)) / size = ap (λ (y : ℕ). y / size) f in
    omega (arith, e, h, i))

-- ---- an IN-complete of a device

-- a moment leaves a pipe, and sends so many packets
record Leaves (d : Device) (m : Moment) (p : Pipe) (n : ℕ) : Type 0 where
  pipe : (after d m).live.pipe ≡ p
  count : length (gone (shown d m)) ≡ n

told-one : (room packet : List ℕ) (n : ℕ) → length (packets (front packet room) (listed (Wrote n))) ≡ 1
unfolding packets
told-one room packet n = refl

module _ (d : Device) (book : List ℕ) (e : Event) (s room : List ℕ) (z : refused_by d book room ≡ 0) where
  -- .. as the event does
  leaves : (p : Pipe) (t : Told) (n : ℕ) → (done d book e s).live.pipe ≡ p → (done d book e s).second ≡ t → ((packet : List ℕ) → length (packets (front packet room) (listed t)) ≡ n)
      → Leaves d (happens e book s room) p n
  unfolding after
  leaves p t n f g h =
      let x = done d book e s in
      record {
        pipe = ap (λ (y : Stepped). y.device.live.pipe) (step-taken d book e s room z) ∙ f;
        count = ap (λ (y : List (List ℕ)). length y) (gone-taken d book e s room z ∙ ap (λ (y : Told). packets (front x.packet room) (listed y)) g) ∙ h x.packet;
      }

module _ (d : Device) (a : Arrival) (book s room : List ℕ) (z : refused_by d book room ≡ 0) (c : Completion d.profile.plan.basics.packet book a book room) where
  abbrev size : ℕ
  size = d.profile.plan.basics.packet

  abbrev quirk : Bool
  quirk = d.profile.plan.basics.quirk

  abbrev p : Pipe
  p = d.live.pipe

  abbrev l : Live
  l = with_pipe p (woken d.live)

  tick-done : done d book (Data a) s
      ≡ (let h = ticked size quirk true book l d.buffer in
      record { live = h.live; buffer = h.buffer; resumed = not (awake d.live.kept.state); first = Silence; act = h.act; second = h.told; packet = h.packet; answer = true })
  unfolding data_come arrived followed
  tick-done = data-done a d.profile s book d.live d.buffer ∙ rw (c.setup, c.out, c.done, c.write) refl

  -- where no status stage completes
  tick-moves : (t : Stage) → p.stage ≡ t → (in_at t size true book p d.buffer).done ≡ false → ticked size quirk true book l d.buffer ≡ turned (in_at t size true book p d.buffer) NoAction l
  unfolding ticked in_complete
  tick-moves t e f =
      ap (λ (x : Stage). let m = in_at x size true book p d.buffer in cond (m.done && not quirk && not (eqb m.pipe.pending.0 0)) (addressed m.pipe m.told m.packet m.buffer l) (turned m NoAction l)) e ∙ rw f refl

  tick-leaves : (t : Stage) (n : ℕ) → p.stage ≡ t → (in_at t size true book p d.buffer).done ≡ false
      → ((packet : List ℕ) → length (packets (front packet room) (listed (in_at t size true book p d.buffer).told)) ≡ n)
      → Leaves d (happens (Data a) book s room) (in_at t size true book p d.buffer).pipe n
  tick-leaves t n e f h =
      let m = tick-moves t e f in
      leaves d book (Data a) s room z (in_at t size true book p d.buffer).pipe (in_at t size true book p d.buffer).told n
      (ap (λ (x : Done). x.live.pipe) tick-done ∙ ap (λ (x : Second). x.live.pipe) m) (ap (λ (x : Done). x.second) tick-done ∙ ap (λ (x : Second). x.told) m) h

  -- one of the packets goes out
  tick-counts : (k : ℕ) → 0 < size → Going size (suc k) p → Going size k (after d (happens (Data a) book s room)).live.pipe × (length (gone (shown d (happens (Data a) book s room))) ≡ 1)
  unfolding in_at send_chunk packets
  tick-counts k y g = by p.stage refl g
    where
      by : (t : Stage) → p.stage ≡ t → GoingAt size (suc k) t p.reply → Going size k (after d (happens (Data a) book s room)).live.pipe × (length (gone (shown d (happens (Data a) book s room))) ≡ 1)
      by Idle e g = absurd g
      by DataIn e g =
          let x = tick-leaves DataIn 1 e refl (λ packet. refl) in
          (subst⁻¹ (Going size k) x.pipe (chunk-counts size k p y g), x.count)
      by DataInZlp e g =
          let x = tick-leaves DataInZlp 1 e refl (λ packet. refl) in
          let f : k ≡ 0 = omega (arith, g) in
          (subst⁻¹ (Going size k) x.pipe f, x.count)
      by DataInLast e g = absurd (omega (arith, g))
      by CompleteIn e g = absurd g
      by StatusOut e g = absurd g
      by CompleteOut e g = absurd g
      by DataOut e g = absurd g
      by StatusIn e g = absurd g
      by Error e g = absurd g

  -- none is to come: the status stage
  tick-ends : Going size 0 p → ((after d (happens (Data a) book s room)).live.pipe.stage ≡ StatusOut) × (length (gone (shown d (happens (Data a) book s room))) ≡ 0)
  unfolding in_at send_chunk packets
  tick-ends g = by p.stage refl g
    where
      by : (t : Stage) → p.stage ≡ t → GoingAt size 0 t p.reply → ((after d (happens (Data a) book s room)).live.pipe.stage ≡ StatusOut) × (length (gone (shown d (happens (Data a) book s room))) ≡ 0)
      by Idle e g = absurd g
      by DataIn e g = absurd (omega (arith, g))
      by DataInZlp e g = absurd (omega (arith, g))
      by DataInLast e g = let x = tick-leaves DataInLast 0 e refl (λ packet. refl) in (ap (λ (x : Pipe). x.stage) x.pipe, x.count)
      by CompleteIn e g = absurd g
      by StatusOut e g = absurd g
      by CompleteOut e g = absurd g
      by DataOut e g = absurd g
      by StatusIn e g = absurd g
      by Error e g = absurd g

-- ---- the packet size

member-positive : (n : ℕ) → packet_fine n ≡ true → 0 < n
unfolding member
member-positive zero e = absurd (false≢true e)
member-positive (suc n) e = omega arith

pub fit-positive : (d : Device) → unfit_device d ≡ 0 → 0 < d.profile.plan.basics.packet
unfolding unfit
fit-positive d z =
    let r = d.profile in
    let f = both (live_fine d.live) (eqb (lowest r) 0) z in
    member-positive r.plan.basics.packet (good r (eqb-true (lowest r) 0 f.1)).packet

-- ---- one IN-complete after the other

module _ (book : List ℕ) (g : Log) (f : Ready book g.device) where
  abbrev d₀ : Device
  d₀ = g.device

  abbrev size₀ : ℕ
  size₀ = g.device.profile.plan.basics.packet

  module _ (a : Arrival) (s room : List ℕ) (c : Completion g.device.profile.plan.basics.packet book a book room) where
    abbrev m₀ : Moment
    m₀ = happens (Data a) book s room

    abbrev z₀ : refused_by g.device book room ≡ 0
    z₀ = ready-taken g.device book room f c.enough

    next-tick : next g m₀ ≡ record { device = after g.device m₀; owed = g.owed; sent = g.sent ++ gone (shown g.device m₀) }
    unfolding next opens
    next-tick = rw (c.setup, and-false (eqb (refused_by g.device book room) 0)) refl

    next-ready : Ready book (next g m₀).device
    unfolding after
    next-ready = subst⁻¹ (λ (x : Log). Ready book x.device) next-tick (ready-after g.device book (Data a) s room f z₀)

    next-size : (next g m₀).device.profile.plan.basics.packet ≡ size₀
    next-size = ap (λ (x : Log). x.device.profile.plan.basics.packet) next-tick ∙ ap (λ (x : Record). x.plan.basics.packet) (kept-profile g.device m₀)

    next-sent : (n : ℕ) → length (gone (shown g.device m₀)) ≡ n → length (next g m₀).sent ≡ length g.sent + n
    next-sent n e = ap (λ (x : Log). length x.sent) next-tick ∙ (length-append g.sent (gone (shown g.device m₀)) ∙ ap (λ (x : ℕ). length g.sent + x) e)

    next-counts : (k : ℕ) → Going size₀ (suc k) g.device.live.pipe → Going size₀ k (next g m₀).device.live.pipe × (length (next g m₀).sent ≡ length g.sent + 1)
    next-counts k y =
        let x = tick-counts g.device a book s room z₀ c k (fit-positive g.device f.fit) y in
        (subst⁻¹ (λ (x : Log). Going size₀ k x.device.live.pipe) next-tick x.0, next-sent 1 x.1)

    next-ends : Going size₀ 0 g.device.live.pipe → ((next g m₀).device.live.pipe.stage ≡ StatusOut) × (length (next g m₀).sent ≡ length g.sent + 0)
    next-ends y =
        let x = tick-ends g.device a book s room z₀ c y in
        (ap (λ (x : Log). x.device.live.pipe.stage) next-tick ∙ x.0, next-sent 0 x.1)

-- a completion with its book
tick : (book : List ℕ) (size : ℕ) (g : Log) (a : Arrival) (b s room : List ℕ) → g.device.profile.plan.basics.packet ≡ size → Completion size book a b room → Completion g.device.profile.plan.basics.packet book a book room
tick book size g a b s room e c = record { done = c.done; setup = c.setup; out = c.out; write = c.write; same = refl; enough = omega (arith, e, c.enough) }

-- n of them where k packets are still to come
record Ticked (size k n : ℕ) (g h : Log) : Type 0 where
  going : n ≤ k → Going size (k - n) h.device.live.pipe
  sent : n ≤ k → length h.sent ≡ length g.sent + n
  status : n ≡ k + 1 → h.device.live.pipe.stage ≡ StatusOut
  all : n ≡ k + 1 → length h.sent ≡ length g.sent + k

module _ (book : List ℕ) (size : ℕ) where
  ticks : (ms : List Moment) (g : Log) (k : ℕ) → g.device.profile.plan.basics.packet ≡ size → Ready book g.device → Complete size book ms → Going size k g.device.live.pipe
      → Ticked size k (length ms) g (follow g ms)
  unfolding follow
  ticks [] g k e f c y =
      record {
        going = λ l. subst⁻¹ (λ (x : ℕ). Going size x g.device.live.pipe) (sub-zero k) y;
        sent = λ l. sym (add-zero (length g.sent));
        status = λ l. absurd (omega (arith, l));
        all = λ l. absurd (omega (arith, l));
      }
  ticks (happens Nothing b s room ∷ ms) g k e f c y = absurd c.0
  ticks (happens Reset b s room ∷ ms) g k e f c y = absurd c.0
  ticks (happens Suspend b s room ∷ ms) g k e f c y = absurd c.0
  ticks (happens Resume b s room ∷ ms) g k e f c y = absurd c.0
  ticks (powers on ∷ ms) g k e f c y = absurd c.0
  ticks (asks room ∷ ms) g k e f c y = absurd c.0
  ticks (happens (Data a) b s room ∷ []) g zero e f c y =
      let t = tick book size g a b s room e c.0 in
      let x = next-ends book g f a s room t (subst⁻¹ (λ (n : ℕ). Going n 0 g.device.live.pipe) e y) in
      subst⁻¹ (λ (x : List ℕ). Ticked size 0 1 g (next g (happens (Data a) x s room))) c.0.same
      (record { going = λ l. absurd (omega (arith, l)); sent = λ l. absurd (omega (arith, l)); status = λ l. x.0; all = λ l. x.1 })
  ticks (happens (Data a) b s room ∷ (m ∷ ms)) g zero e f c y =
      record { going = λ l. absurd (omega (arith, l)); sent = λ l. absurd (omega (arith, l)); status = λ l. absurd (omega (arith, l)); all = λ l. absurd (omega (arith, l)) }
  ticks (happens (Data a) b s room ∷ ms) g (suc k) e f c y =
      subst⁻¹ (λ (x : List ℕ). Ticked size (suc k) (suc (length ms)) g (follow (next g (happens (Data a) x s room)) ms)) c.0.same
      (let t = tick book size g a b s room e c.0 in
      let h = next g (happens (Data a) book s room) in
      let x = next-counts book g f a s room t k (subst⁻¹ (λ (n : ℕ). Going n (suc k) g.device.live.pipe) e y) in
      let z = ticks ms h k (next-size book g f a s room t ∙ e) (next-ready book g f a s room t) c.1 (subst (λ (n : ℕ). Going n k h.device.live.pipe) e x.0) in
      record {
        going = λ l. let i : suc k - suc (length ms) ≡ k - length ms = omega arith in subst⁻¹ (λ (n : ℕ). Going size n (follow h ms).device.live.pipe) i (z.going (omega (arith, l)));
        sent = λ l. let i = z.sent (omega (arith, l)) in omega (arith, i, x.1);
        status = λ l. z.status (omega (arith, l));
        all = λ l. let i = z.all (omega (arith, l)) in omega (arith, i, x.1);
      })

-- ---- the SETUP

abbrev owed : Request → List ℕ → Answer → ℕ
owed q book a = length (take (min (length (bytes_of a book)) q.length) (bytes_of a book))

-- an answer of so many bytes has these packets to come when its first was taken
module _ (r : Record) (q : Request) (book : List ℕ) (l : Live) (n : l.book ≡ length book) (z : 0 < r.plan.basics.packet) where
  abbrev width : ℕ
  width = r.plan.basics.packet

  abbrev pub sets : Answer → Second
  sets a = replied a width r.plan.basics.quirk true book (with_pipe (fresh CompleteIn q 0) l) zeros

  answer-counts : (a : Answer) → speaks a ≡ true → Going width (owed q book a / width) (sets a).live.pipe × ((packet room : List ℕ) → length (packets (front packet room) (listed (sets a).told)) ≡ 1)
  unfolding set_out send_chunk packets bytes_of
  answer-counts stall e = absurd (false≢true e)
  answer-counts (tell bytes) e =
      let p = answering Buffer 0 (length bytes) (fresh CompleteIn q 0) in
      let k = owed q book (tell bytes) in
      let i : k ≡ min (length bytes) q.length - 0 = length-take (min (length bytes) q.length) bytes ∙ omega arith in
      let h : k / width ≡ (min (length bytes) q.length - 0) / width = ap (λ (x : ℕ). x / width) i in
      let j : suc (k / width) ≡ (min (length bytes) q.length - 0) / width + 1 = omega (arith, h) in
      (chunk-counts width (k / width) p z j, λ packet room. refl)
  answer-counts (tiles start) e =
      let p = answering Book start (l.book - start) (fresh CompleteIn q 0) in
      let k = owed q book (tiles start) in
      let h : length (drop start book) ≡ l.book - start = length-drop start book ∙ ap (λ (x : ℕ). x - start) (sym n) in
      let i : k ≡ min (l.book - start) q.length - 0 = length-take (min (length (drop start book)) q.length) (drop start book) ∙ omega (arith, h) in
      let g : k / width ≡ (min (l.book - start) q.length - 0) / width = ap (λ (x : ℕ). x / width) i in
      let j : suc (k / width) ≡ (min (l.book - start) q.length - 0) / width + 1 = omega (arith, g) in
      (chunk-counts width (k / width) p z j, λ packet room. refl)
  answer-counts (accept x) e = absurd (false≢true e)

-- an OUT request has none
silent-decision : (r : Record) (q : Request) (d : Option Decision) → Bare d → speaks (answered_by r q d) ≡ true → ⊥
unfolding answer_of
silent-decision r q None f e = false≢true e
silent-decision r q (Some (Status n)) f e = f
silent-decision r q (Some (Byte n)) f e = f
silent-decision r q (Some Describe) f e = f
silent-decision r q (Some (Tiles n)) f e = f
silent-decision r q (Some (Accept x)) f e = false≢true e

pub out-silent : (r : Record) (k : Kept) (q : Request) (n : ℕ) → q.direction ≡ Out → speaks (answer r k (fresh CompleteIn q 0) n) ≡ true → ⊥
unfolding answer decided
out-silent r k q n o e =
    silent-decision r q (decide_out q.kind k q) (bare k q) (sym (ap (λ (x : Direction). speaks (answered_by r q (decide_by x k (fresh CompleteIn q 0) q n))) o) ∙ e)

module _ (d : Device) (a : Arrival) (book s room : List ℕ) (z : refused_by d book room ≡ 0) (o : odd a.setup ≡ true) (x : a.read ≡ Packet) (e : length s ≡ 8) (w : a.write ≡ Taken) where
  abbrev q : Request
  q = request_of s

  abbrev m₁ : Moment
  m₁ = happens (Data a) book s room

  abbrev u : Usable d book room
  u = usable d book room z

  -- the second half of its event
  abbrev pub half : Second
  half = sets d.profile q book (woken d.live) (sym u.same) (fit-positive d u.fit) (answer_to d book s)

  pub setup-done : q.direction ≡ In
      → done d book (Data a) s
      ≡ record { live = half.live; buffer = half.buffer; resumed = not (awake d.live.kept.state); first = Unstalls; act = half.act; second = half.told; packet = half.packet; answer = true }
  unfolding data_come begin_by followed
  setup-done i =
      let b = d.buffer in
      let l = woken d.live in
      let r = d.profile in
      let p = fresh CompleteIn q 0 in
      let ends : Told → Second → Done = λ t h. record { live = h.live; buffer = h.buffer; resumed = not (awake d.live.kept.state); first = t; act = h.act; second = h.told; packet = h.packet; answer = true } in
      let f = accepted a s l.pipe b o x e ∙ ap (λ (y : Direction). begin_by y q) i in
      data-done a r s book d.live b
      ∙ (ap (λ (m : Move). ends m.told (followed r m.done (odd a.done) (taken_by a.write) book (with_pipe m.pipe l) m.buffer)) f
      ∙ ap₂ (λ (y : Write) (n : ℕ). ends Unstalls (replied (answer r l.kept p n) r.plan.basics.packet r.plan.basics.quirk (taken_by y) book (with_pipe p l) zeros)) w (sym u.same))

  -- one packet goes out, and the others are to come
  setup-counts : speaks (answer_to d book s) ≡ true → Going d.profile.plan.basics.packet (length (owed_by d m₁) / d.profile.plan.basics.packet) (after d m₁).live.pipe × (length (gone (shown d m₁)) ≡ 1)
  unfolding owed_by
  setup-counts y = by q.direction refl
    where
      by : (t : Direction) → q.direction ≡ t → Going d.profile.plan.basics.packet (length (owed_by d m₁) / d.profile.plan.basics.packet) (after d m₁).live.pipe × (length (gone (shown d m₁)) ≡ 1)
      by Out i = absurd (out-silent d.profile (woken d.live).kept q (length book) i y)
      by In i =
          let h = half in
          let c = answer-counts d.profile q book (woken d.live) (sym u.same) (fit-positive d u.fit) (answer_to d book s) y in
          let f = setup-done i in
          let v = leaves d book (Data a) s room z h.live.pipe h.told 1 (ap (λ (y : Done). y.live.pipe) f) (ap (λ (y : Done). y.second) f) (λ packet. c.1 packet room) in
          (subst⁻¹ (Going d.profile.plan.basics.packet (length (owed_by d m₁) / d.profile.plan.basics.packet)) v.pipe c.0, v.count)

-- ---- the transfer

module _ (g : Log) (a : Arrival) (book s room : List ℕ) (ms : List Moment) (z : refused_by g.device book room ≡ 0) (o : odd a.setup ≡ true) (x : a.read ≡ Packet) (e : length s ≡ 8) (w : a.write ≡ Taken)
    (y : speaks (answer_to g.device book s) ≡ true) (c : Complete g.device.profile.plan.basics.packet book ms) where
  abbrev packet : ℕ
  packet = g.device.profile.plan.basics.packet

  abbrev asked : Moment
  asked = happens (Data a) book s room

  abbrev answered : ℕ
  answered = length (owed_by g.device asked)

  begun-log : next g asked ≡ record { device = after g.device asked; owed = owed_by g.device asked; sent = gone (shown g.device asked) }
  unfolding next opens
  begun-log = rw (z, o, x, e) refl

  all-ticks : Ticked packet (answered / packet) (length ms) (next g asked) (follow (next g asked) ms)
  unfolding after
  all-ticks =
      let v = setup-counts g.device a book s room z o x e w y in
      let u = usable g.device book room z in
      let f = ready-after g.device book (Data a) s room (record { fit = u.fit; same = u.same }) z in
      ticks book packet ms (next g asked) (answered / packet)
      (ap (λ (i : Log). i.device.profile.plan.basics.packet) begun-log ∙ ap (λ (i : Record). i.plan.basics.packet) (kept-profile g.device asked))
      (subst⁻¹ (λ (i : Log). Ready book i.device) begun-log f) c (subst⁻¹ (λ (i : Log). Going packet (answered / packet) i.device.live.pipe) begun-log v.0)

  -- A laptop asks, takes every packet and sends nothing else. Then an answer of so many bytes takes floor(length / packet size) + 1
  -- packets, and as many IN-completes to the status stage, whatever the mast did before.
  pub count : length ms ≡ answered / packet + 1 → (let h = follow g (asked ∷ ms) in (h.device.live.pipe.stage ≡ StatusOut) × (length h.sent ≡ answered / packet + 1))
  unfolding follow
  count l =
      let v = setup-counts g.device a book s room z o x e w y in
      let one : length (next g asked).sent ≡ 1 = ap (λ (i : Log). length i.sent) begun-log ∙ v.1 in
      let all = all-ticks.all l in
      (all-ticks.status l, omega (arith, all, one))

  -- With fewer it has not come there.
  pub not-before : length ms ≤ answered / packet → (follow g (asked ∷ ms)).device.live.pipe.stage ≡ StatusOut → ⊥
  unfolding follow
  not-before l t = let p = (follow (next g asked) ms).device.live.pipe in subst (λ (i : Stage). GoingAt packet (answered / packet - length ms) i p.reply) t (all-ticks.going l)
