-- After an accepted SETUP only what may outlive it counts of the past (`Agree`). Assumes nothing.
use Prim.Native.Nat.{ℕ, ◌/◌, ◌%◌, ◌^◌}
use mathlib.Core.Bool.{Bool, true, false, cond, not, ◌&&◌}
use mathlib.Core.Path.{◌≡◌, refl, sym, ap, ap₂, subst, subst⁻¹, ◌∙◌}
use mathlib.Core.List.{List}
use Rattle.std.specs.Prelude.{Option, Some, None, Result, Ok}
use borrow.Author.Tests.{ne_eqb}
use lib.Dec.{eqb, leb, ltb}
use lib.ListN.{length}
use Rattle.common.specs.Lists.{between}
use Rattle.common.proofs.Laws.{cond-elim, and-false}
use Rattle.control.specs.declared.Direction.{Direction}
use Rattle.control.specs.declared.Direction.TheVariants.{In, Out}
use Rattle.control.specs.declared.RequestType.{RequestType}
use Rattle.control.specs.declared.RequestType.TheVariants.{Standard, Class, Vendor, Reserved as ReservedType}
use Rattle.control.specs.declared.Recipient.{Recipient}
use Rattle.control.specs.declared.Recipient.TheVariants.{Device as OfDevice, Interface, Endpoint, Other, Reserved}
use Rattle.control.specs.declared.Request.{Request}
use Rattle.common.specs.declared.Refusal.{Refusal}
use Rattle.control.specs.Setup.{request_of, parsed}
use Rattle.record.specs.declared.Record.{Record}
use Rattle.limits.specs.Limits.{lowest}
use Rattle.control_pipe.specs.Sizes.{buffer_room}
use Rattle.control_pipe.specs.declared.Pipe.{Pipe}
use Rattle.control_pipe.specs.declared.Stage.TheVariants.{CompleteIn, CompleteOut, DataOut, StatusIn}
use Rattle.control_pipe.specs.declared.Read.{Read}
use Rattle.control_pipe.specs.declared.Read.TheVariants.{Packet}
use Rattle.control_pipe.specs.Stages.{Move, at, fresh, zeros, opened, overlong, begun, begin_by, begin_out, setup_come, send_chunk, in_at, in_complete}
use Rattle.requests.specs.declared.State.{State}
use Rattle.requests.specs.declared.State.TheVariants.{Default, Addressed, Configured, Suspend}
use Rattle.requests.specs.declared.Kept.{Kept}
use Rattle.requests.specs.declared.Effect.{Effect}
use Rattle.requests.specs.declared.Effect.TheVariants.{Nothing as NoEffect, Wakeup, Halt as HaltIt, Unhalt as UnhaltIt, Address as TakeAddress, Turn}
use Rattle.control.specs.declared.EndpointAddress.{EndpointAddress}
use Rattle.requests.specs.declared.Decision.{Decision}
use Rattle.requests.specs.declared.Decision.TheVariants.{Status, Byte, Describe, Tiles, Accept}
use Rattle.requests.specs.Requests.{halt_place, decide_in, deconfigured, device_out, standard_out, decide_out, decide_by, decided}
use Rattle.writer.specs.Descriptors.{descriptor_of}
use Rattle.answers.specs.Answers.{Answer, told, described, answer_of, answered, answer}
use Rattle.live.specs.declared.Live.{Live}
use Rattle.live.specs.Live.{awake}
use Rattle.effects.specs.Effects.{Second, with_pipe, halting, effected, set_out, ticked}
use Rattle.events.specs.declared.Arrival.{Arrival}
use Rattle.events.specs.declared.Event.TheVariants.{Data}
use Rattle.events.specs.Events.{Done, odd, arrived, taken_by, replied, followed, data_come, woken, handled, happens as happens_to}
use Rattle.device.specs.declared.Device.{Device}
use Rattle.device.specs.declared.Stepped.{Stepped}
use Rattle.device.specs.Device.{refused_by, stepped_to}
use Rattle.steady.proofs.Decisions.{decide-in-elim}
use Rattle.promises.specs.History.{Agree, Moment, happens, after, seen}
use Rattle.steady.proofs.Usable.{usable, step-taken}
use Rattle.promises.proofs.Halts.{cond_both, kept_with, Close, Kin, Alike, followed-kin, bit-equal, alike-seen}

-- ---- an IN request leaves what outlives a SETUP

abbrev pub Mild : Option Decision → Type 0
Mild None = Unit {0}
Mild (Some (Status n)) = Unit {0}
Mild (Some (Byte n)) = Unit {0}
Mild (Some Describe) = Unit {0}
Mild (Some (Tiles n)) = Unit {0}
Mild (Some (Accept e)) = ⊥

pub mild : (t : RequestType) (k : Kept) (p : Pipe) (q : Request) (n : ℕ) → Mild (decide_in t k p q n)
mild t k p q n = decide-in-elim Mild tt k q p n (λ n. tt) (λ n. tt) tt (λ s l. tt) t

module _ (r : Record) (q : Request) (size : ℕ) (quirk taken : Bool) (book : List ℕ) (l : Live) (b : List ℕ) where
  abbrev Left : Answer → Type 0
  Left a = (replied a size quirk taken book l b).live.kept ≡ l.kept

  left-told : (o : Option (List ℕ)) → Left (told o)
  unfolding set_out send_chunk
  left-told None = refl
  left-told (Some bytes) = refl

  left : (d : Option Decision) → Mild d → Left (answered r q d)
  unfolding answer_of described set_out send_chunk
  left None m = refl
  left (Some (Status n)) m = refl
  left (Some (Byte n)) m = refl
  left (Some Describe) m = cond-elim Left (eqb (lowest r) 0) _ _ (λ e. left-told (descriptor_of r (q.value / 256) (q.value % 256) q.index)) (λ e. refl)
  left (Some (Tiles n)) m = refl
  left (Some (Accept e)) m = absurd m

-- ---- an OUT request's pipe and buffer do not depend on what outlives a SETUP

-- alike but for what is kept
record Beside (x y : Live) : Type 0 where
  pipe : x.pipe ≡ y.pipe
  before : x.before ≡ y.before
  book : x.book ≡ y.book
  built : x.built ≡ y.built

record Same (x y : Second) : Type 0 where
  live : Beside x.live y.live
  buffer : x.buffer ≡ y.buffer

-- what a SETUP leaves of a device, with a pipe of its own
abbrev pub going : Pipe → Kept → ℕ → Live
going p k n = record { pipe = p; kept = k; before = Default; book = n; built = true }

module _ (r : Record) (q : Request) (size : ℕ) (quirk taken : Bool) (book : List ℕ) (p : Pipe) (n : ℕ) (b : List ℕ) (k k' : Kept) where
  abbrev one : Live
  one = going p k n

  abbrev other : Live
  other = going p k' n

  itself : Beside one other
  itself = record { pipe = refl; before = refl; book = refl; built = refl }

  halts-alike : (e : EndpointAddress) (on : Bool) → Beside (halting e on one) (halting e on other)
  halts-alike e on =
      cond_both Beside (eqb (e.0 % 16) 0) _ _ _ _
      (cond_both Beside (ltb e.0 128) _ _ _ _ (record { pipe = refl; before = refl; book = refl; built = refl }) (record { pipe = refl; before = refl; book = refl; built = refl }))
      (record { pipe = refl; before = refl; book = refl; built = refl })

  effects-alike : (e : Effect) → Beside (effected e quirk one) (effected e quirk other)
  effects-alike NoEffect = itself
  effects-alike (Wakeup on) = record { pipe = refl; before = refl; book = refl; built = refl }
  effects-alike (HaltIt e) = halts-alike e true
  effects-alike (UnhaltIt e) = halts-alike e false
  effects-alike (TakeAddress a) = cond_both Beside quirk _ _ _ _ (record { pipe = refl; before = refl; book = refl; built = refl }) (record { pipe = refl; before = refl; book = refl; built = refl })
  effects-alike (Turn s) = record { pipe = refl; before = refl; book = refl; built = refl }

  unchanged : (s : State) (l : Live) → Beside (effected (deconfigured s) quirk l) l
  unchanged Default l = record { pipe = refl; before = refl; book = refl; built = refl }
  unchanged Addressed l = record { pipe = refl; before = refl; book = refl; built = refl }
  unchanged Configured l = record { pipe = refl; before = refl; book = refl; built = refl }
  unchanged Suspend l = record { pipe = refl; before = refl; book = refl; built = refl }

  deconfigured-alike : (s s' : State) → Beside (effected (deconfigured s) quirk one) (effected (deconfigured s') quirk other)
  deconfigured-alike s s' =
      let x = unchanged s one in
      let y = unchanged s' other in
      record { pipe = x.pipe ∙ sym y.pipe; before = x.before ∙ sym y.before; book = x.book ∙ sym y.book; built = x.built ∙ sym y.built }

  abbrev Both : Option Decision → Option Decision → Type 0
  Both d d' = Same (replied (answered r q d) size quirk taken book one b) (replied (answered r q d') size quirk taken book other b)

  both-accept : (e e' : Effect) → Beside (effected e quirk one) (effected e' quirk other) → Both (Some (Accept e)) (Some (Accept e'))
  unfolding answer_of set_out
  both-accept e e' a =
      record {
        live = record { pipe = ap (λ (x : Pipe). cond taken (at StatusIn x) x) a.pipe; before = a.before; book = a.book; built = a.built };
        buffer = refl;
      }

  both-stall : Both None None
  unfolding answer_of set_out
  both-stall = record { live = record { pipe = refl; before = refl; book = refl; built = refl }; buffer = refl }

  both-same : (e : Effect) → Both (Some (Accept e)) (Some (Accept e))
  both-same e = both-accept e e (effects-alike e)

  both-device : (code value : ℕ) → Both (device_out k.state code value) (device_out k'.state code value)
  both-device code value =
      cond_both Both (eqb code 1) _ _ _ _ (cond_both Both (eqb value 1) _ _ _ _ (both-same _) both-stall)
      (cond_both Both (eqb code 3) _ _ _ _ (cond_both Both (eqb value 1) _ _ _ _ (both-same _) both-stall)
      (cond_both Both (eqb code 5) _ _ _ _ (cond_both Both (between 1 127 value) _ _ _ _ (both-same _) both-stall)
      (cond_both Both (eqb code 9) _ _ _ _
      (cond_both Both (eqb value 1) _ _ _ _ (both-same _) (cond_both Both (eqb value 0) _ _ _ _ (both-accept _ _ (deconfigured-alike k.state k'.state)) both-stall))
      both-stall)))

  both-standard : (t : Recipient) → Both (standard_out t k q) (standard_out t k' q)
  both-standard OfDevice = both-device q.request q.value
  both-standard Interface = cond_both Both (eqb q.request 11 && eqb q.value 0 && leb q.index 255) _ _ _ _ (both-same _) both-stall
  both-standard Endpoint =
      cond_both Both (eqb q.request 1) _ _ _ _ (cond_both Both (eqb q.value 0) _ _ _ _ (both-same _) both-stall)
      (cond_both Both (eqb q.request 3) _ _ _ _ (cond_both Both (eqb q.value 0) _ _ _ _ (both-same _) both-stall) both-stall)
  both-standard Other = both-stall
  both-standard Reserved = both-stall

  both_out : (t : RequestType) → Both (decide_out t k q) (decide_out t k' q)
  both_out Standard = both-standard q.recipient
  both_out Class = both-stall
  both_out Vendor = both-stall
  both_out ReservedType = both-stall

-- ---- the event of an accepted SETUP

module _ (r : Record) (q : Request) (tick taken : Bool) (book : List ℕ) (n : ℕ) where
  abbrev size : ℕ
  size = r.plan.basics.packet

  abbrev quirk : Bool
  quirk = r.plan.basics.quirk

  -- what follows the SETUP, of what outlives it
  abbrev pub second : Move → Kept → Second
  second m k = followed r m.done tick taken book (going m.pipe k n) m.buffer

  abbrev Cut : Move → Type 0
  Cut m = (k k' : Kept) → Close (second m k).live.kept (second m k').live.kept → Kin (second m k).live (second m k').live × ((second m k').buffer ≡ (second m k).buffer)

  same-cut : (x y : Second) → Same x y → Close x.live.kept y.live.kept → Kin x.live y.live × (y.buffer ≡ x.buffer)
  same-cut x y s c =
      let a = s.live in
      let made : Pipe → Kept → State → ℕ → Bool → Live = λ p k t m b. record { pipe = p; kept = k; before = t; book = m; built = b } in
      let i = x.live in
      let j = y.live in
      let same = ap₂ (λ (p : Pipe) (k : Kept). made p k j.before j.book j.built) (sym a.pipe) c.same
      ∙ (ap₂ (λ (t : State) (m : ℕ). made i.pipe (kept_with j.kept.halts i.kept) t m j.built) (sym a.before) (sym a.book)
      ∙ ap (λ (b : Bool). made i.pipe (kept_with j.kept.halts i.kept) i.before i.book b) (sym a.built)) in
      (record { halts = j.kept.halts; live = same; bits = c.bits }, sym s.buffer)

  -- IN: what outlives the SETUP is as it was
  in_kept : q.direction ≡ In → (k : Kept) → (second (begin_by In q) k).live.kept ≡ k
  unfolding begin_by followed answer decided
  in_kept d k =
      let p = fresh CompleteIn q 0 in
      ap (λ (x : Direction). (replied (answered r q (decide_by x k p q n)) size quirk taken book (going p k n) zeros).live.kept) d
      ∙ left r q size quirk taken book (going p k n) zeros (decide_in q.kind k p q n) (mild q.kind k p q n)

  in_cut : q.direction ≡ In → Cut (begin_by In q)
  unfolding begin_by
  in_cut d k k' c =
      let z : Close k k' = subst (λ (x : Kept). Close x k') (in_kept d k) (subst (λ (x : Kept). Close (second (begin_by In q) k).live.kept x) (in_kept d k') c) in
      let m = begin_by In q in
      let f = followed-kin (going m.pipe k n) k'.halts z.bits r m.done tick taken book m.buffer in
      subst⁻¹ (λ (x : Kept). Kin (second m k).live (second m x).live × ((second m x).buffer ≡ (second m k).buffer)) z.same (f.live, f.buffer)

  -- OUT without data: decided at once
  out-decided : q.direction ≡ Out → (k k' : Kept) → Same (second (opened (fresh CompleteOut q 0) true) k) (second (opened (fresh CompleteOut q 0) true) k')
  unfolding followed answer decided
  out-decided d k k' =
      let p = fresh CompleteOut q 0 in
      subst⁻¹ (λ (x : Direction). Same (replied (answered r q (decide_by x k p q n)) size quirk taken book (going p k n) zeros) (replied (answered r q (decide_by x k' p q n)) size quirk taken book (going p k' n) zeros)) d
      (both_out r q size quirk taken book p n zeros k k' q.kind)

  -- OUT with data, or with too much of it: an IN-complete beside it does nothing
  out-waits : (m : ℕ) (k k' : Kept) → Same (second (opened (fresh DataOut q m) false) k) (second (opened (fresh DataOut q m) false) k')
  unfolding followed ticked in_complete in_at
  out-waits m k k' = cond_both Same tick _ _ _ _ (record { live = record { pipe = refl; before = refl; book = refl; built = refl }; buffer = refl }) (record { live = record { pipe = refl; before = refl; book = refl; built = refl }; buffer = refl })

  out-overlong : (k k' : Kept) → Same (second (overlong q) k) (second (overlong q) k')
  unfolding followed ticked in_complete in_at
  out-overlong k k' = cond_both Same tick _ _ _ _ (record { live = record { pipe = refl; before = refl; book = refl; built = refl }; buffer = refl }) (record { live = record { pipe = refl; before = refl; book = refl; built = refl }; buffer = refl })

  out-cut : q.direction ≡ Out → Cut (begin_by Out q)
  unfolding begin_by begin_out
  out-cut d =
      cond-elim Cut (eqb q.length 0) _ _ (λ z k k' e. same-cut _ _ (out-decided d k k') e)
      (λ z. cond-elim Cut (leb q.length buffer_room) _ _ (λ y k k' e. same-cut _ _ (out-waits q.length k k') e) (λ y k k' e. same-cut _ _ (out-overlong k k') e))

  -- whichever way the data goes
  pub cut : Cut (begin_by q.direction q)
  cut = by q.direction refl
    where
      by : (x : Direction) → q.direction ≡ x → Cut (begin_by x q)
      by In e = in_cut e
      by Out e = out-cut e

-- a SETUP of eight bytes is accepted, whatever the pipe was
pub accepted : (a : Arrival) (s : List ℕ) (p : Pipe) (b : List ℕ) → odd a.setup ≡ true → a.read ≡ Packet → length s ≡ 8 → arrived a s p b ≡ begin_by (request_of s).direction (request_of s)
unfolding arrived setup_come begun
accepted a s p b o r e =
    let g : parsed s ≡ Ok (request_of s) = rw e refl in
    rw o (ap (λ (x : Read). setup_come x s p b) r ∙ ap (λ (x : Result Request Refusal). begun x p b) g)

pub data-done : (a : Arrival) (r : Record) (s book : List ℕ) (l : Live) (b : List ℕ) → handled (Data a) r s book l b ≡ data_come r (not (awake l.kept.state)) a s book (woken l) b
unfolding handled happens_to
data-done a r s book l b = rw (and-false (not (awake l.kept.state))) refl

-- the device after an accepted SETUP, of any device
pub setup-device : (d : Device) (a : Arrival) (book s room : List ℕ) → refused_by d book room ≡ 0 → odd a.setup ≡ true → a.read ≡ Packet → length s ≡ 8
    → after d (happens (Data a) book s room)
    ≡ (let q = request_of s in
    let h = second d.profile q (odd a.done) (taken_by a.write) book (length book) (begin_by q.direction q) (woken d.live).kept in
    record { profile = d.profile; live = h.live; buffer = h.buffer })
unfolding after data_come
setup-device d a book s room z o r e =
    let u = usable d book room z in
    let q = request_of s in
    let w = woken d.live in
    let M = begin_by q.direction q in
    let tick = odd a.done in
    let taken = taken_by a.write in
    let made : Second → Device = λ h. record { profile = d.profile; live = h.live; buffer = h.buffer } in
    ap (λ (x : Stepped). x.device) (step-taken d book (Data a) s room z)
    ∙ (ap (λ (x : Done). (stepped_to d (Data a) x).device) (data-done a d.profile s book d.live d.buffer)
    ∙ (ap (λ (m : Move). made (followed d.profile m.done tick taken book (with_pipe m.pipe w) m.buffer)) (accepted a s w.pipe d.buffer o r e)
    ∙ ap₂ (λ (b : Bool) (n : ℕ). made (followed d.profile M.done tick taken book (record { pipe = M.pipe; kept = w.kept; before = Default; book = n; built = b }) M.buffer)) u.built (sym u.same)))

close : (d d' : Device) → Agree d d' → Close d.live.kept d'.live.kept
close d d' a =
    let k = d.live.kept in
    let k' = d'.live.kept in
    record {
      same = ap₂ {C = Kept} (λ (t : State) (w : Bool). record { state = t; wakeup = w; powered = k'.powered; halts = k'.halts }) (sym a.state) (sym a.wakeup)
          ∙ ap {B = Kept} (λ (p : Bool). record { state = k.state; wakeup = k.wakeup; powered = p; halts = k'.halts }) (sym a.powered);
      bits = record { bit = λ e n. bit-equal (k.halts / 2 ^ halt_place e) (k'.halts / 2 ^ halt_place e) (rw (ne_eqb (e.0 % 16) 0 n) at (a.halts e n)) };
    }

-- Two masts of one record take one SETUP of eight bytes, whatever either did before: asleep or awake, in any stage, with any address
-- pending. If they then agree on device state, remote wakeup, self-powered flag and halts of endpoints 1 to 15, they are alike: a
-- bit that is no endpoint's may differ, and nothing else.
pub setup-forgets : (d d' : Device) (a : Arrival) (book s room : List ℕ) → d.profile ≡ d'.profile → refused_by d book room ≡ 0 → refused_by d' book room ≡ 0
    → odd a.setup ≡ true → a.read ≡ Packet → length s ≡ 8
    → Agree (after d (happens (Data a) book s room)) (after d' (happens (Data a) book s room))
    → Alike (after d (happens (Data a) book s room)) (after d' (happens (Data a) book s room))
setup-forgets d d' a book s room p z z' o r e k =
    let q = request_of s in
    let tick = odd a.done in
    let taken = taken_by a.write in
    let made : Second → Device = λ h. record { profile = d.profile; live = h.live; buffer = h.buffer } in
    let half : Record → Kept → Second = λ x k. second x q tick taken book (length book) (begin_by q.direction q) k in
    let f = setup-device d a book s room z o r e in
    let g = setup-device d' a book s room z' o r e ∙ ap (λ (x : Record). let h = half x (woken d'.live).kept in record { profile = x; live = h.live; buffer = h.buffer }) (sym p) in
    let x = half d.profile (woken d.live).kept in
    let y = half d.profile (woken d'.live).kept in
    let c = cut d.profile q tick taken book (length book) (woken d.live).kept (woken d'.live).kept
    (close (made x) (made y) (subst (λ (i : Device). Agree i (made y)) f (subst (λ (i : Device). Agree (after d (happens (Data a) book s room)) i) g k))) in
    let w : Alike (made x) (made y) =
    record {
      halts = c.0.halts;
      same = ap₂ {C = Device} (λ (l : Live) (b : List ℕ). record { profile = d.profile; live = l; buffer = b }) c.0.live c.1;
      bits = c.0.bits;
    } in
    subst⁻¹ (λ (i : Device). Alike i (after d' (happens (Data a) book s room))) f (subst⁻¹ (λ (i : Device). Alike (made x) i) g w)

-- So the bytes of an old answer can't open a new one: no later event, setting or call for data shows what was before the SETUP.
pub setup-seen : (d d' : Device) (a : Arrival) (book s room : List ℕ) → d.profile ≡ d'.profile → refused_by d book room ≡ 0 → refused_by d' book room ≡ 0
    → odd a.setup ≡ true → a.read ≡ Packet → length s ≡ 8
    → Agree (after d (happens (Data a) book s room)) (after d' (happens (Data a) book s room))
    → (ms : List Moment) → seen (after d (happens (Data a) book s room)) ms ≡ seen (after d' (happens (Data a) book s room)) ms
setup-seen d d' a book s room p z z' o r e k ms =
    sym (alike-seen ms (after d (happens (Data a) book s room)) (after d' (happens (Data a) book s room)) (setup-forgets d d' a book s room p z z' o r e k))
