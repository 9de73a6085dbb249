-- Of the halts only those of endpoints 1 to 15 are ever looked at: two masts that agree on them show the same. Assumes nothing.
use Prim.Native.Nat.{ℕ, ◌-◌, ◌/◌, ◌%◌, ◌^◌}
use mathlib.Core.Bool.{Bool, true, false, cond, not, ◌&&◌}
use mathlib.Core.Path.{◌≡◌, refl, sym, ap, ap₂, subst⁻¹, ◌∙◌}
use mathlib.Core.List.{List, [], ◌∷◌}
use native.Mathlib.Omega.{arith}
use borrow.Author.Tests.{eqb-true, eqb-false}
use lib.Dec.{eqb, ltb}
use lib.Bits.{bit_and, bit_or, and_shr, or_shr, and_mod, or_mod}
use Rattle.common.specs.Bytes.{front}
use Rattle.std.specs.Prelude.{Some, None, Ok, Err}
use Rattle.common.specs.Refusals.{refusal}
use Rattle.control.specs.declared.EndpointAddress.{EndpointAddress}
use Rattle.control.specs.declared.Direction.{Direction}
use Rattle.control.specs.declared.Direction.TheVariants.{In, Out}
use Rattle.control.specs.declared.RequestType.{RequestType}
use Rattle.control.specs.declared.RequestType.TheVariants.{Standard, Class, Vendor, Reserved as ReservedType}
use Rattle.control.specs.declared.Recipient.{Recipient}
use Rattle.control.specs.declared.Recipient.TheVariants.{Device as OfDevice, Interface, Endpoint, Other, Reserved}
use Rattle.control.specs.declared.Request.{Request}
use Rattle.record.specs.declared.Record.{Record}
use Rattle.control_pipe.specs.declared.Told.{Told}
use Rattle.control_pipe.specs.declared.Pipe.{Pipe}
use Rattle.control_pipe.specs.Stages.{zeros, in_complete, accept_out}
use Rattle.requests.specs.declared.Kept.{Kept}
use Rattle.requests.specs.declared.Effect.{Effect}
use Rattle.requests.specs.declared.Effect.TheVariants.{Nothing as NoEffect, Wakeup, Halt as HaltIt, Unhalt as UnhaltIt, Address as TakeAddress, Turn}
use Rattle.requests.specs.declared.Decision.TheVariants.{Status}
use Rattle.requests.specs.Requests.{endpoint_of, halt_place, with_halt, halted, status_bits, standard_in, decide_in, standard_out, decide_out, decide_by, decided}
use Rattle.answers.specs.Answers.{Answer, stall, tell, tiles, accept, answered, answer}
use Rattle.live.specs.declared.Live.{Live}
use Rattle.live.specs.Live.{awake, live_fine, unfit, step_refusal}
use Rattle.effects.specs.declared.Action.{Action}
use Rattle.effects.specs.declared.Action.TheVariants.{Nothing as NoAction, Reset as TellReset, Suspend as TellSuspend}
use Rattle.effects.specs.Effects.{Second, with_pipe, with_kept, stalling, halting, effected, set_out, ticked}
use Rattle.events.specs.declared.Arrival.{Arrival}
use Rattle.events.specs.declared.Event.{Event}
use Rattle.events.specs.declared.Event.TheVariants.{Nothing, Reset, Suspend, Resume, Data}
use Rattle.events.specs.Events.{Done, odd, arrived, replied, taken_by, followed, data_come, plain, suspended, restarted, woken, dull, happens as happens_to, handled, handled_of, told_by}
use Rattle.actions.specs.Actions.{packed}
use Rattle.device.specs.declared.Device.{Device}
use Rattle.device.specs.declared.Polled.{Polled}
use Rattle.device.specs.Device.{masks_of, polled_of, refused_by, unfit_device, step_of, stepped_to, room_of, handed_room, with_powered, powered_of, done}
use Rattle.promises.specs.History.{Moment, happens, powers, asks, after, Shown, stepped, shown, seen}

-- ---- masks that agree on every endpoint but 0

pub cond_both : {A : Type 0} (R : A → A → Type 0) (b : Bool) (x y x' y' : A) → R x x' → R y y' → R (cond b x y) (cond b x' y')
cond_both R true x y x' y' s t = s
cond_both R false x y x' y' s t = t

pub record Bits (h h' : ℕ) : Type 0 where
  pub bit : (e : EndpointAddress) → (e.0 % 16 ≡ 0 → ⊥) → h / 2 ^ halt_place e % 2 ≡ h' / 2 ^ halt_place e % 2

-- the halt of an endpoint says its bit
pub bit-equal : (x y : ℕ) → eqb (x % 2) 1 ≡ eqb (y % 2) 1 → x % 2 ≡ y % 2
bit-equal x y e = by (eqb (x % 2) 1) refl
  where
    by : (t : Bool) → eqb (x % 2) 1 ≡ t → x % 2 ≡ y % 2
    by true z = omega (arith, eqb-true (x % 2) 1 z, eqb-true (y % 2) 1 (sym e ∙ z))
    by false z = let f = eqb-false (x % 2) 1 z in let g = eqb-false (y % 2) 1 (sym e ∙ z) in omega (arith, f, g)

same_bits : (h : ℕ) → Bits h h
same_bits h = record { bit = λ e n. refl }

or-bit : (h g i : ℕ) → bit_or h g / 2 ^ i % 2 ≡ bit_or (h / 2 ^ i % 2) (g / 2 ^ i % 2)
or-bit h g i = ap (λ (x : ℕ). x % 2) (or_shr h g i) ∙ or_mod (h / 2 ^ i) (g / 2 ^ i) 1

and-bit : (h g i : ℕ) → bit_and h g / 2 ^ i % 2 ≡ bit_and (h / 2 ^ i % 2) (g / 2 ^ i % 2)
and-bit h g i = ap (λ (x : ℕ). x % 2) (and_shr h g i) ∙ and_mod (h / 2 ^ i) (g / 2 ^ i) 1

or-bits : (h h' g : ℕ) → Bits h h' → Bits (bit_or h g) (bit_or h' g)
or-bits h h' g b =
    record { bit = λ e n. let i = halt_place e in or-bit h g i ∙ (ap (λ (x : ℕ). bit_or x (g / 2 ^ i % 2)) (b.bit e n) ∙ sym (or-bit h' g i)) }

and-bits : (h h' g : ℕ) → Bits h h' → Bits (bit_and h g) (bit_and h' g)
and-bits h h' g b =
    record { bit = λ e n. let i = halt_place e in and-bit h g i ∙ (ap (λ (x : ℕ). bit_and x (g / 2 ^ i % 2)) (b.bit e n) ∙ sym (and-bit h' g i)) }

-- ---- what a request is answered with

abbrev pub kept_with : ℕ → Kept → Kept
kept_with h k = record k { halts = h }

abbrev pub live_with : ℕ → Live → Live
live_with h l = record l { kept = kept_with h l.kept }

module _ (k : Kept) (h : ℕ) (b : Bits k.halts h) where
  halted-same : (p : Pipe) (e : EndpointAddress) → halted (kept_with h k) p e ≡ halted k p e
  halted-same p e = by (eqb (e.0 % 16) 0) refl
    where
      by : (t : Bool) → eqb (e.0 % 16) 0 ≡ t → cond t (cond (ltb e.0 128) p.stallout p.stallin) (eqb (h / 2 ^ halt_place e % 2) 1) ≡ cond t (cond (ltb e.0 128) p.stallout p.stallin) (eqb (k.halts / 2 ^ halt_place e % 2) 1)
      by true z = refl
      by false z = ap (λ (x : ℕ). eqb x 1) (sym (b.bit e (eqb-false (e.0 % 16) 0 z)))

  standard-same : (w : Recipient) (p : Pipe) (q : Request) → standard_in w (kept_with h k) p q ≡ standard_in w k p q
  standard-same OfDevice p q = refl
  standard-same Interface p q = refl
  standard-same Endpoint p q = ap (λ (x : Bool). cond (eqb q.request 0) (Some (Status (status_bits x 1))) None) (halted-same p (endpoint_of q.index))
  standard-same Other p q = refl
  standard-same Reserved p q = refl

  in-same : (t : RequestType) (p : Pipe) (q : Request) (n : ℕ) → decide_in t (kept_with h k) p q n ≡ decide_in t k p q n
  in-same Standard p q n = standard-same q.recipient p q
  in-same Class p q n = refl
  in-same Vendor p q n = refl
  in-same ReservedType p q n = refl

  out-recipient : (w : Recipient) (q : Request) → standard_out w (kept_with h k) q ≡ standard_out w k q
  out-recipient OfDevice q = refl
  out-recipient Interface q = refl
  out-recipient Endpoint q = refl
  out-recipient Other q = refl
  out-recipient Reserved q = refl

  out-same : (t : RequestType) (q : Request) → decide_out t (kept_with h k) q ≡ decide_out t k q
  out-same Standard q = out-recipient q.recipient q
  out-same Class q = refl
  out-same Vendor q = refl
  out-same ReservedType q = refl

  by-same : (d : Direction) (p : Pipe) (q : Request) (n : ℕ) → decide_by d (kept_with h k) p q n ≡ decide_by d k p q n
  by-same In p q n = in-same q.kind p q n
  by-same Out p q n = out-same q.kind q

  answer-same : (r : Record) (p : Pipe) (n : ℕ) → answer r (kept_with h k) p n ≡ answer r k p n
  unfolding answer decided
  answer-same r p n = ap (answered r p.request) (by-same p.request.direction p p.request n)

-- ---- half an event

-- what is kept, but for the bits that are no endpoint's
pub record Close (k k' : Kept) : Type 0 where
  pub same : k' ≡ kept_with k'.halts k
  pub bits : Bits k.halts k'.halts

pub record Kin (x y : Live) : Type 0 where
  pub halts : ℕ
  pub live : y ≡ live_with halts x
  pub bits : Bits x.kept.halts halts

pub record KinHalf (x y : Second) : Type 0 where
  pub live : Kin x.live y.live
  pub buffer : y.buffer ≡ x.buffer
  act : y.act ≡ x.act
  told : y.told ≡ x.told
  packet : y.packet ≡ x.packet

module _ (l : Live) (h : ℕ) (b : Bits l.kept.halts h) where
  itself : Kin l (live_with h l)
  itself = record { halts = h; live = refl; bits = b }

  halting-kin : (e : EndpointAddress) (on : Bool) → Kin (halting e on l) (halting e on (live_with h l))
  halting-kin e on = by (eqb (e.0 % 16) 0) (ltb e.0 128) on
    where
      by : (t u v : Bool) → Kin (cond t (cond u (with_pipe (stalling v l.pipe.stallin l.pipe) l) (with_pipe (stalling l.pipe.stallout v l.pipe) l)) (with_kept (with_halt e v l.kept) l))
          (cond t (cond u (with_pipe (stalling v l.pipe.stallin l.pipe) (live_with h l)) (with_pipe (stalling l.pipe.stallout v l.pipe) (live_with h l))) (with_kept (with_halt e v (kept_with h l.kept)) (live_with h l)))
      by true true v = record { halts = h; live = refl; bits = b }
      by true false v = record { halts = h; live = refl; bits = b }
      by false u true = record { halts = bit_or h (2 ^ halt_place e); live = refl; bits = or-bits l.kept.halts h (2 ^ halt_place e) b }
      by false u false = record { halts = bit_and h (4294967295 - 2 ^ halt_place e); live = refl; bits = and-bits l.kept.halts h (4294967295 - 2 ^ halt_place e) b }

  effected-kin : (e : Effect) (quirk : Bool) → Kin (effected e quirk l) (effected e quirk (live_with h l))
  effected-kin NoEffect quirk = itself
  effected-kin (Wakeup on) quirk = record { halts = h; live = refl; bits = b }
  effected-kin (HaltIt e) quirk = halting-kin e true
  effected-kin (UnhaltIt e) quirk = halting-kin e false
  effected-kin (TakeAddress a) true = record { halts = h; live = refl; bits = b }
  effected-kin (TakeAddress a) false = record { halts = h; live = refl; bits = b }
  effected-kin (Turn s) quirk = record { halts = h; live = refl; bits = b }

  replied-kin : (a : Answer) (size : ℕ) (quirk taken : Bool) (book c : List ℕ) → KinHalf (replied a size quirk taken book l c) (replied a size quirk taken book (live_with h l) c)
  unfolding set_out
  replied-kin stall size quirk taken book c = record { live = record { halts = h; live = refl; bits = b }; buffer = refl; act = refl; told = refl; packet = refl }
  replied-kin (tell bytes) size quirk taken book c = record { live = record { halts = h; live = refl; bits = b }; buffer = refl; act = refl; told = refl; packet = refl }
  replied-kin (tiles start) size quirk taken book c = record { live = record { halts = h; live = refl; bits = b }; buffer = refl; act = refl; told = refl; packet = refl }
  replied-kin (accept e) size quirk taken book c =
      let k = effected-kin e quirk in
      record {
        live = record { halts = k.halts; live = ap (λ (x : Live). with_pipe (accept_out taken x.pipe c).pipe x) k.live; bits = k.bits };
        buffer = refl;
        act = refl;
        told = refl;
        packet = refl;
      }

  ticked-kin : (size : ℕ) (quirk taken : Bool) (book c : List ℕ) → KinHalf (ticked size quirk taken book l c) (ticked size quirk taken book (live_with h l) c)
  unfolding ticked
  ticked-kin size quirk taken book c =
      let m = in_complete size taken book l.pipe c in
      cond_both KinHalf (m.done && not quirk && not (eqb m.pipe.pending.0 0)) _ _ _ _ (record { live = record { halts = h; live = refl; bits = b }; buffer = refl; act = refl; told = refl; packet = refl })
      (record { live = record { halts = h; live = refl; bits = b }; buffer = refl; act = refl; told = refl; packet = refl })

  pub followed-kin : (r : Record) (complete tick taken : Bool) (book c : List ℕ) → KinHalf (followed r complete tick taken book l c) (followed r complete tick taken book (live_with h l) c)
  unfolding followed
  followed-kin r true tick taken book c =
      let size = r.plan.basics.packet in
      let quirk = r.plan.basics.quirk in
      subst⁻¹ (λ (a : Answer). KinHalf (replied (answer r l.kept l.pipe l.book) size quirk taken book l c) (replied a size quirk taken book (live_with h l) c))
      (answer-same l.kept h b r l.pipe l.book) (replied-kin (answer r l.kept l.pipe l.book) size quirk taken book c)
  followed-kin r false true taken book c = ticked-kin r.plan.basics.packet r.plan.basics.quirk taken book c
  followed-kin r false false taken book c = record { live = itself; buffer = refl; act = refl; told = refl; packet = refl }

-- ---- a whole event

record KinDone (x y : Done) : Type 0 where
  live : Kin x.live y.live
  buffer : y.buffer ≡ x.buffer
  resumed : y.resumed ≡ x.resumed
  first : y.first ≡ x.first
  act : y.act ≡ x.act
  second : y.second ≡ x.second
  packet : y.packet ≡ x.packet
  answer : y.answer ≡ x.answer

plain-kin : (x y : Live) (c : List ℕ) (resumed : Bool) (act : Action) → Kin x y → KinDone (plain x c resumed act) (plain y c resumed act)
plain-kin x y c resumed act k = record { live = k; buffer = refl; resumed = refl; first = refl; act = refl; second = refl; packet = refl; answer = refl }

module _ (l : Live) (h : ℕ) (b : Bits l.kept.halts h) where
  data-kin : (r : Record) (resumed : Bool) (a : Arrival) (s book c : List ℕ) → KinDone (data_come r resumed a s book l c) (data_come r resumed a s book (live_with h l) c)
  unfolding data_come
  data-kin r resumed a s book c =
      let m = arrived a s l.pipe c in
      let k = followed-kin (with_pipe m.pipe l) h b r m.done (odd a.done) (taken_by a.write) book m.buffer in
      record { live = k.live; buffer = k.buffer; resumed = refl; first = refl; act = k.act; second = k.told; packet = k.packet; answer = refl }

  happens-kin : (e : Event) (r : Record) (resumed : Bool) (s book c : List ℕ) → KinDone (happens_to e r resumed s book l c) (happens_to e r resumed s book (live_with h l) c)
  unfolding happens_to
  happens-kin Nothing r resumed s book c = plain-kin l (live_with h l) c resumed NoAction (itself l h b)
  happens-kin Reset r resumed s book c = plain-kin (restarted l) (restarted (live_with h l)) zeros resumed TellReset (record { halts = 0; live = refl; bits = same_bits 0 })
  happens-kin Suspend r resumed s book c = plain-kin (suspended l) (suspended (live_with h l)) c resumed TellSuspend (record { halts = h; live = refl; bits = b })
  happens-kin Resume r resumed s book c = plain-kin l (live_with h l) c resumed NoAction (itself l h b)
  happens-kin (Data a) r resumed s book c = data-kin r resumed a s book c

handled-kin : (l : Live) (h : ℕ) → Bits l.kept.halts h → (e : Event) (r : Record) (s book c : List ℕ) → KinDone (handled e r s book l c) (handled e r s book (live_with h l) c)
unfolding handled
handled-kin l h b e r s book c =
    cond_both KinDone (not (awake l.kept.state) && dull e) _ _ _ _ (plain-kin l (live_with h l) c false NoAction (itself l h b)) (happens-kin (woken l) h b e r (not (awake l.kept.state)) s book c)

-- ---- a device

abbrev pub device_with : ℕ → Device → Device
device_with h d = record d { live = live_with h d.live }

-- two devices, equal but for bits of the mask that are no endpoint's
pub record Alike (d d' : Device) : Type 0 where
  pub halts : ℕ
  pub same : d' ≡ device_with halts d
  pub bits : Bits d.live.kept.halts halts

polled-kin : (x y : Done) (e : Event) → KinDone x y → polled_of (handled_of y) e ≡ polled_of (handled_of x) e
polled-kin x y e k =
    let made : Bool → Told → Action → Told → Bool → Polled =
    λ resumed first act second answer. record { answer = answer; masks = masks_of e; actions = packed (told_by resumed first act second) } in
    ap₂ (λ (i : Bool) (j : Told). made i j y.act y.second y.answer) k.resumed k.first
    ∙ (ap₂ (λ (i : Action) (j : Told). made x.resumed x.first i j y.answer) k.act k.second ∙ ap (λ (i : Bool). made x.resumed x.first x.act x.second i) k.answer)

module _ (d : Device) (h : ℕ) (b : Bits d.live.kept.halts h) where
  abbrev d' : Device
  d' = device_with h d

  -- what a moment does to both
  record Both (m : Moment) : Type 0 where
    shows : shown d' m ≡ shown d m
    leads : Alike (after d m) (after d' m)

  module _ (book : List ℕ) (e : Event) (s room : List ℕ) where
    abbrev x : Done
    x = done d book e s

    abbrev y : Done
    y = done d' book e s

    k : KinDone x y
    k = handled-kin d.live h b e d.profile s book d.buffer

    stepped-kin : (t : Bool)
        → (let n = refused_by d book room in
        let u = cond t (stepped_to d e x) (record { device = d; said = Err (refusal n) }) in
        let v = cond t (stepped_to d' e y) (record { device = d'; said = Err (refusal n) }) in
        (stepped v.said (cond t (front y.packet room) room) ≡ stepped u.said (cond t (front x.packet room) room)) × Alike u.device v.device)
    stepped-kin true =
        let l = k.live in (
          ap₂ (λ (i : Polled) (j : List ℕ). stepped (Ok i) (front j room)) (polled-kin x y e k) k.packet,
          record {
            halts = l.halts;
            same = ap₂ {C = Device} (λ (i : Live) (j : List ℕ). record { profile = d.profile; live = i; buffer = j }) l.live k.buffer;
            bits = l.bits;
          },
        )
    stepped-kin false = (refl, record { halts = h; same = refl; bits = b })

    happens-both : Both (happens e book s room)
    unfolding after shown step_of room_of step_refusal unfit live_fine
    happens-both = let z = stepped-kin (eqb (refused_by d book room) 0) in record { shows = z.0; leads = z.1 }

  powers-both : (on : Bool) → Both (powers on)
  unfolding after shown powered_of unfit live_fine
  powers-both on =
      let z = cond_both Alike (eqb (unfit_device d) 0) (with_powered on d) d (with_powered on d') d' (record { halts = h; same = refl; bits = b }) (record { halts = h; same = refl; bits = b }) in
      record { shows = refl; leads = z }

  asks_both : (room : List ℕ) → Both (asks room)
  unfolding after shown handed_room unfit live_fine
  asks_both room = record { shows = refl; leads = record { halts = h; same = refl; bits = b } }

  both : (m : Moment) → Both m
  both (happens e book s room) = happens-both book e s room
  both (powers on) = powers-both on
  both (asks room) = asks_both room

-- nothing that happens later tells them apart
pub alike-seen : (ms : List Moment) (d d' : Device) → Alike d d' → seen d' ms ≡ seen d ms
unfolding seen
alike-seen [] d c a = refl
alike-seen (m ∷ ms) d c a =
    let e = device_with a.halts d in
    let z = both d a.halts a.bits m in
    ap (λ (x : Device). shown x m ∷ seen (after x m) ms) a.same ∙ ap₂ (λ (x : Shown) (y : List Shown). x ∷ y) z.shows (alike-seen ms (after d m) (after e m) z.leads)
