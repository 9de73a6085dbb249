-- What a step shows of its packet: a moment sends the packet that the bus took, and none is longer than the packet size. Assumes
-- nothing.
use Prim.Native.Nat.{ℕ, ◌≤◌}
use mathlib.Core.Bool.{Bool, true, false, cond}
use mathlib.Core.Path.{◌≡◌, refl, sym, ap, ap₂, subst, ◌∙◌}
use mathlib.Core.List.{List, [], ◌∷◌, ◌++◌, append_assoc, append-nil}
use native.Mathlib.Omega.{arith}
use borrow.Author.Tests.{le-leb}
use lib.Dec.{eqb}
use lib.ListN.{length, take, drop}
use lib.Seq.{take_at}
use Rattle.common.specs.Bytes.{front}
use Rattle.std.specs.Prelude.{Err}
use Rattle.common.specs.Refusals.{refusal}
use Rattle.common.proofs.Laws.{cond-elim}
use Rattle.record.specs.declared.Record.{Record}
use Rattle.control_pipe.specs.declared.Told.{Told}
use Rattle.control_pipe.specs.declared.Told.TheVariants.{Nothing as Silence, Unstalls, UnstallsStalls, Stalls, UnstallOut as UnstalledOut, Write as Wrote, Refused as Declined}
use Rattle.effects.specs.declared.Action.{Action}
use Rattle.effects.specs.declared.Action.TheVariants.{Nothing as NoAction, Resume as TellResume, Suspend as TellSuspend, Reset as TellReset, UnstallOut, UnstallIn, StallOut, StallIn, Halt, Unhalt, Address, Write, Refused}
use Rattle.events.specs.declared.Event.{Event}
use Rattle.events.specs.Events.{Done, listed, alone, told_by}
use Rattle.actions.specs.Actions.{packed, slots}
use Rattle.device.specs.declared.Device.{Device}
use Rattle.device.specs.declared.Stepped.{Stepped}
use Rattle.device.specs.Device.{refused_by, unfit_device, step_of, room_of, done, powered_of}
use Rattle.steady.specs.Steady.{is_write, writes}
use Rattle.steady.proofs.Actions.{five, write-last}
use Rattle.steady.proofs.Packets.{told_length, short}
use Rattle.promises.specs.History.{Moment, happens, powers, asks, after, shown, told_in, seen}
use Rattle.promises.specs.Transfers.{taken_of, packets, gone, joined, length_of, All, Within, Bounded}
use Rattle.steady.proofs.Usable.{step-taken}

-- the packet, if the bus was told that it took one
abbrev pub took_of : Told → List ℕ → List ℕ
took_of Silence packet = []
took_of Unstalls packet = []
took_of UnstallsStalls packet = []
took_of Stalls packet = []
took_of UnstalledOut packet = []
took_of (Wrote n) packet = packet
took_of (Declined n) packet = []

-- .. with its length
abbrev pub Exact : Told → List ℕ → Type 0
Exact Silence packet = Unit {0}
Exact Unstalls packet = Unit {0}
Exact UnstallsStalls packet = Unit {0}
Exact Stalls packet = Unit {0}
Exact UnstalledOut packet = Unit {0}
Exact (Wrote n) packet = length packet ≡ n
Exact (Declined n) packet = Unit {0}

-- ---- lists of packets

pub joined-append : (xs ys : List (List ℕ)) → joined (xs ++ ys) ≡ joined xs ++ joined ys
unfolding joined
joined-append [] ys = refl
joined-append (x ∷ xs) ys = ap (λ (t : List ℕ). x ++ t) (joined-append xs ys) ∙ sym (append_assoc x (joined xs) (joined ys))

-- ---- the slots

-- what an action that is no packet has of one
taken_none : (room : List ℕ) (a : Action) → is_write a ≡ 0 → (taken_of room a ≡ []) × (length_of a ≡ 0)
taken_none room NoAction z = (refl, refl)
taken_none room TellResume z = (refl, refl)
taken_none room TellSuspend z = (refl, refl)
taken_none room TellReset z = (refl, refl)
taken_none room UnstallOut z = (refl, refl)
taken_none room UnstallIn z = (refl, refl)
taken_none room StallOut z = (refl, refl)
taken_none room StallIn z = (refl, refl)
taken_none room (Halt e) z = (refl, refl)
taken_none room (Unhalt e) z = (refl, refl)
taken_none room (Address a) z = (refl, refl)
taken_none room (Write n) z = absurd (omega (arith, z))
taken_none room (Refused n) z = absurd (omega (arith, z))

module _ (room : List ℕ) where
  packets-append : (xs ys : List Action) → packets room (xs ++ ys) ≡ packets room xs ++ packets room ys
  unfolding packets
  packets-append [] ys = refl
  packets-append (x ∷ xs) ys = ap (λ (t : List (List ℕ)). taken_of room x ++ t) (packets-append xs ys) ∙ sym (append_assoc (taken_of room x) (packets room xs) (packets room ys))

  packets-slots : (xs : List Action) → length xs ≤ 5 → packets room (slots (packed xs)) ≡ packets room xs
  unfolding packets
  packets-slots [] l = refl
  packets-slots (a ∷ []) l = refl
  packets-slots (a ∷ b ∷ []) l = refl
  packets-slots (a ∷ b ∷ c ∷ []) l = refl
  packets-slots (a ∷ b ∷ c ∷ d ∷ []) l = refl
  packets-slots (a ∷ b ∷ c ∷ d ∷ e ∷ []) l = refl
  packets-slots (a ∷ b ∷ c ∷ d ∷ e ∷ f ∷ xs) l = absurd (omega arith)

  packets-none : (xs : List Action) → writes xs ≡ 0 → packets room xs ≡ []
  unfolding packets writes
  packets-none [] z = refl
  packets-none (a ∷ xs) z = rw (taken_none room a (omega (arith, z))).0 (packets-none xs (omega (arith, z)))

  resumed-none : (resumed : Bool) → packets room (cond resumed (TellResume ∷ []) []) ≡ []
  unfolding packets
  resumed-none true = refl
  resumed-none false = refl

  -- the packet is told last
  told-packets : (d : Done) → length (told_by d.resumed d.first d.act d.second) ≤ 5 → writes (listed d.first) ≡ 0 → writes (alone d.act) ≡ 0
      → packets room (slots (packed (told_by d.resumed d.first d.act d.second))) ≡ packets room (listed d.second)
  told-packets d five first act =
      let xs = cond d.resumed (TellResume ∷ []) [] in
      packets-slots (told_by d.resumed d.first d.act d.second) five
      ∙ (packets-append xs (listed d.first ++ (alone d.act ++ listed d.second))
      ∙ rw (resumed-none d.resumed, packets-append (listed d.first) (alone d.act ++ listed d.second), packets-none (listed d.first) first, packets-append (alone d.act) (listed d.second), packets-none (alone d.act) act) refl)

-- a packet that the room takes stands at its front
front-packet : (packet room : List ℕ) → length packet ≤ length room → take (length packet) (front packet room) ≡ packet
unfolding front
front-packet packet room l = rw (le-leb (length packet) (length room) l) (take_at packet (drop (length packet) room) (length packet) refl)

pub listed-took : (t : Told) (packet room : List ℕ) → Exact t packet → length packet ≤ length room → joined (packets (front packet room) (listed t)) ≡ took_of t packet
unfolding joined packets
listed-took Silence packet room x l = refl
listed-took Unstalls packet room x l = refl
listed-took UnstallsStalls packet room x l = refl
listed-took Stalls packet room x l = refl
listed-took UnstalledOut packet room x l = refl
listed-took (Wrote n) packet room x l = append-nil (take n (front packet room)) ∙ (ap (λ (k : ℕ). take k (front packet room)) (sym x) ∙ front-packet packet room l)
listed-took (Declined n) packet room x l = refl

-- ---- the step

module _ (d : Device) (book : List ℕ) (e : Event) (s room : List ℕ) where
  pub step-refused : eqb (refused_by d book room) 0 ≡ false → step_of d book e s room ≡ record { device = d; said = Err (refusal (refused_by d book room)) }
  unfolding step_of
  step-refused z = rw z refl

  room-taken : refused_by d book room ≡ 0 → room_of d book e s room ≡ front (done d book e s).packet room
  unfolding room_of
  room-taken z = rw z refl

  -- a refused call sends nothing
  pub gone-refused : eqb (refused_by d book room) 0 ≡ false → gone (shown d (happens e book s room)) ≡ []
  unfolding gone shown packets
  gone-refused z = ap (λ (x : Stepped). packets (room_of d book e s room) (told_in x.said)) (step-refused z)

  -- a step sends what it tells last
  pub gone-taken : refused_by d book room ≡ 0 → gone (shown d (happens e book s room)) ≡ packets (front (done d book e s).packet room) (listed (done d book e s).second)
  unfolding gone shown
  gone-taken z =
      let x = done d book e s in
      let q = write-last e d.profile s book d.live d.buffer in
      ap₂ (λ (x : Stepped) (y : List ℕ). packets y (told_in x.said)) (step-taken d book e s room z) (room-taken z)
      ∙ told-packets (front x.packet room) x (five e d.profile s book d.live d.buffer) q.0 q.1

-- ---- no packet is longer than the packet size

module _ (P : Action → Type 0) where
  pub all_append : (xs ys : List Action) → All P xs → All P ys → All P (xs ++ ys)
  all_append [] ys p q = q
  all_append (x ∷ xs) ys p q = (p.0, all_append xs ys p.1 q)

  pub all_slots : (xs : List Action) → P NoAction → All P xs → All P (slots (packed xs))
  all_slots [] n p = (n, (n, (n, (n, (n, tt)))))
  all_slots (a ∷ []) n p = (p.0, (n, (n, (n, (n, tt)))))
  all_slots (a ∷ b ∷ []) n p = (p.0, (p.1.0, (n, (n, (n, tt)))))
  all_slots (a ∷ b ∷ c ∷ []) n p = (p.0, (p.1.0, (p.1.1.0, (n, (n, tt)))))
  all_slots (a ∷ b ∷ c ∷ d ∷ []) n p = (p.0, (p.1.0, (p.1.1.0, (p.1.1.1.0, (n, tt)))))
  all_slots (a ∷ b ∷ c ∷ d ∷ e ∷ xs) n p = (p.0, (p.1.0, (p.1.1.0, (p.1.1.1.0, (p.1.1.1.1.0, tt)))))

module _ (size : ℕ) where
  abbrev Fitting : Action → Type 0
  Fitting a = length_of a ≤ size

  all_none : (xs : List Action) → writes xs ≡ 0 → All Fitting xs
  unfolding writes
  all_none [] z = tt
  all_none (a ∷ xs) z = (let e = (taken_none [] a (omega (arith, z))).1 in omega (arith, e), all_none xs (omega (arith, z)))

  all-resumed : (resumed : Bool) → All Fitting (cond resumed (TellResume ∷ []) [])
  all-resumed true = (omega arith, tt)
  all-resumed false = tt

  all_listed : (t : Told) → told_length t ≤ size → All Fitting (listed t)
  all_listed Silence l = tt
  all_listed Unstalls l = (omega arith, (omega arith, tt))
  all_listed UnstallsStalls l = (omega arith, (omega arith, (omega arith, (omega arith, tt))))
  all_listed Stalls l = (omega arith, (omega arith, tt))
  all_listed UnstalledOut l = (omega arith, tt)
  all_listed (Wrote n) l = (l, tt)
  all_listed (Declined n) l = (l, tt)

module _ (d : Device) where
  abbrev packet : ℕ
  packet = d.profile.plan.basics.packet

  step-within : (book : List ℕ) (e : Event) (s room : List ℕ) → All (Fitting packet) (told_in (step_of d book e s room).said)
  unfolding step_of
  step-within book e s room =
      let x = done d book e s in
      let q = write-last e d.profile s book d.live d.buffer in
      let P = Fitting packet in
      let none : 0 ≤ packet = omega arith in
      let l = (short e d.profile s book d.live d.buffer).told in
      cond-elim (λ (y : Stepped). All P (told_in y.said)) (eqb (refused_by d book room) 0) _ _
      (λ t. all_slots P (told_by x.resumed x.first x.act x.second) none
      (all_append P (cond x.resumed (TellResume ∷ []) []) (listed x.first ++ (alone x.act ++ listed x.second)) (all-resumed packet x.resumed)
      (all_append P (listed x.first) (alone x.act ++ listed x.second) (all_none packet (listed x.first) q.0)
      (all_append P (alone x.act) (listed x.second) (all_none packet (alone x.act) q.1) (all_listed packet x.second l)))))
      (λ t. tt)

  within : (m : Moment) → Within packet (shown d m)
  unfolding shown
  within (happens e book s room) = step-within book e s room
  within (powers on) = tt
  within (asks room) = tt

  -- nothing changes the record
  pub kept-profile : (m : Moment) → (after d m).profile ≡ d.profile
  unfolding after step_of powered_of
  kept-profile (happens e book s room) = cond-elim (λ (x : Stepped). x.device.profile ≡ d.profile) (eqb (refused_by d book room) 0) _ _ (λ t. refl) (λ t. refl)
  kept-profile (powers on) = cond-elim (λ (x : Device). x.profile ≡ d.profile) (eqb (unfit_device d) 0) _ _ (λ t. refl) (λ t. refl)
  kept-profile (asks room) = refl

-- No mast, whatever happened to it and whatever happens, tells the bus of a packet longer than the packet size of its record.
pub bounded : (d : Device) (ms : List Moment) → Bounded d.profile.plan.basics.packet (seen d ms)
unfolding seen
bounded d [] = tt
bounded d (m ∷ ms) = (within d m, subst (λ (r : Record). Bounded r.plan.basics.packet (seen (after d m) ms)) (kept-profile d m) (bounded (after d m) ms))
