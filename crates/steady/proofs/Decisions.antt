-- What chapter 9 can decide, of an IN request and of an OUT request, each as one principle: what holds of these decisions holds of the
-- one that is taken. Assumes nothing.
use Prim.Native.Nat.{ℕ, ◌/◌, ◌≤◌, ◌<◌}
use mathlib.Core.Bool.{Bool, true, false, ◌&&◌}
use mathlib.Core.Path.{◌≡◌, refl}
use native.Mathlib.Omega.{arith}
use borrow.Author.Tests.{leb-true, ltb-true, eqb-true}
use lib.Dec.{eqb, leb, ltb}
use Rattle.std.specs.Prelude.{Option, Some, None}
use Rattle.common.specs.Lists.{between}
use Rattle.common.proofs.Laws.{cond-elim, and_right}
use Rattle.control.specs.declared.BusAddress.{BusAddress}
use Rattle.control.specs.declared.EndpointAddress.{EndpointAddress}
use Rattle.control.specs.declared.RequestType.{RequestType}
use Rattle.control.specs.declared.RequestType.TheVariants.{Standard, Class, Vendor, Reserved as ReservedType}
use Rattle.control.specs.declared.Recipient.{Recipient}
use Rattle.control.specs.declared.Recipient.TheVariants.{Device, Interface, Endpoint, Other, Reserved}
use Rattle.control.specs.declared.Request.{Request}
use Rattle.control_pipe.specs.declared.Pipe.{Pipe}
use Rattle.requests.specs.Sizes.{tile_size}
use Rattle.requests.specs.declared.State.{State}
use Rattle.requests.specs.declared.State.TheVariants.{Default, Addressed, Configured, Suspend}
use Rattle.requests.specs.declared.Kept.{Kept}
use Rattle.requests.specs.declared.Effect.{Effect}
use Rattle.requests.specs.declared.Effect.TheVariants.{Nothing, Wakeup, Halt, Unhalt, Address, Turn}
use Rattle.requests.specs.declared.Decision.{Decision}
use Rattle.requests.specs.declared.Decision.TheVariants.{Status, Byte, Describe, Tiles, Accept}
use Rattle.requests.specs.Requests.{endpoint_of, standard_in, vendor_in, decide_in, deconfigured, feature, device_out, standard_out, decide_out}
use Rattle.live.specs.Live.{awake}

module _ (P : Option Decision → Type 0) (stall : P None) (k : Kept) (q : Request) where
  -- ---- an IN request: a status, a byte, a descriptor, or tiles from inside the book

  module _ (p : Pipe) (book : ℕ) (status : (n : ℕ) → P (Some (Status n))) (byte : (n : ℕ) → P (Some (Byte n))) (describe : P (Some Describe)) (tiles : (start : ℕ) → start ≤ book → P (Some (Tiles start))) where
    standard-elim : (w : Recipient) → P (standard_in w k p q)
    standard-elim Device =
        cond-elim P (eqb q.request 0) _ _ (λ e. status _) (λ e. cond-elim P (eqb q.request 6) _ _ (λ e. describe) (λ e. cond-elim P (eqb q.request 8) _ _ (λ e. byte _) (λ e. stall)))
    standard-elim Interface =
        cond-elim P (eqb q.request 0) _ _ (λ e. status 0) (λ e. cond-elim P (eqb q.request 10) _ _ (λ e. cond-elim P (leb q.index 255) _ _ (λ e. byte 0) (λ e. stall)) (λ e. stall))
    standard-elim Endpoint = cond-elim P (eqb q.request 0) _ _ (λ e. status _) (λ e. stall)
    standard-elim Other = stall
    standard-elim Reserved = stall

    vendor-elim : (w : Recipient) → P (vendor_in w q book)
    vendor-elim Device =
        cond-elim P (eqb q.request 1 && eqb q.index 0) _ _
        (λ e. cond-elim P (ltb q.value (book / tile_size)) _ _ (λ e. let l : q.value < book / 16 = ltb-true _ _ e in tiles _ (omega arith)) (λ e. stall)) (λ e. stall)
    vendor-elim Interface = stall
    vendor-elim Endpoint = stall
    vendor-elim Other = stall
    vendor-elim Reserved = stall

    pub decide-in-elim : (t : RequestType) → P (decide_in t k p q book)
    decide-in-elim Standard = standard-elim q.recipient
    decide-in-elim Class = stall
    decide-in-elim Vendor = vendor-elim q.recipient
    decide-in-elim ReservedType = stall

  -- ---- an OUT request: an effect. An address is 127 at most, and the request is SET_ADDRESS; no state is Suspend

  module _ (nothing : P (Some (Accept Nothing))) (wake : (on : Bool) → P (Some (Accept (Wakeup on)))) (halt : (e : EndpointAddress) → P (Some (Accept (Halt e)))) (unhalt : (e : EndpointAddress) → P (Some (Accept (Unhalt e))))
      (address : (a : BusAddress) → a.0 ≤ 127 → q.kind ≡ Standard → q.recipient ≡ Device → q.request ≡ 5 → q.value ≡ a.0 → P (Some (Accept (Address a))))
      (turn : (s : State) → awake s ≡ true → P (Some (Accept (Turn s)))) where
    feature-elim : (n value : ℕ) (e : Effect) → P (Some (Accept e)) → P (feature n value e)
    feature-elim n value e f = cond-elim P (eqb value n) _ _ (λ t. f) (λ t. stall)

    deconfigured-elim : (s : State) → P (Some (Accept (deconfigured s)))
    deconfigured-elim Default = nothing
    deconfigured-elim Addressed = turn Addressed refl
    deconfigured-elim Configured = turn Addressed refl
    deconfigured-elim Suspend = turn Addressed refl

    device-elim : q.kind ≡ Standard → q.recipient ≡ Device → P (device_out k.state q.request q.value)
    device-elim t w =
        cond-elim P (eqb q.request 1) _ _ (λ e. feature-elim 1 q.value (Wakeup false) (wake false))
        (λ e. cond-elim P (eqb q.request 3) _ _ (λ e. feature-elim 1 q.value (Wakeup true) (wake true))
        (λ e. cond-elim P (eqb q.request 5) _ _
        (λ e. cond-elim P (between 1 127 q.value) _ _
        (λ l. address (record { 0 = q.value }) (leb-true q.value 127 (and_right (leb 1 q.value) (leb q.value 127) l)) t w (eqb-true q.request 5 e) refl) (λ l. stall))
        (λ e. cond-elim P (eqb q.request 9) _ _
        (λ e. cond-elim P (eqb q.value 1) _ _ (λ e. turn Configured refl) (λ e. cond-elim P (eqb q.value 0) _ _ (λ e. deconfigured-elim k.state) (λ e. stall))) (λ e. stall))))

    out-standard-elim : (w : Recipient) → q.kind ≡ Standard → q.recipient ≡ w → P (standard_out w k q)
    out-standard-elim Device t w = device-elim t w
    out-standard-elim Interface t w = cond-elim P (eqb q.request 11 && eqb q.value 0 && leb q.index 255) _ _ (λ e. nothing) (λ e. stall)
    out-standard-elim Endpoint t w =
        cond-elim P (eqb q.request 1) _ _ (λ e. feature-elim 0 q.value (Unhalt (endpoint_of q.index)) (unhalt (endpoint_of q.index)))
        (λ e. cond-elim P (eqb q.request 3) _ _ (λ e. feature-elim 0 q.value (Halt (endpoint_of q.index)) (halt (endpoint_of q.index))) (λ e. stall))
    out-standard-elim Other t w = stall
    out-standard-elim Reserved t w = stall

    pub decide-out-elim : P (decide_out q.kind k q)
    decide-out-elim = by q.kind refl
      where
        by : (t : RequestType) → q.kind ≡ t → P (decide_out t k q)
        by Standard e = out-standard-elim q.recipient e refl
        by Class e = stall
        by Vendor e = stall
        by ReservedType e = stall
