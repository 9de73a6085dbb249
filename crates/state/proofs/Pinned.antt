-- Each public function's promise settles its outcome. Assumes nothing.
use Prim.Native.Nat.{ℕ}
use mathlib.Core.List.{List}
use Rattle.std.proofs.Common.{◌≡◌, Bool, true, false, refl, sym, ap₂, ◌∙◌, arith}
use Rattle.std.specs.Prelude.{Result, Option, Some, None, MatchOption, ⊤}
use Rattle.common.specs.declared.Refusal.{Refusal}
use Rattle.common.proofs.Once.{Once, equal, equals}
use Rattle.state.specs.declared.Parts.{Parts}
use Rattle.state.specs.State.{Parted, state_coded}
use Rattle.state.proofs.Parts.of.Reads as of
use Rattle.state.proofs.Parts.device.Reads as device
use Rattle.state.proofs.read.Reads as read
use Rattle.state.proofs.keep.Reads as keep
use Rattle.state.proofs.write.Reads as write

-- the bytes of the parts, if there are any
abbrev seen : Option Parts → Option (List ℕ × (List ℕ × List ℕ))
seen None = None
seen (Some p) = Some (p.record.now, (p.live.now, p.buffer.now))

same : (s : List ℕ) (x y : Option Parts)
    → MatchOption x (state_coded s ≡ false) (λ p. Parted p.record.now p.live.now p.buffer.now s)
    → MatchOption y (state_coded s ≡ false) (λ p. Parted p.record.now p.live.now p.buffer.now s)
    → seen x ≡ seen y
same s None None p q = refl
same s None (Some w) p q = absurd (let z : ◌≡◌ {A = Bool} false true = sym p ∙ q.coded in grind (arith, z))
same s (Some v) None p q = absurd (let z : ◌≡◌ {A = Bool} false true = sym q ∙ p.coded in grind (arith, z))
same s (Some v) (Some w) p q =
    ap₂ (λ (a : List ℕ) (b : List ℕ × List ℕ). Some (a, b)) (equal p.profile q.profile) (equals p.live p.buffer q.live q.buffer)

pub of-once : Once {B = Option (List ℕ × (List ℕ × List ℕ))} of.Post (λ κs x s. seen x)
of-once κs a x y s t p q = same _ x y p q

pub device-once : Once device.Post (λ κs x s. x)
device-once κs a x y s t = equal

pub read-once : Once read.Post (λ κs x s. x)
read-once κs a x y s t = equal

pub keep-once : Once keep.Post (λ κs x s. s.1.1.0.now)
keep-once κs a x y s t p q = equal p.0 q.0

pub write-once : Once {B = Result ⊤ Refusal × List ℕ} write.Post (λ κs x s. (x, s.1.0.now))
write-once κs a x y s t p q = equals p.value p.state q.value q.state
