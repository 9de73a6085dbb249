-- A loop that places a list part by part: what is still to be placed, at the next place, gives what is to stand there in the
-- end. Assumes nothing.
use Prim.Native.Nat.{ℕ, ◌+◌, ◌≤◌}
use mathlib.Core.Path.{◌≡◌, refl, sym, subst, ◌∙◌}
use mathlib.Core.List.{List, [], ◌++◌}
use native.Mathlib.Omega.{arith}
use lib.ListN.{length, length-append}
use Rattle.common.specs.Bytes.{placed}
use Rattle.common.proofs.Laws.{placed-nil, placed-more, length-placed}

-- d₀ and `at`: the list as it came and the first place. d and p: the list now and the next place.
pub record Pending {A : Type 0} (whole d₀ : List A) (at : ℕ) (rest d : List A) (p : ℕ) : Type 0 where
  pub room : at + length whole ≤ length d₀
  pub stop : p + length rest ≡ at + length whole
  pub same : placed d p rest ≡ placed d₀ at whole
  pub long : length d ≡ length d₀

module _ {A : Type 0} {whole d₀ : List A} {at : ℕ} where
  pub pending-start : {p : ℕ} → p ≡ at → at + length whole ≤ length d₀ → Pending whole d₀ at whole d₀ p
  pending-start e l = record { room = l; stop = rw e; same = rw e; long = refl }

  -- what is left, said in another way
  pub pending-as : {r s d : List A} {p : ℕ} → r ≡ s → Pending whole d₀ at r d p → Pending whole d₀ at s d p
  pending-as {r} {s} {d} {p} e h = subst (λ (x : List A). Pending whole d₀ at x d p) e h

  -- there is room for the next part
  pub pending-room : (s t : List A) {d : List A} {p : ℕ} → Pending whole d₀ at (s ++ t) d p → p + length s ≤ length d
  pending-room s t h = omega (arith, h.room, h.stop, h.long, length-append s t)

  -- the next part is placed
  pub pending-turn : (s t : List A) {d d' : List A} {p q : ℕ} → Pending whole d₀ at (s ++ t) d p → d' ≡ placed d p s → q ≡ p + length s → Pending whole d₀ at t d' q
  pending-turn s t {d} {d'} {p} {q} h e k =
      let n = length-append s t in
      let l : p + length s + length t ≤ length d = omega (arith, h.room, h.stop, h.long, n) in
      let m : p + length s ≤ length d = omega arith in
      record {
        room = h.room;
        stop = omega (arith, h.stop, n, k);
        same = rw (e, k) (placed-more d s t p l ∙ h.same);
        long = rw e (length-placed d s p m) ∙ h.long;
      }

  -- nothing is left
  pub pending-end : {d : List A} {p : ℕ} → Pending whole d₀ at [] d p → (d ≡ placed d₀ at whole) × (p ≡ at + length whole)
  pending-end {d} {p} h = (sym (placed-nil d p) ∙ h.same, omega (arith, h.stop))
