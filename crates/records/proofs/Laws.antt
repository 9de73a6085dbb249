-- Bytes that are joined by "or" are all 0 if that is 0. Assumes nothing.
use Prim.Native.Nat.{ℕ, ◌+◌, ◌≤◌}
use mathlib.Core.Bool.{Bool, true, false, ◌&&◌}
use mathlib.Core.Path.{◌≡◌, refl, sym, ap, ap₂, ◌∙◌}
use mathlib.Core.List.{List, [], ◌∷◌}
use native.Mathlib.Omega.{arith}
use borrow.Author.Tests.{eq-eqb, ne_eqb, eqb-true, eqb-false}
use lib.Dec.{eqb}
use lib.Bits.{bit_and, bit_or, or_add_and, and_le_l, and_le_r}
use Rattle.std.specs.List.{fold}
use Rattle.common.specs.Lists.{every}
use Rattle.records.specs.Records.{is_zero}

and-true : (b : Bool) → b && true ≡ b
and-true true = refl
and-true false = refl

or-none : (a b : ℕ) → bit_or a b ≡ 0 → (a ≡ 0) × (b ≡ 0)
or-none a b e =
    let s : bit_or a b + bit_and a b ≡ a + b = or_add_and a b in
    let l : bit_and a b ≤ a = and_le_l a b in
    let r : bit_and a b ≤ b = and_le_r a b in
    (omega (arith, e), omega (arith, e))

-- one byte more
seen-next : (seen x : ℕ) → eqb (bit_or seen x) 0 ≡ (eqb seen 0 && eqb x 0)
seen-next seen x = by (eqb seen 0) refl (eqb x 0) refl
  where
    by : (s : Bool) → eqb seen 0 ≡ s → (t : Bool) → eqb x 0 ≡ t → eqb (bit_or seen x) 0 ≡ (eqb seen 0 && eqb x 0)
    by true e true k =
        let z : bit_or seen x ≡ 0 = ap₂ (λ (i j : ℕ). bit_or i j) (eqb-true seen 0 e) (eqb-true x 0 k) in
        rw (e, k, eq-eqb (bit_or seen x) 0 z) refl
    by true e false k = rw (e, k, ne_eqb (bit_or seen x) 0 (λ z. eqb-false x 0 k (or-none seen x z).1)) refl
    by false e t k = rw (e, ne_eqb (bit_or seen x) 0 (λ z. eqb-false seen 0 e (or-none seen x z).0)) refl

seen-all : (seen : ℕ) (l : List ℕ) → eqb (fold bit_or seen l) 0 ≡ (eqb seen 0 && every is_zero l)
unfolding every
seen-all seen [] = sym (and-true (eqb seen 0))
seen-all seen (x ∷ l) = seen-all (bit_or seen x) l ∙ (ap (λ (b : Bool). b && every is_zero l) (seen-next seen x) ∙ joined (eqb seen 0) (eqb x 0) (every is_zero l))
  where
    joined : (a b c : Bool) → (a && b) && c ≡ a && (b && c)
    joined true b c = refl
    joined false b c = refl

pub none_seen : (l : List ℕ) → eqb (fold bit_or 0 l) 0 ≡ every is_zero l
none_seen l = seen-all 0 l
