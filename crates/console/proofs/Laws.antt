-- Laws of zero bytes at the end of a list. Assumes nothing.
use Rattle.std.proofs.Common.{◌≡◌, ◌≢◌, ℕ, zero, suc, Bool, true, false, ◌+◌, ◌<◌, ◌≤◌, ◌&&◌, List, [], ◌∷◌, length, get_or, eqb, ap, ◌∙◌, refl, arith}
use Rattle.std.proofs.lemmas.Bool.{cond-false, ne_eqb}
use Rattle.console.specs.Used.{used}

off : (x y : Bool) → y ≡ false → x && y ≡ false
off true y e = e
off false y e = refl

pub used-none : (s : List ℕ) → ((j : ℕ) → j < length s → get_or s j 0 ≡ 0) → used s ≡ 0
unfolding used
used-none [] f = refl
used-none (b ∷ s) f =
    let h : b ≡ 0 = f 0 (omega arith) in
    let t : used s ≡ 0 = used-none s (λ j l. f (suc j) (omega (arith, l))) in
    rw (h, t) refl

pub used-last : (s : List ℕ) (i : ℕ) → i < length s → get_or s i 0 ≢ 0 → ((j : ℕ) → i + 1 ≤ j → j < length s → get_or s j 0 ≡ 0) → used s ≡ i + 1
unfolding used
used-last [] i l n f = absurd (omega (arith, l))
used-last (b ∷ s) zero l n f =
    let t : used s ≡ 0 = used-none s (λ j k. f (suc j) (omega arith) (omega (arith, k))) in
    rw (t, ne_eqb b 0 n) refl
used-last (b ∷ s) (suc i) l n f =
    let t : used s ≡ i + 1 = used-last s i (omega (arith, l)) n (λ j k m. f (suc j) (omega (arith, k)) (omega (arith, m))) in
    let z : eqb (used s) 0 ≡ false = ne_eqb (used s) 0 (λ e. omega (arith, e, t)) in
    let e : i + 1 + 1 ≡ suc i + 1 = omega arith in
    cond-false _ _ _ (off (eqb b 0) (eqb (used s) 0) z) ∙ (ap (λ (k : ℕ). k + 1) t ∙ e)
