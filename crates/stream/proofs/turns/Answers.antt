use Rattle.std.proofs.Common.{◌≡◌, ℕ, Bool, true, false, ◌+◌, ◌/◌, ◌%◌, min, cond, eqb, eqb-true, refl, ap, ◌∙◌, arith}
use Rattle.std.proofs.lemmas.Bool.{eqb-false}
use Rattle.stream.specs.Stream.{turns_by}
use Rattle.stream.proofs.turns.Goals as goal

one : (n : ℕ) → min 1 n ≡ cond (eqb n 0) 0 1
one n = by (eqb n 0) refl
  where
    by : (b : Bool) → eqb n 0 ≡ b → min 1 n ≡ cond b 0 1
    by true e = let z : n ≡ 0 = eqb-true n 0 e in omega (arith, z)
    by false e = let z : n ≡ 0 → ⊥ = eqb-false n 0 e in omega (arith, z)

pub returns : goal.returns
unfolding turns_by
returns c = let e = c.args.events in c.min.ensures ∙ ap (min (c.args.trace / 82)) (c.div_ceil.ensures ∙ ap (λ (k : ℕ). e / 80 + k) (one (e % 80)))
