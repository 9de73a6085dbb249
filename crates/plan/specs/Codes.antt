-- The codes by which the kinds of endpoints stand in bytes.
use Rattle.std.specs.Prelude.{ℕ, ◌≡◌, cond, eqb, refl}
use Rattle.plan.specs.declared.Kind.{Kind}
use Rattle.plan.specs.declared.Kind.TheVariants.{Bulk, Interrupt}

abbrev pub kind_code : Kind → ℕ
kind_code Bulk = 0
kind_code Interrupt = 1

abbrev pub kind_of : ℕ → Kind
kind_of n = cond (eqb n 0) Bulk Interrupt

-- the two agree
pub kind_back : (x : Kind) → kind_of (kind_code x) ≡ x
kind_back Bulk = refl
kind_back Interrupt = refl
