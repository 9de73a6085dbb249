-- What it is for a promise to settle an outcome: any two that it allows are equal. Assumes nothing.
use mathlib.Core.Path.{◌≡◌, ◌∙◌, sym, ap₂}

-- of one call (lifetimes κs, arguments a) any two outcomes that the promise allows, an answer and the parameters at exit,
-- look the same to `see`, which picks the answer and each lent list
abbrev pub Once : {K : Type 0} {A X S : K → Type 0} {B : Type 0} → ((κs : K) → A κs → X κs → S κs → Type 0) → ((κs : K) → X κs → S κs → B) → Type 0
Once {K} {A} {X} {S} promise see = (κs : K) (a : A κs) (x y : X κs) (s t : S κs) → promise κs a x s → promise κs a y t → see κs x s ≡ see κs y t

-- the one law: what equals one thing is equal
pub equal : {B : Type 0} {x y z : B} → x ≡ z → y ≡ z → x ≡ y
equal p q = p ∙ sym q

-- an answer and a lent list
pub equals : {B C : Type 0} {x y z : B} {u v w : C} → x ≡ z → u ≡ w → y ≡ z → v ≡ w → ◌≡◌ {A = B × C} (x, u) (y, v)
equals {B} {C} p q r s = ap₂ (λ (b : B) (c : C). (b, c)) (equal p r) (equal q s)
