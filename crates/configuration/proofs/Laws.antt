-- Laws of the configuration that the proofs cite. Assumes nothing.
use Prim.Native.Nat.{ℕ, suc, ◌+◌, ◌≤◌, ◌<◌}
use mathlib.Core.Bool.{Bool, true, false, cond}
use mathlib.Core.Path.{◌≡◌, refl, ap, ◌∙◌}
use mathlib.Core.List.{List, [], ◌∷◌, ◌++◌}
use native.Mathlib.Omega.{arith}
use borrow.Author.Tests.{eq-eqb, ne_eqb}
use lib.Dec.{eqb}
use Rattle.std.specs.List.{count_by, filter}
use Rattle.std.proofs.lemmas.List.Sums.{length-filter}
use lib.ListN.{length, get_or, drop, length-append, drop_of_length-le}
use native.Mathlib.Numerals.{add-one}
use Rattle.std.proofs.Math.Seq.{drop-cons}
use Rattle.common.specs.Bytes.{placed}
use Rattle.common.proofs.Laws.{cond-elim, placed-more}
use Rattle.plan.specs.declared.Plan.{Plan}
use Rattle.plan.specs.declared.Endpoint.{Endpoint}
use Rattle.plan.specs.declared.Interface.{Interface}
use Rattle.plan.specs.declared.Kind.TheVariants.{Bulk}
use Rattle.configuration.specs.Configuration.{endpoint_bytes, owned, joined, interface_bytes, interface_set, interface_sets, head_bytes, body_bytes, configuration_bytes}
use Rattle.configuration.specs.Adding.{Added}

-- the endpoints of an interface, one by one
module _ (number : ℕ) (e : Endpoint) where
  pub owned-here : (es : List Endpoint) → e.interface ≡ number → owned number (e ∷ es) ≡ e ∷ owned number es
  unfolding owned
  owned-here es h = rw (eq-eqb e.interface number h)

  pub owned-other : (es : List Endpoint) → (e.interface ≡ number → ⊥) → owned number (e ∷ es) ≡ owned number es
  unfolding owned
  owned-other es h = rw (ne_eqb e.interface number h)

  pub owned-split : (es : List Endpoint) → owned number (e ∷ es) ≡ owned number (e ∷ []) ++ owned number es
  unfolding owned
  owned-split es = pick (eqb e.interface number)
    where
      pick : (b : Bool) → cond b (e ∷ owned number es) (owned number es) ≡ cond b (e ∷ []) [] ++ owned number es
      pick true = refl
      pick false = refl

pub owned-nil : (number : ℕ) → owned number [] ≡ []
unfolding owned
owned-nil number = refl

pub owned-most : (number : ℕ) (es : List Endpoint) → length (owned number es) ≤ length es
unfolding owned
owned-most number [] = omega arith
owned-most number (e ∷ es) = let h = owned-most number es in cond-elim (λ (l : List Endpoint). length l ≤ suc (length es)) (eqb e.interface number) _ _ (λ t. omega arith) (λ t. omega arith)

-- a turn of the loops over endpoints and interfaces: what is left is the next part, and what is left after it
module _ (number : ℕ) (l : List Endpoint) (j : ℕ) (d : Endpoint) (h : j < length l) where
  pub own-left : (get_or l j d).interface ≡ number → joined (owned number (drop j l)) ≡ endpoint_bytes (get_or l j d) ++ joined (owned number (drop (j + 1) l))
  unfolding joined
  own-left e = rw (add-one, drop-cons l j d h, owned-here number (get_or l j d) (drop (suc j) l) e)

  pub other-left : ((get_or l j d).interface ≡ number → ⊥) → joined (owned number (drop j l)) ≡ joined (owned number (drop (j + 1) l))
  other-left e = rw (add-one, drop-cons l j d h, owned-other number (get_or l j d) (drop (suc j) l) e)

pub none-left : (number : ℕ) (l : List Endpoint) (j : ℕ) → length l ≤ j → joined (owned number (drop j l)) ≡ []
unfolding joined
none-left number l j h = rw (drop_of_length-le l h, owned-nil number)

pub set-left : (es : List Endpoint) (l : List Interface) (i : ℕ) (d : Interface) → i < length l
    → interface_sets es i (drop i l) ≡ interface_set es i (get_or l i d) ++ interface_sets es (i + 1) (drop (i + 1) l)
unfolding interface_sets
set-left es l i d h = rw (drop-cons l i d h) (rw add-one refl)

pub no-set-left : (es : List Endpoint) (l : List Interface) (i n : ℕ) → length l ≤ i → interface_sets es n (drop i l) ≡ []
unfolding interface_sets
no-set-left es l i n h = rw (drop_of_length-le l h)

-- an interface and its endpoints, placed one behind the other
pub length-set : (es : List Endpoint) (number : ℕ) (x : Interface) → length (interface_set es number x) ≡ 9 + length (joined (owned number es))
unfolding interface_set
length-set es number x = omega arith

pub set-added : (es : List Endpoint) (number : ℕ) (x : Interface) {d d₁ d₂ : List ℕ} {at r : ℕ} → at + length (interface_set es number x) ≤ length d
    → d₁ ≡ placed d at (interface_bytes number (length (owned number es)) x) → Added r d₂ (joined (owned number es)) d₁ (at + 9) → Added r d₂ (interface_set es number x) d at
unfolding interface_set
set-added es number x {d} {d₁} {d₂} {at} {r} l e h =
    let t = joined (owned number es) in
    let m : at + 9 + length t ≤ length d = omega arith in
    record { next = omega (arith, h.next); buffer = h.buffer ∙ rw e (placed-more d (interface_bytes number (length (owned number es)) x) t at m) }

pub owned-count : (number : ℕ) (e : Endpoint) (es : List Endpoint) → length (owned number (e ∷ es)) ≡ length (owned number (e ∷ [])) + length (owned number es)
owned-count number e es = ap length (owned-split number e es) ∙ length-append (owned number (e ∷ [])) (owned number es)

-- what a list holds past its end
abbrev pub blank : Endpoint
blank = record { address = record { 0 = 0 }; kind = Bulk; size = 0; interval = 0; interface = 0 }

abbrev pub nowhere : Interface
nowhere = record { class = 0; subclass = 0; protocol = 0 }

-- the head of a configuration and its body
pub configuration-placed : (p : Plan) (d d₁ d₂ : List ℕ) (at total : ℕ) → total ≡ 9 + length (body_bytes p) → at + total ≤ length d
    → d₁ ≡ placed d at (head_bytes p total) → d₂ ≡ placed d₁ (at + 9) (body_bytes p) → d₂ ≡ placed d at (configuration_bytes p)
unfolding configuration_bytes
configuration-placed p d d₁ d₂ at total k l e f =
    let m : at + 9 + length (body_bytes p) ≤ length d = omega arith in
    f ∙ rw e (placed-more d (head_bytes p total) (body_bytes p) at m) ∙ ap (λ (x : ℕ). placed d at (head_bytes p x ++ body_bytes p)) k

-- the endpoints of an interface as the library picks and counts them
pub owned-filtered : (number : ℕ) (es : List Endpoint) → owned number es ≡ filter (λ (e : Endpoint). eqb e.interface number) es
unfolding owned
owned-filtered number [] = refl
owned-filtered number (e ∷ es) = rw (owned-filtered number es) refl

pub owned-counted : (number : ℕ) (es : List Endpoint) → length (owned number es) ≡ count_by (λ (e : Endpoint). eqb e.interface number) es
owned-counted number es = ap length (owned-filtered number es) ∙ length-filter (λ (e : Endpoint). eqb e.interface number) es
