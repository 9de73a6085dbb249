-- Laws of the slots that the proofs cite. Assumes nothing.
use Prim.Native.Nat.{ℕ, ◌≤◌}
use mathlib.Core.Path.{◌≡◌, refl, sym, ap, ◌∙◌}
use mathlib.Core.List.{List, [], ◌∷◌, ◌++◌}
use native.Mathlib.Omega.{arith}
use lib.ListN.{length, take}
use types.Run.{OneOf, miss}
use denote.Enum.Declared.{tag_of}
use Rattle.control_pipe.specs.declared.Told.{Told}
use Rattle.effects.specs.declared.Action.{Action}
use Rattle.effects.specs.declared.Action.TheVariants.{Nothing, Resume, Suspend, Reset, UnstallOut, UnstallIn, StallOut, StallIn, Halt, Unhalt, Address, Write, Refused}
use Rattle.effects.specs.contracts.Action.{the_type}
use Rattle.events.specs.Events.{listed, alone}
use Rattle.actions.specs.declared.Actions.{Actions}
use Rattle.actions.specs.Actions.{consed, laid, packed, slots}

abbrev some : List ℕ
some = 1 ∷ 2 ∷ 3 ∷ 4 ∷ 5 ∷ 6 ∷ 7 ∷ 8 ∷ 9 ∷ 10 ∷ 11 ∷ 12 ∷ []

-- an action stands alone
pub alone-some : (x : Action) → OneOf (1 ∷ 2 ∷ 3 ∷ 4 ∷ 5 ∷ 6 ∷ 7 ∷ 8 ∷ 9 ∷ 10 ∷ 11 ∷ 12 ∷ []) (tag_of the_type x) → alone x ≡ x ∷ []
alone-some Nothing h = absurd (miss some 0 tt h)
alone-some Resume h = refl
alone-some Suspend h = refl
alone-some Reset h = refl
alone-some UnstallOut h = refl
alone-some UnstallIn h = refl
alone-some StallOut h = refl
alone-some StallIn h = refl
alone-some (Halt e) h = refl
alone-some (Unhalt e) h = refl
alone-some (Address a) h = refl
alone-some (Write n) h = refl
alone-some (Refused n) h = refl

laid-append : (xs ys : List Action) (r : Actions) → laid (xs ++ ys) r ≡ laid xs (laid ys r)
laid-append [] ys r = refl
laid-append (x ∷ xs) ys r = ap (consed x) (laid-append xs ys r)

-- what an event tells, laid part by part
pub told-parts : {none a b c : Actions} (first : Told) (act : Action) (second : Told) → none ≡ packed [] → a ≡ laid (listed second) none → b ≡ laid (alone act) a → c ≡ laid (listed first) b
    → c ≡ packed (listed first ++ (alone act ++ listed second))
told-parts first act second e f g h =
    h
    ∙ (ap (laid (listed first)) (g ∙ ap (laid (alone act)) (f ∙ ap (laid (listed second)) e))
    ∙ (ap (laid (listed first)) (sym (laid-append (alone act) (listed second) (packed []))) ∙ sym (laid-append (listed first) (alone act ++ listed second) (packed []))))

-- five actions at most are all in their slots
pub nothing-lost : (xs : List Action) → length xs ≤ 5 → take (length xs) (slots (packed xs)) ≡ xs
nothing-lost [] l = refl
nothing-lost (a ∷ []) l = refl
nothing-lost (a ∷ b ∷ []) l = refl
nothing-lost (a ∷ b ∷ c ∷ []) l = refl
nothing-lost (a ∷ b ∷ c ∷ d ∷ []) l = refl
nothing-lost (a ∷ b ∷ c ∷ d ∷ e ∷ []) l = refl
nothing-lost (a ∷ b ∷ c ∷ d ∷ e ∷ f ∷ xs) l = absurd (omega arith)
