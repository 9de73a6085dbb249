-- No string of a good record is longer than its units allow. Assumes nothing.
use Prim.Native.Nat.{ℕ, zero, suc, ◌+◌, ◌-◌, ◌*◌, ◌≤◌}
use mathlib.Core.Bool.{Bool, true, false, cond}
use mathlib.Core.Path.{◌≡◌, refl}
use mathlib.Core.List.{List, [], ◌∷◌, map, reverse_aux}
use native.Mathlib.Omega.{arith}
use borrow.Author.Tests.{leb-true}
use lib.Dec.{eqb}
use lib.ListN.{length, get_or, take}
use Rattle.std.specs.Prelude.{Option, Some, None, option_map}
use Rattle.std.specs.List.{find}
use Rattle.std.proofs.lemmas.List.{length-map}
use Rattle.common.specs.Lists.{between, every}
use Rattle.common.proofs.Laws.{cond-elim, and_left, and_right, at_most}
use Rattle.record.specs.Sizes.{names, unit_room}
use Rattle.record.specs.Filling.{text_at}
use Rattle.record.specs.declared.Text.{Text}
use Rattle.record.specs.declared.Language.{Language}
use Rattle.record.specs.declared.Record.{Record}
use Rattle.limits.specs.Limits.{id_of, text_fine, language_fine, languages_fine}
use Rattle.limits.proofs.Good.{Tongues, tongue-facts}
use Rattle.descriptor.specs.Device.{spoken}
use Rattle.strings.specs.Strings.{text_bytes, language_of, text_of, name_at, units_of, string_of}
use Rattle.strings.proofs.Laws.{length-text}

abbrev Short : Option (List ℕ) → Type 0
Short None = Unit {0}
Short (Some us) = length us ≤ unit_room

text-short : (t : Text) → text_fine t ≡ true → Short (text_of t)
text-short t f =
    let h : t.len ≤ unit_room + 1 = leb-true t.len (unit_room + 1) f in
    let k : length (take (t.len - 1) t.units) ≤ t.len - 1 = at_most (t.len - 1) t.units in
    cond-elim Short (eqb t.len 0) None (Some (take (t.len - 1) t.units)) (λ e. tt) (λ e. omega (arith, h, k))

-- what holds of each element, and of the default, holds at every place, and of the element that is found
module _ {A : Type 0} (f : A → Bool) where
  every-get : (xs : List A) (i : ℕ) (d : A) → f d ≡ true → every f xs ≡ true → f (get_or xs i d) ≡ true
  unfolding every
  every-get [] i d t e = t
  every-get (x ∷ xs) zero d t e = and_left (f x) (every f xs) e
  every-get (x ∷ xs) (suc i) d t e = every-get xs i d t (and_right (f x) (every f xs) e)

  every-reverse : (xs ys : List A) → every f xs ≡ true → every f ys ≡ true → every f (reverse_aux xs ys) ≡ true
  unfolding every
  every-reverse [] ys a b = b
  every-reverse (x ∷ xs) ys a b = every-reverse xs (x ∷ ys) (and_right (f x) (every f xs) a) (rw (and_left (f x) (every f xs) a) b)

  every-find : (p : A → Bool) (xs : List A) (x : A) → find p xs ≡ Some x → every f xs ≡ true → f x ≡ true
  unfolding every
  every-find p [] x e a = cc
  every-find p (y ∷ ys) x e a = at (p y) e (λ t. every-find p ys x t (and_right (f y) (every f ys) a))
    where
      at : (b : Bool) → cond b (Some y) (find p ys) ≡ Some x → (find p ys ≡ Some x → f x ≡ true) → f x ≡ true
      at true t later = let k : y ≡ x = cc in rw (← k) (and_left (f y) (every f ys) a)
      at false t later = later t

module _ (r : Record) (fine : languages_fine r.plan.languages r.languages ≡ true) where
  facts : Tongues r.plan.languages r.languages
  facts = tongue-facts r.plan.languages r.languages fine

  name-short : (name id : ℕ) → Short (name_at name (language_of id (spoken r)))
  unfolding every
  name-short name id = at (language_of id (spoken r)) refl
    where
      at : (o : Option Language) → language_of id (spoken r) ≡ o → Short (name_at name o)
      at None e = tt
      at (Some l) e =
          let f : language_fine l ≡ true = every-find language_fine (λ l. eqb (id_of l) id) (reverse_aux (spoken r) []) l e (every-reverse language_fine (spoken r) [] facts.lengths refl) in
          text-short (text_at name l) (every-get text_fine l.names name _ refl f)

  units-short : (number language : ℕ) → Short (units_of (spoken r) number language)
  unfolding units_of
  units-short number language =
      let l : length (map id_of (spoken r)) ≤ r.plan.languages = rw (length-map (spoken r) id_of) (at_most r.plan.languages r.languages) in
      cond-elim Short (eqb number 0) _ _ (λ e. omega (arith, l, facts.few)) (λ e. cond-elim Short (between 1 names number) _ _ (λ e. name-short (number - 1) language) (λ e. tt))

  -- a string descriptor has at most 2 + 2 * 31 bytes
  pub string-short : (number language : ℕ) (b : List ℕ) → string_of r number language ≡ Some b → length b ≤ 2 + 2 * unit_room
  unfolding string_of
  string-short number language b e = at (units_of (spoken r) number language) (units-short number language) e
    where
      at : (o : Option (List ℕ)) → Short o → option_map text_bytes o ≡ Some b → length b ≤ 2 + 2 * unit_room
      at None s e = cc
      at (Some us) s e = let k : text_bytes us ≡ b = cc in rw (← k, length-text us) (omega (arith, s))
