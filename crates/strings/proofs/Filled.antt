-- What a person fills in is what is read: the string of the language added last, every other string as it was, the languages in
-- the order they were added. Assumes nothing.
use Prim.Native.Nat.{ℕ, ◌+◌, ◌-◌, ◌≤◌, ◌<◌}
use mathlib.Core.Bool.{Bool, true, false}
use mathlib.Core.Path.{◌≡◌, refl, ap, ◌∙◌}
use mathlib.Core.List.{List, [], ◌∷◌, ◌++◌, map}
use native.Mathlib.Numerals.{add-one}
use native.Mathlib.Omega.{arith}
use borrow.Author.Tests.{ne_eqb, lt-ltb, le-ltb, eqb-true, eqb-false}
use lib.Dec.{eqb}
use lib.ListN.{length, take, set}
use lib.Seq.{take-append_seam, get_or-set_same, get_or-set_other, take-suc-set}
use Rattle.std.specs.Prelude.{Some}
use Rattle.std.proofs.lemmas.List.{map-append}
use Rattle.common.specs.Bytes.{placed}
use Rattle.record.specs.Sizes.{names, language_room, unit_room}
use Rattle.record.specs.Filling.{name_of, language_at, text_at, started, with_text, with_name, with_language, with_string}
use Rattle.record.specs.declared.Name.{Name}
use Rattle.record.specs.declared.Name.TheVariants.{Manufacturer, Product, Serial}
use Rattle.record.specs.declared.Text.{Text}
use Rattle.record.specs.declared.Language.{Language}
use Rattle.record.specs.declared.Record.{Record}
use Rattle.limits.specs.Limits.{id_of}
use Rattle.descriptor.specs.Device.{spoken}
use Rattle.strings.specs.Strings.{text_of}

-- every record of the code has these lengths
pub record Shaped (r : Record) : Type 0 where
  pub languages : length r.languages ≡ language_room
  pub names : (i : ℕ) → i < language_room → length (language_at i r).names ≡ names

name_below : (x : Name) → name_of x < names
name_below Manufacturer = omega arith
name_below Product = omega arith
name_below Serial = omega arith

-- a string of at most 31 units that was filled in
text-here : (us : List ℕ) (t : Text) → length us ≤ unit_room → text_of (with_text us t) ≡ Some us
unfolding placed
text-here us t short =
    let z : eqb (length us + 1) 0 ≡ false = ne_eqb (length us + 1) 0 (λ e. omega arith) in
    let k : length us + 1 - 1 ≡ length us = omega arith in
    rw (le-ltb unit_room (length us) short) (rw (z, k) (ap (λ (l : List ℕ). Some l) (take-append_seam us _)))

-- a string of at most 31 units, given to a record with 1 to 4 languages
module _ (name : Name) (us : List ℕ) (r : Record) (s : Shaped r) (one : 1 ≤ r.plan.languages) (few : r.plan.languages ≤ language_room) where
  place : ℕ
  place = r.plan.languages - 1

  below : place < language_room
  unfolding place
  below = omega arith

  put : with_string name us r ≡ record r { languages = set r.languages place (with_name (name_of name) us (language_at place r)) }
  unfolding place
  put =
      let n = r.plan.languages in
      let z : eqb n 0 ≡ false = ne_eqb n 0 (λ e. omega arith) in
      rw (z, le-ltb language_room n few)

  old : Language
  old = language_at place r

  there : language_at place (with_string name us r) ≡ with_name (name_of name) us old
  unfolding old
  there = let l : place < length r.languages = omega (arith, s.languages, below) in rw put (get_or-set_same r.languages place (with_name (name_of name) us (language_at place r)) _ l)

  -- .. is read back
  pub string-reads : length us ≤ unit_room → text_of (text_at (name_of name) (language_at (r.plan.languages - 1) (with_string name us r))) ≡ Some us
  unfolding place old
  string-reads short =
      let l : name_of name < length (language_at (r.plan.languages - 1) r).names = omega (arith, s.names (r.plan.languages - 1) below, name_below name) in
      ap (λ (x : Language). text_of (text_at (name_of name) x)) there
      ∙ (ap text_of (get_or-set_same (language_at (r.plan.languages - 1) r).names (name_of name) (with_text us (text_at (name_of name) (language_at (r.plan.languages - 1) r))) _ l) ∙ text-here us (text_at (name_of name) (language_at (r.plan.languages - 1) r)) short)

  -- .. and leaves every other string as it was
  pub others-read : (i other : ℕ) → (i ≡ r.plan.languages - 1 → other ≡ name_of name → ⊥) → text_at other (language_at i (with_string name us r)) ≡ text_at other (language_at i r)
  unfolding place old
  others-read i other ne = at (eqb i (r.plan.languages - 1)) refl
    where
      at : (b : Bool) → eqb i (r.plan.languages - 1) ≡ b → text_at other (language_at i (with_string name us r)) ≡ text_at other (language_at i r)
      at true e =
          let k = eqb-true i (r.plan.languages - 1) e in
          rw k (ap (text_at other) there ∙ get_or-set_other (language_at (r.plan.languages - 1) r).names (name_of name) other (with_text us (text_at (name_of name) (language_at (r.plan.languages - 1) r))) _ (ne k))
      at false e =
          let k : i ≡ r.plan.languages - 1 → ⊥ = eqb-false i (r.plan.languages - 1) e in
          let same : language_at i (with_string name us r) ≡ language_at i r = rw put (get_or-set_other r.languages (r.plan.languages - 1) i (with_name (name_of name) us (language_at (r.plan.languages - 1) r)) _ k) in
          ap (text_at other) same

-- a language given to a record with fewer than 4 stands behind those that were there
pub language-reads : (id : ℕ) (r : Record) → Shaped r → r.plan.languages < language_room
    → map id_of (spoken (with_language id r)) ≡ map id_of (spoken r) ++ (id ∷ [])
language-reads id r s h =
    let k : r.plan.languages < length r.languages = omega (arith, s.languages) in
    rw (lt-ltb r.plan.languages language_room h, add-one, take-suc-set r.languages r.plan.languages (started id (language_at r.plan.languages r)) k) (map-append id_of (take r.plan.languages r.languages) (started id (language_at r.plan.languages r) ∷ []))
