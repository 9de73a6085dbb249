-- Laws of the strings that the proofs cite. Assumes nothing.
use Prim.Native.Nat.{ℕ, ◌+◌, ◌-◌, ◌*◌, ◌≤◌, ◌<◌}
use mathlib.Core.Bool.{false}
use mathlib.Core.Path.{◌≡◌, refl, ap, ◌∙◌}
use mathlib.Core.List.{List, [], ◌∷◌, ◌++◌, map}
use native.Mathlib.Omega.{arith}
use native.Mathlib.Numerals.{add-one}
use borrow.Author.Tests.{ne_eqb, le-leb, lt-leb}
use lib.Dec.{eqb, leb}
use lib.ListN.{length, get_or, drop, drop_of_length-le}
use Rattle.std.proofs.Math.Seq.{drop-cons}
use Rattle.common.specs.Bytes.{placed}
use Rattle.common.proofs.Laws.{and-false, placed-more}
use Rattle.std.specs.Prelude.{Some, None, option_map}
use Rattle.record.specs.Sizes.{names}
use Rattle.record.specs.declared.Record.{Record}
use Rattle.limits.specs.Limits.{id_of}
use Rattle.descriptor.specs.Device.{word_bytes, spoken}
use Rattle.strings.specs.Strings.{unit_bytes, text_bytes, language_of, name_at, units_of, string_of}

-- the units of a string
pub length-units : (us : List ℕ) → length (unit_bytes us) ≡ 2 * length us
unfolding unit_bytes
length-units [] = refl
length-units (u ∷ us) = omega (arith, length-units us)

-- a turn of the loop over words: what is left is the next word, and what is left after it
module _ {A : Type 0} (word : A → ℕ) (ws : List A) (i : ℕ) where
  pub word-left : (x : A) → x ≡ get_or ws i x → i < length ws → unit_bytes (map word (drop i ws)) ≡ word_bytes (word x) ++ unit_bytes (map word (drop (i + 1) ws))
  unfolding unit_bytes
  word-left x e h = rw (drop-cons ws i x h, ← e) (rw add-one refl)

  pub no-word-left : length ws ≤ i → unit_bytes (map word (drop i ws)) ≡ []
  unfolding unit_bytes
  no-word-left h = rw (drop_of_length-le ws h)

-- the head of a text and its units, placed one behind the other
pub length-text : (us : List ℕ) → length (text_bytes us) ≡ 2 + 2 * length us
unfolding text_bytes
length-text us = omega (arith, length-units us)

pub text-placed : (us d d₁ d₂ : List ℕ) (at n : ℕ) → n ≡ length us → at + (2 + 2 * n) ≤ length d
    → d₁ ≡ placed d at ((2 + 2 * n) ∷ 3 ∷ []) → d₂ ≡ placed d₁ (at + 2) (unit_bytes us) → d₂ ≡ placed d at (text_bytes us)
unfolding text_bytes
text-placed us d d₁ d₂ at n k l e f =
    let m : at + 2 + length (unit_bytes us) ≤ length d = omega (arith, length-units us) in
    f ∙ rw e (placed-more d ((2 + 2 * n) ∷ 3 ∷ []) (unit_bytes us) at m) ∙ ap (λ (x : ℕ). placed d at ((2 + 2 * x) ∷ 3 ∷ unit_bytes us)) k

-- the string that a number names
module _ (r : Record) (number language : ℕ) where
  pub string-list : number ≡ 0 → string_of r number language ≡ Some (text_bytes (map id_of (spoken r)))
  unfolding string_of units_of
  string-list e = rw e

  pub string-none : names < number → string_of r number language ≡ None
  unfolding string_of units_of
  string-none h =
      let z : eqb number 0 ≡ false = ne_eqb number 0 (λ k. omega arith) in
      rw (z, lt-leb number names h, and-false (leb 1 number))

  pub string-name : (number ≡ 0 → ⊥) → number ≤ names → string_of r number language ≡ option_map text_bytes (name_at (number - 1) (language_of language (spoken r)))
  unfolding string_of units_of
  string-name h k =
      let l : 1 ≤ number = omega arith in
      rw (ne_eqb number 0 h, le-leb 1 number l, le-leb number names k)
