-- USB 2.0 section 9.6.7: the language list and the strings as lists of their bytes, in the order of their tables. Document 01,
-- modules 2 and 4.
use Rattle.std.specs.Prelude.{ℕ, ◌+◌, ◌-◌, ◌*◌, cond, List, [], ◌∷◌, ◌++◌, map, reverse, eqb, length, take, Option, Some, None, option_map}
use Rattle.std.specs.List.{find}
use Rattle.common.specs.Lists.{between}
use Rattle.record.specs.Sizes.{names}
use Rattle.record.specs.Filling.{text_at}
use Rattle.record.specs.declared.Record.{Record}
use Rattle.record.specs.declared.Language.{Language}
use Rattle.record.specs.declared.Text.{Text}
use Rattle.limits.specs.Limits.{id_of}
use Rattle.descriptor.specs.Device.{word_bytes, spoken}

-- UTF-16 units, little-endian
unfoldable pub unit_bytes : List ℕ → List ℕ
unit_bytes [] = []
unit_bytes (u ∷ us) = word_bytes u ++ unit_bytes us

-- tables 9-15 and 9-16: bLength, bDescriptorType, then language identifiers or the units of a string
unfoldable pub text_bytes : List ℕ → List ℕ
text_bytes us = (2 + 2 * length us) ∷ 3 ∷ unit_bytes us

-- the language of an identifier: the last that has it (no good record has two)
abbrev pub language_of : ℕ → List Language → Option Language
language_of id ls = find (λ l. eqb (id_of l) id) (reverse ls)

-- the units of a string, if there is one
abbrev pub text_of : Text → Option (List ℕ)
text_of t = cond (eqb t.len 0) None (Some (take (t.len - 1) t.units))

-- the name of a language
abbrev pub name_at : ℕ → Option Language → Option (List ℕ)
name_at name None = None
name_at name (Some l) = text_of (text_at name l)

-- section 9.6.7: string 0 lists the languages, 1 to 3 are the names of a language; of the languages that count
unfoldable pub units_of : List Language → ℕ → ℕ → Option (List ℕ)
units_of ls number language =
    cond (eqb number 0) (Some (map id_of ls)) (cond (between 1 names number) (name_at (number - 1) (language_of language ls)) None)

unfoldable pub string_of : Record → ℕ → ℕ → Option (List ℕ)
string_of r number language = option_map text_bytes (units_of (spoken r) number language)
