-- What each way to fill a record makes of it. What has no place spoils a count or a length, which refusal 3 then names.
use Rattle.std.specs.Prelude.{ℕ, ◌+◌, ◌-◌, cond, ◌||◌, List, [], map, ltb, eqb, length, get_or, set, replicate}
use Rattle.common.specs.Bytes.{placed}
use Rattle.plan.specs.declared.Plan.{Plan}
use Rattle.record.specs.declared.Text.{Text}
use Rattle.record.specs.declared.Language.{Language}
use Rattle.record.specs.declared.Record.{Record}
use Rattle.record.specs.declared.Name.{Name}
use Rattle.record.specs.declared.Name.TheVariants.{Manufacturer, Product, Serial}
use Rattle.plan.specs.Sizes.{spoilt}
use Rattle.record.specs.Sizes.{language_room, names, unit_room}

abbrev pub with_languages : ℕ → Plan → Plan
with_languages n p = record p { languages = n }

-- no string, and a language with none
abbrev pub no_text : Text
no_text = record { len = 0; units = replicate unit_room 0 }

abbrev pub no_language : Language
no_language = record { id = 0; names = replicate names no_text }

-- a record with the plan alone
abbrev pub bare : Plan → Record
bare p = record { plan = with_languages 0 p; languages = replicate language_room no_language }

abbrev pub with_plan : Plan → Record → Record
with_plan p r = record r { plan = p }

-- the language at a place, and the string at a place of a language
abbrev pub language_at : ℕ → Record → Language
language_at i r = get_or r.languages i (record { id = 0; names = [] })

abbrev pub text_at : ℕ → Language → Text
text_at name l = get_or l.names name (record { len = 0; units = [] })

-- no string, whose units stay as they are
abbrev pub unsaid : Text → Text
unsaid t = record t { len = 0 }

abbrev pub started : ℕ → Language → Language
started id l = record { id = id; names = map unsaid l.names }

-- a language is added with no string
abbrev pub with_language : ℕ → Record → Record
with_language id r =
    let n = r.plan.languages in
    cond (ltb n language_room)
    (record {
      plan = with_languages (n + 1) r.plan;
      languages = set r.languages n (started id (language_at n r));
    })
    (with_plan (with_languages spoilt r.plan) r)

-- the place of a name among the strings of its language (their numbers are one more)
abbrev pub name_of : Name → ℕ
name_of Manufacturer = 0
name_of Product = 1
name_of Serial = 2

-- a string is filled in; one that is too long spoils its length
abbrev pub with_text : List ℕ → Text → Text
with_text us t =
    cond (ltb unit_room (length us)) (record t { len = spoilt })
    (record { len = length us + 1; units = placed t.units 0 us })

abbrev pub with_name : ℕ → List ℕ → Language → Language
with_name name us l = record l { names = set l.names name (with_text us (text_at name l)) }

-- a string of the language that was added last; one of no language spoils their count
abbrev pub with_string : Name → List ℕ → Record → Record
with_string name us r =
    let n = r.plan.languages in
    cond (eqb n 0 || ltb language_room n) (with_plan (with_languages spoilt r.plan) r)
    (record r { languages = set r.languages (n - 1) (with_name (name_of name) us (language_at (n - 1) r)) })
