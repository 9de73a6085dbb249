-- Document 01, "What goes into the mast" (device record) and "When the mast says no": which of refusals 1, 2 and 3 a record gets.
use Rattle.std.specs.Prelude.{ℕ, ◌+◌, ◌%◌, Bool, cond, ◌&&◌, List, [], ◌∷◌, map, leb, ltb, take}
use Rattle.common.specs.Lists.{between, every, member, none_twice}
use Rattle.plan.specs.Sizes.{interface_room, endpoint_room}
use Rattle.record.specs.Sizes.{language_room, unit_room}
use Rattle.plan.specs.declared.Plan.{Plan}
use Rattle.plan.specs.declared.Endpoint.{Endpoint}
use Rattle.record.specs.declared.Text.{Text}
use Rattle.record.specs.declared.Language.{Language}
use Rattle.record.specs.declared.Record.{Record}

abbrev pub address_of : Endpoint → ℕ
address_of e = e.address.0

-- 1: EP0 packet size 8, 16, 32 or 64
abbrev pub packet_fine : ℕ → Bool
packet_fine size = member size (8 ∷ 16 ∷ 32 ∷ 64 ∷ [])

-- an endpoint: of an interface that exists, its number (the address without bit 7) 1 to 15, its size 1 to 64.
-- (Bulk or interrupt is all that a Kind can be; every interval is fine.)
abbrev pub endpoint_fine : ℕ → Endpoint → Bool
endpoint_fine interfaces e = ltb e.interface interfaces && between 1 15 (address_of e % 128) && between 1 64 e.size

-- endpoints: each is fine, and no address stands twice
abbrev pub list_fine : ℕ → List Endpoint → Bool
list_fine interfaces es = every (endpoint_fine interfaces) es && none_twice (map address_of es)

-- 2: power 0 to 250, 1 to 4 interfaces, 0 to 8 endpoints
abbrev pub layout_fine : Plan → Bool
layout_fine p =
    leb p.basics.power 250
    && between 1 interface_room p.interfaces.count
    && leb p.endpoints.count endpoint_room
    && list_fine p.interfaces.count (take p.endpoints.count p.endpoints.list)

-- the length of a string: 0 for none, else its units, 0 to 31, and one
abbrev pub length_fine : ℕ → Bool
length_fine n = leb n (unit_room + 1)

abbrev pub text_fine : Text → Bool
text_fine t = length_fine t.len

abbrev pub language_fine : Language → Bool
language_fine l = every text_fine l.names

abbrev pub id_of : Language → ℕ
id_of l = l.id

-- 3: 0 to 4 languages, none twice, the three strings of each fine
abbrev pub languages_fine : ℕ → List Language → Bool
languages_fine n ls = leb n language_room && none_twice (map id_of (take n ls)) && every language_fine (take n ls)

-- the lowest number of which the rule is broken; 0 for none
abbrev pub lowest : Record → ℕ
lowest r = cond (packet_fine r.plan.basics.packet) (cond (layout_fine r.plan) (cond (languages_fine r.plan.languages r.languages) 0 3) 2) 1
