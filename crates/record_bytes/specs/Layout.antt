-- The record as 833 bytes, as a caller hands it over and as a state begins:
--   0   packet size, class, subclass, protocol, vendor (2), product (2), release (2), power, self-powered, wakeup, quirk
--   14  how many interfaces, endpoints, languages
--   17  4 interfaces of 3: class, subclass, protocol
--   29  8 endpoints of 5: address, kind (0 bulk, 1 interrupt), size, interval, interface
--   69  4 languages (2)
--   77  12 lengths of strings, three for each language: 0 for no string, else its units and one
--   89  12 times 31 units (2)
use Rattle.std.specs.Prelude.{ℕ, ◌+◌, ◌*◌, Bool, ◌&&◌, List, [], ◌∷◌, ◌++◌, get_or}
use Rattle.common.specs.Bytes.{part}
use Rattle.common.specs.Lists.{every}
use Rattle.control.specs.Setup.{word_at}
use Rattle.plan.specs.Sizes.{interface_room, endpoint_room}
use Rattle.plan.specs.declared.Basics.{Basics}
use Rattle.plan.specs.declared.Interface.{Interface}
use Rattle.plan.specs.declared.Endpoint.{Endpoint}
use Rattle.plan.specs.declared.Plan.{Plan}
use Rattle.plan.specs.Codes.{kind_code, kind_of}
use Rattle.record.specs.Sizes.{language_room, names, unit_room, string_room, text_room}
use Rattle.record.specs.declared.Text.{Text}
use Rattle.record.specs.declared.Language.{Language}
use Rattle.record.specs.declared.Record.{Record}
use Rattle.record_bytes.specs.Codes.{word_bytes, flag_code, flag_at, coded, joined, entries, numbered}

-- the sizes, each named once
abbrev pub head_size : ℕ
head_size = 17

abbrev pub interface_size : ℕ
interface_size = 3

abbrev pub endpoint_size : ℕ
endpoint_size = 5

abbrev pub word_size : ℕ
word_size = 2

-- the units of a string
abbrev pub text_size : ℕ
text_size = word_size * unit_room

-- where each list starts
abbrev pub endpoint_place : ℕ
endpoint_place = head_size + interface_size * interface_room

abbrev pub language_place : ℕ
language_place = endpoint_place + endpoint_size * endpoint_room

abbrev pub length_place : ℕ
length_place = language_place + word_size * language_room

abbrev pub unit_place : ℕ
unit_place = length_place + string_room

abbrev pub record_size : ℕ
record_size = unit_place + word_size * text_room

-- ---- writing

abbrev pub interface_bytes : Interface → List ℕ
interface_bytes i = i.class ∷ i.subclass ∷ i.protocol ∷ []

abbrev pub endpoint_bytes : Endpoint → List ℕ
endpoint_bytes e = e.address.0 ∷ kind_code e.kind ∷ e.size ∷ e.interval ∷ e.interface ∷ []

unfoldable pub head_bytes : Plan → List ℕ
head_bytes p =
    let b = p.basics in
    b.packet
    ∷ b.class
    ∷ b.subclass
    ∷ b.protocol
    ∷ (word_bytes b.vendor
    ++ word_bytes b.product
    ++ word_bytes b.release
    ++ b.power
    ∷ flag_code b.powered
    ∷ flag_code b.wakeup
    ∷ flag_code b.quirk
    ∷ p.interfaces.count
    ∷ p.endpoints.count
    ∷ p.languages
    ∷ [])

unfoldable pub plan_bytes : Plan → List ℕ
plan_bytes p = head_bytes p ++ (joined interface_bytes p.interfaces.list ++ joined endpoint_bytes p.endpoints.list)

-- of a language: its identifier, the lengths of its strings, their units
abbrev pub id_bytes : Language → List ℕ
id_bytes l = word_bytes l.id

abbrev pub length_bytes : Text → List ℕ
length_bytes t = t.len ∷ []

abbrev pub lengths_bytes : Language → List ℕ
lengths_bytes l = joined length_bytes l.names

abbrev pub text_bytes : Text → List ℕ
text_bytes t = joined word_bytes t.units

abbrev pub texts_bytes : Language → List ℕ
texts_bytes l = joined text_bytes l.names

unfoldable pub strings_bytes : List Language → List ℕ
strings_bytes ls = joined id_bytes ls ++ (joined lengths_bytes ls ++ joined texts_bytes ls)

unfoldable pub record_bytes : Record → List ℕ
record_bytes r = plan_bytes r.plan ++ strings_bytes r.languages

-- ---- reading

abbrev pub interface_of : List ℕ → Interface
interface_of s = record { class = get_or s 0 0; subclass = get_or s 1 0; protocol = get_or s 2 0 }

abbrev pub endpoint_of : List ℕ → Endpoint
endpoint_of s = record { address = record { 0 = get_or s 0 0 }; kind = kind_of (get_or s 1 0); size = get_or s 2 0; interval = get_or s 3 0; interface = get_or s 4 0 }

abbrev pub word_of : List ℕ → ℕ
word_of s = word_at s 0

unfoldable pub basics_of : List ℕ → Basics
basics_of s =
    record {
      packet = get_or s 0 0;
      class = get_or s 1 0;
      subclass = get_or s 2 0;
      protocol = get_or s 3 0;
      vendor = word_at s 4;
      product = word_at s 6;
      release = word_at s 8;
      power = get_or s 10 0;
      powered = flag_at s 11;
      wakeup = flag_at s 12;
      quirk = flag_at s 13;
    }

unfoldable pub plan_of : List ℕ → Plan
plan_of s =
    record {
      basics = basics_of s;
      interfaces = record { count = get_or s 14 0; list = entries interface_room interface_size interface_of (part head_size (interface_size * interface_room) s) };
      endpoints = record { count = get_or s 15 0; list = entries endpoint_room endpoint_size endpoint_of (part endpoint_place (endpoint_size * endpoint_room) s) };
      languages = get_or s 16 0;
    }

-- the string at a place among all of them, and the language at a place
abbrev pub text_of : ℕ → List ℕ → Text
text_of slot s = record { len = get_or s (length_place + slot) 0; units = entries unit_room word_size word_of (part (unit_place + text_size * slot) text_size s) }

abbrev pub texts_of : ℕ → List ℕ → List Text
texts_of i s = numbered names 0 (λ k. text_of (names * i + k) s)

abbrev pub language_of : ℕ → List ℕ → Language
language_of i s = record { id = word_at s (language_place + word_size * i); names = texts_of i s }

unfoldable pub record_of : List ℕ → Record
record_of s = record { plan = plan_of s; languages = numbered language_room 0 (λ i. language_of i s) }

-- ---- which bytes are a record's: the three flags and the kinds of endpoints are codes

abbrev pub endpoint_coded : List ℕ → Bool
endpoint_coded s = coded s 1 1

abbrev pub same : List ℕ → List ℕ
same s = s

unfoldable pub record_coded : List ℕ → Bool
record_coded s = coded s 11 1 && coded s 12 1 && coded s 13 1 && every endpoint_coded (entries endpoint_room endpoint_size same (part endpoint_place (endpoint_size * endpoint_room) s))
