-- USB 2.0 section 9.6.1: the device descriptor as the list of its bytes, in the order of its table. Document 01, module 2.
use Rattle.std.specs.Prelude.{ℕ, ◌+◌, ◌/◌, ◌%◌, Bool, cond, not, List, [], ◌∷◌, eqb, take}
use Rattle.std.specs.List.{list_any}
pub use Rattle.control.specs.Setup.{word_bytes}
use Rattle.record.specs.Filling.{text_at}
use Rattle.record.specs.declared.Record.{Record}
use Rattle.record.specs.declared.Language.{Language}

-- the languages that a record counts
abbrev pub spoken : Record → List Language
spoken r = take r.plan.languages r.languages

-- whether a language has the string of a name
abbrev pub has : ℕ → Language → Bool
has name l = not (eqb (text_at name l).len 0)

-- whether any of the languages has the string of a name
abbrev pub said : List Language → ℕ → Bool
said ls name = list_any (has name) ls

-- the number of a string: 1, 2 or 3 if any language has it, else 0
abbrev pub string_number : List Language → ℕ → ℕ
string_number ls name = cond (said ls name) (name + 1) 0

-- table 9-8: bLength, bDescriptorType, bcdUSB, bDeviceClass, bDeviceSubClass, bDeviceProtocol, bMaxPacketSize0, idVendor,
-- idProduct, bcdDevice, iManufacturer, iProduct, iSerialNumber, bNumConfigurations
unfoldable pub device_bytes : Record → List ℕ
device_bytes r =
    let b = r.plan.basics in
    let ls = spoken r in
    18 ∷ 1
    ∷ 0 ∷ 2
    ∷ b.class ∷ b.subclass ∷ b.protocol
    ∷ b.packet
    ∷ b.vendor % 256 ∷ b.vendor / 256
    ∷ b.product % 256 ∷ b.product / 256
    ∷ b.release % 256 ∷ b.release / 256
    ∷ string_number ls 0 ∷ string_number ls 1 ∷ string_number ls 2
    ∷ 1 ∷ []
