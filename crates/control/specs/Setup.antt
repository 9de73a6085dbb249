-- USB 2.0 section 9.3, table 9-2: what the eight bytes of a SETUP packet say. Document 01, module 1.
use Rattle.std.specs.Prelude.{ℕ, ◌+◌, ◌*◌, ◌/◌, ◌%◌, cond, List, [], ◌∷◌, length, get_or, eqb, Result, Ok, Err}
use Rattle.common.specs.declared.Refusal.{Refusal}
use Rattle.common.specs.Refusals.{refusal}
use Rattle.control.specs.declared.Direction.{Direction}
use Rattle.control.specs.declared.Direction.TheVariants.{In, Out}
use Rattle.control.specs.declared.RequestType.{RequestType}
use Rattle.control.specs.declared.RequestType.TheVariants.{Standard, Class, Vendor, Reserved as ReservedType}
use Rattle.control.specs.declared.Recipient.{Recipient}
use Rattle.control.specs.declared.Recipient.TheVariants.{Device, Interface, Endpoint, Other, Reserved}
use Rattle.control.specs.declared.Request.{Request}
use Rattle.control.specs.declared.TypeIndex.{TypeIndex}

-- bmRequestType, bit 7: 0 host to device, 1 device to host
abbrev pub direction_of : ℕ → Direction
direction_of b = get_or (Out ∷ In ∷ []) (b / 128) In

-- bmRequestType, bits 6 to 5: 0 standard, 1 class, 2 vendor, 3 reserved
abbrev pub type_of : ℕ → RequestType
type_of b = get_or (Standard ∷ Class ∷ Vendor ∷ ReservedType ∷ []) (b / 32 % 4) ReservedType

-- bmRequestType, bits 4 to 0: 0 device, 1 interface, 2 endpoint, 3 other, 4 to 31 reserved
abbrev pub recipient_of : ℕ → Recipient
recipient_of b = get_or (Device ∷ Interface ∷ Endpoint ∷ Other ∷ []) (b % 32) Reserved

-- the number of two bytes at a place, little-endian (section 8.1)
abbrev pub word_at : List ℕ → ℕ → ℕ
word_at s at = get_or s at 0 + 256 * get_or s (at + 1) 0

-- and the two bytes of a number
abbrev pub word_bytes : ℕ → List ℕ
word_bytes n = n % 256 ∷ n / 256 ∷ []

-- bmRequestType, bRequest, wValue, wIndex, wLength, in the order of the table
abbrev pub request_of : List ℕ → Request
request_of s =
    record {
      direction = direction_of (get_or s 0 0);
      kind = type_of (get_or s 0 0);
      recipient = recipient_of (get_or s 0 0);
      request = get_or s 1 0;
      value = word_at s 2;
      index = word_at s 4;
      length = word_at s 6;
    }

-- exactly eight bytes, else refusal 11
abbrev pub parsed : List ℕ → Result Request Refusal
parsed s = cond (eqb (length s) 8) (Ok (request_of s)) (Err (refusal 11))

-- section 9.4.3: wValue has the descriptor's type in its high byte and its index in the low byte
abbrev pub type_index_of : Request → TypeIndex
type_index_of r = record { kind = r.value / 256; index = r.value % 256 }
