-- The codes by which direction, type and recipient of a request stand in bytes.
use Rattle.std.specs.Prelude.{ℕ, ◌≡◌, [], ◌∷◌, get_or, refl}
use Rattle.control.specs.declared.Direction.{Direction}
use Rattle.control.specs.declared.Direction.TheVariants.{In, Out}
use Rattle.control.specs.declared.RequestType.{RequestType}
use Rattle.control.specs.declared.RequestType.TheVariants.{Standard, Class, Vendor, Reserved as ReservedType}
use Rattle.control.specs.declared.Recipient.{Recipient}
use Rattle.control.specs.declared.Recipient.TheVariants.{Device, Interface, Endpoint, Other, Reserved}

abbrev pub direction_code : Direction → ℕ
direction_code Out = 0
direction_code In = 1

abbrev pub type_code : RequestType → ℕ
type_code Standard = 0
type_code Class = 1
type_code Vendor = 2
type_code ReservedType = 3

abbrev pub recipient_code : Recipient → ℕ
recipient_code Device = 0
recipient_code Interface = 1
recipient_code Endpoint = 2
recipient_code Other = 3
recipient_code Reserved = 4

-- the same tables the other way: what a code names, at its place
abbrev pub direction_of_code : ℕ → Direction
direction_of_code n = get_or (Out ∷ []) n In

abbrev pub type_of_code : ℕ → RequestType
type_of_code n = get_or (Standard ∷ Class ∷ Vendor ∷ []) n ReservedType

abbrev pub recipient_of_code : ℕ → Recipient
recipient_of_code n = get_or (Device ∷ Interface ∷ Endpoint ∷ Other ∷ []) n Reserved

-- the two agree
pub direction_back : (x : Direction) → direction_of_code (direction_code x) ≡ x
direction_back Out = refl
direction_back In = refl

pub type_back : (x : RequestType) → type_of_code (type_code x) ≡ x
type_back Standard = refl
type_back Class = refl
type_back Vendor = refl
type_back ReservedType = refl

pub recipient_back : (x : Recipient) → recipient_of_code (recipient_code x) ≡ x
recipient_back Device = refl
recipient_back Interface = refl
recipient_back Endpoint = refl
recipient_back Other = refl
recipient_back Reserved = refl
