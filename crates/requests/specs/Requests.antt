-- USB 2.0 section 9.4 and document 01, module 4: how each request is answered.
use Rattle.std.specs.Prelude.{ℕ, ◌+◌, ◌-◌, ◌*◌, ◌/◌, ◌%◌, ◌^◌, Bool, true, false, cond, ◌&&◌, eqb, leb, ltb, Option, Some, None}
use Rattle.std.specs.Int.Bits.{bit_and, bit_or}
use Rattle.common.specs.Lists.{between}
use Rattle.control.specs.declared.EndpointAddress.{EndpointAddress}
use Rattle.control.specs.declared.TileNumber.{TileNumber}
use Rattle.control.specs.declared.Direction.{Direction}
use Rattle.control.specs.declared.Direction.TheVariants.{In, Out}
use Rattle.control.specs.declared.RequestType.{RequestType}
use Rattle.control.specs.declared.RequestType.TheVariants.{Standard, Class, Vendor, Reserved as ReservedType}
use Rattle.control.specs.declared.Recipient.{Recipient}
use Rattle.control.specs.declared.Recipient.TheVariants.{Device, Interface, Endpoint, Other, Reserved}
use Rattle.control.specs.declared.Request.{Request}
use Rattle.control_pipe.specs.declared.Pipe.{Pipe}
use Rattle.requests.specs.declared.State.{State}
use Rattle.requests.specs.declared.State.TheVariants.{Default, Addressed, Configured, Suspend}
use Rattle.requests.specs.declared.Kept.{Kept}
use Rattle.requests.specs.declared.Effect.{Effect}
use Rattle.requests.specs.declared.Effect.TheVariants.{Nothing, Wakeup, Halt, Unhalt, Address, Turn}
use Rattle.requests.specs.declared.Decision.{Decision}
use Rattle.requests.specs.declared.Decision.TheVariants.{Status, Byte, Describe, Tiles, Accept}
use Rattle.requests.specs.Sizes.{tile_size}

-- ---- endpoints and their halts

-- section 9.3.4, wIndex that names an endpoint: its number in bits 3 to 0, its direction in bit 7; the other bits are not looked at
abbrev pub endpoint_of : ℕ → EndpointAddress
endpoint_of index = record { 0 = index % 256 / 128 * 128 + index % 256 % 16 }

-- where a halt is kept: OUT at the endpoint's number, IN sixteen higher
abbrev pub halt_place : EndpointAddress → ℕ
halt_place e = e.0 / 128 * 16 + e.0 % 16

abbrev pub with_halt : EndpointAddress → Bool → Kept → Kept
with_halt e on k =
    let bit = 2 ^ halt_place e in record k { halts = cond on (bit_or k.halts bit) (bit_and k.halts (4294967295 - bit)) }

-- the halts of endpoint 0 are the pipe's stalls
abbrev pub halted : Kept → Pipe → EndpointAddress → Bool
halted k p e =
    cond (eqb (e.0 % 16) 0)
    (cond (ltb e.0 128) p.stallout p.stallin)
    (eqb (k.halts / 2 ^ halt_place e % 2) 1)

abbrev pub status_bits : Bool → ℕ → ℕ
status_bits b n = cond b n 0

-- ---- IN requests

-- section 9.4.2: bConfigurationValue, 0 if the device is not configured
abbrev pub configured_byte : State → ℕ
configured_byte Default = 0
configured_byte Addressed = 0
configured_byte Configured = 1
configured_byte Suspend = 0

-- sections 9.4.5 GET_STATUS (0; bit 0 self-powered, bit 1 remote wakeup), 9.4.3 GET_DESCRIPTOR (6), 9.4.2 GET_CONFIGURATION (8)
abbrev pub device_in : Kept → ℕ → Option Decision
device_in k code =
    cond (eqb code 0) (Some (Status (status_bits k.powered 1 + status_bits k.wakeup 2)))
    (cond (eqb code 6) (Some Describe) (cond (eqb code 8) (Some (Byte (configured_byte k.state))) None))

-- sections 9.4.5 GET_STATUS, 9.4.4 GET_INTERFACE (10) of an interface 0 to 255
abbrev pub interface_in : ℕ → ℕ → Option Decision
interface_in code index = cond (eqb code 0) (Some (Status 0)) (cond (eqb code 10) (cond (leb index 255) (Some (Byte 0)) None) None)

-- section 9.4.5 GET_STATUS (bit 0 halt)
abbrev pub endpoint_in : Kept → Pipe → ℕ → ℕ → Option Decision
endpoint_in k p code index = cond (eqb code 0) (Some (Status (status_bits (halted k p (endpoint_of index)) 1))) None

abbrev pub standard_in : Recipient → Kept → Pipe → Request → Option Decision
standard_in Device k p q = device_in k q.request
standard_in Interface k p q = interface_in q.request q.index
standard_in Endpoint k p q = endpoint_in k p q.request q.index
standard_in Other k p q = None
standard_in Reserved k p q = None

-- document 01, tile read: from a record of the book on, to its end
abbrev pub tiles_from : TileNumber → ℕ → Option Decision
tiles_from first book = cond (ltb first.0 (book / tile_size)) (Some (Tiles (first.0 * tile_size))) None

-- code 1, wIndex 0
abbrev pub tiles_in : Request → ℕ → Option Decision
tiles_in q book = cond (eqb q.request 1 && eqb q.index 0) (tiles_from (record { 0 = q.value }) book) None

abbrev pub vendor_in : Recipient → Request → ℕ → Option Decision
vendor_in Device q book = tiles_in q book
vendor_in Interface q book = None
vendor_in Endpoint q book = None
vendor_in Other q book = None
vendor_in Reserved q book = None

abbrev pub decide_in : RequestType → Kept → Pipe → Request → ℕ → Option Decision
decide_in Standard k p q book = standard_in q.recipient k p q
decide_in Class k p q book = None
decide_in Vendor k p q book = vendor_in q.recipient q book
decide_in ReservedType k p q book = None

-- ---- OUT requests

-- section 9.4.6: 1 to 127
abbrev pub set_address : ℕ → Option Decision
set_address value = cond (between 1 127 value) (Some (Accept (Address (record { 0 = value })))) None

-- section 9.4.7: 1 configures; 0 deconfigures, and changes nothing in the default state
abbrev pub deconfigured : State → Effect
deconfigured Default = Nothing
deconfigured Addressed = Turn Addressed
deconfigured Configured = Turn Addressed
deconfigured Suspend = Turn Addressed

abbrev pub set_configuration : State → ℕ → Option Decision
set_configuration s value = cond (eqb value 1) (Some (Accept (Turn Configured))) (cond (eqb value 0) (Some (Accept (deconfigured s))) None)

-- sections 9.4.1 CLEAR_FEATURE and 9.4.9 SET_FEATURE: the one feature of a recipient
abbrev pub feature : ℕ → ℕ → Effect → Option Decision
feature n value e = cond (eqb value n) (Some (Accept e)) None

-- CLEAR_FEATURE (1) and SET_FEATURE (3) of remote wakeup (1), SET_ADDRESS (5), SET_CONFIGURATION (9)
abbrev pub device_out : State → ℕ → ℕ → Option Decision
device_out s code value =
    cond (eqb code 1) (feature 1 value (Wakeup false))
    (cond (eqb code 3) (feature 1 value (Wakeup true))
    (cond (eqb code 5) (set_address value) (cond (eqb code 9) (set_configuration s value) None)))

-- section 9.4.10 SET_INTERFACE (11): setting 0 of an interface 0 to 255
abbrev pub interface_out : ℕ → ℕ → ℕ → Option Decision
interface_out code value index = cond (eqb code 11 && eqb value 0 && leb index 255) (Some (Accept Nothing)) None

-- CLEAR_FEATURE (1) and SET_FEATURE (3) of halt (0)
abbrev pub endpoint_out : ℕ → ℕ → ℕ → Option Decision
endpoint_out code value index =
    cond (eqb code 1) (feature 0 value (Unhalt (endpoint_of index))) (cond (eqb code 3) (feature 0 value (Halt (endpoint_of index))) None)

abbrev pub standard_out : Recipient → Kept → Request → Option Decision
standard_out Device k q = device_out k.state q.request q.value
standard_out Interface k q = interface_out q.request q.value q.index
standard_out Endpoint k q = endpoint_out q.request q.value q.index
standard_out Other k q = None
standard_out Reserved k q = None

abbrev pub decide_out : RequestType → Kept → Request → Option Decision
decide_out Standard k q = standard_out q.recipient k q
decide_out Class k q = None
decide_out Vendor k q = None
decide_out ReservedType k q = None

-- ---- the pipe's request, of a book of so many bytes

abbrev pub decide_by : Direction → Kept → Pipe → Request → ℕ → Option Decision
decide_by In k p q book = decide_in q.kind k p q book
decide_by Out k p q book = decide_out q.kind k q

unfoldable pub decided : Kept → Pipe → ℕ → Option Decision
decided k p book = decide_by p.request.direction k p p.request book
