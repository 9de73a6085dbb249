-- USB 2.0 sections 9.6.3, 9.6.5 and 9.6.6: the configuration with its interfaces and endpoints as the list of its bytes, each in the
-- order of its table. Document 01, module 2.
use Rattle.std.specs.Prelude.{ℕ, ◌+◌, ◌/◌, ◌%◌, Bool, cond, List, [], ◌∷◌, ◌++◌, eqb, length, take}
use Rattle.plan.specs.declared.Interface.{Interface}
use Rattle.plan.specs.declared.Endpoint.{Endpoint}
use Rattle.plan.specs.declared.Kind.{Kind}
use Rattle.plan.specs.declared.Kind.TheVariants.{Bulk, Interrupt}
use Rattle.plan.specs.declared.Plan.{Plan}
use Rattle.limits.specs.Limits.{address_of}

-- table 9-13, bmAttributes bits 1 to 0
abbrev pub transfer_of : Kind → ℕ
transfer_of Bulk = 2
transfer_of Interrupt = 3

-- table 9-13: bLength, bDescriptorType, bEndpointAddress, bmAttributes, wMaxPacketSize, bInterval
abbrev pub endpoint_bytes : Endpoint → List ℕ
endpoint_bytes e = 7 ∷ 5 ∷ address_of e ∷ transfer_of e.kind ∷ e.size ∷ 0 ∷ e.interval ∷ []

-- table 9-12: bLength, bDescriptorType, bInterfaceNumber, bAlternateSetting, bNumEndpoints, bInterfaceClass,
-- bInterfaceSubClass, bInterfaceProtocol, iInterface
abbrev pub interface_bytes : ℕ → ℕ → Interface → List ℕ
interface_bytes number endpoints x = 9 ∷ 4 ∷ number ∷ 0 ∷ endpoints ∷ x.class ∷ x.subclass ∷ x.protocol ∷ 0 ∷ []

-- the endpoints of an interface, in record order
unfoldable pub owned : ℕ → List Endpoint → List Endpoint
owned number [] = []
owned number (e ∷ es) = cond (eqb e.interface number) (e ∷ owned number es) (owned number es)

unfoldable pub joined : List Endpoint → List ℕ
joined [] = []
joined (e ∷ es) = endpoint_bytes e ++ joined es

-- section 9.6.3: an interface is followed by its endpoints
unfoldable pub interface_set : List Endpoint → ℕ → Interface → List ℕ
interface_set es number x = interface_bytes number (length (owned number es)) x ++ joined (owned number es)

-- interfaces in record order, numbered from a number on
unfoldable pub interface_sets : List Endpoint → ℕ → List Interface → List ℕ
interface_sets es number [] = []
interface_sets es number (x ∷ xs) = interface_set es number x ++ interface_sets es (number + 1) xs

-- table 9-10, bmAttributes: bit 7 set, bit 6 self-powered, bit 5 remote wakeup
abbrev pub bit : Bool → ℕ → ℕ
bit b n = cond b n 0

-- table 9-10: bLength, bDescriptorType, wTotalLength, bNumInterfaces, bConfigurationValue, iConfiguration, bmAttributes, bMaxPower
abbrev pub head_bytes : Plan → ℕ → List ℕ
head_bytes p total =
    9 ∷ 2
    ∷ total % 256 ∷ total / 256
    ∷ p.interfaces.count
    ∷ 1
    ∷ 0
    ∷ (128 + bit p.basics.powered 64 + bit p.basics.wakeup 32)
    ∷ p.basics.power ∷ []

-- the interfaces with their endpoints
unfoldable pub body_bytes : Plan → List ℕ
body_bytes p = interface_sets (take p.endpoints.count p.endpoints.list) 0 (take p.interfaces.count p.interfaces.list)

-- wTotalLength counts this descriptor and all that follows it
unfoldable pub configuration_bytes : Plan → List ℕ
configuration_bytes p = head_bytes p (9 + length (body_bytes p)) ++ body_bytes p
