-- Document 01, "Field notes to check": the starred notes as one table, and what each says of the definitions.
use Rattle.std.specs.Prelude.{ℕ, ◌+◌, ◌*◌, true, false, List, [], ◌∷◌, ◌≡◌, length, Some, Ok, Err}
use Rattle.common.specs.Refusals.{refusal}
use Rattle.control.specs.declared.Direction.{Direction}
use Rattle.control.specs.declared.Direction.TheVariants.{In, Out}
use Rattle.control.specs.declared.RequestType.{RequestType}
use Rattle.control.specs.declared.RequestType.TheVariants.{Standard, Vendor, Reserved as ReservedType}
use Rattle.control.specs.declared.Recipient.{Recipient}
use Rattle.control.specs.declared.Recipient.TheVariants.{Device, Other, Reserved}
use Rattle.control.specs.declared.Request.{Request}
use Rattle.control.specs.Setup.{parsed}
use Rattle.record.specs.declared.Record.{Record}
use Rattle.plan.specs.declared.Kind.TheVariants.{Bulk}
use Rattle.record.specs.declared.Name.TheVariants.{Manufacturer, Product}
use Rattle.plan.specs.Planning.{bare, with_interface, with_endpoint}
use Rattle.record.specs.Filling.{bare as record_of, with_language, with_string}
use Rattle.limits.specs.Limits.{lowest}
use Rattle.descriptor.specs.Device.{device_bytes}
use Rattle.configuration.specs.Configuration.{configuration_bytes}
use Rattle.strings.specs.Strings.{string_of}
use Rattle.control_pipe.specs.declared.Stage.{Stage}
use Rattle.control_pipe.specs.declared.Stage.TheVariants.{CompleteIn, StatusOut, DataOut, Error}
use Rattle.control_pipe.specs.declared.Read.TheVariants.{Packet}
use Rattle.control_pipe.specs.declared.Told.{Told}
use Rattle.control_pipe.specs.declared.Told.TheVariants.{Unstalls, UnstallsStalls, UnstallOut, Write}
use Rattle.control_pipe.specs.declared.Source.TheVariants.{Buffer}
use Rattle.control_pipe.specs.declared.Pipe.{Pipe}
use Rattle.control_pipe.specs.Sizes.{buffer_room}
use Rattle.control_pipe.specs.Stages.{Move, fresh, setup_come, in_complete, accept_in}

pub data Note : Type 0 where
  reads : List ℕ → Request → Note
  opens : ℕ → Direction → RequestType → Recipient → Note
  refuses : ℕ → Note
  takes : Record → Note
  describes : Record → List ℕ → Note
  configures : Record → List ℕ → Note
  spells : Record → ℕ → ℕ → List ℕ → Note
  sends : ℕ → ℕ → List ℕ → Note
  begins : List ℕ → Stage → Told → Note

-- the packet size of the notes
abbrev pub size : ℕ
size = 8

-- a move and the IN-completes after it, every write taken: packets of these lengths, one a move, and then the host's status is due
abbrev pub Packets : List ℕ → List ℕ → Move → Type 0
Packets [] book m = (m.told ≡ UnstallOut) × (m.pipe.stage ≡ StatusOut)
Packets (n ∷ ns) book m = (m.told ≡ Write n) × ((length m.packet ≡ n) × Packets ns book (in_complete size true book m.pipe m.buffer))

abbrev pub holds : Note → Type 0
-- a SETUP of these bytes is this request
holds (reads bytes r) = parsed bytes ≡ Ok r
-- a SETUP whose first byte this is has this direction, type and recipient, whatever the other seven are
holds (opens b d t p) =
    (b₁ b₂ b₃ b₄ b₅ b₆ b₇ : ℕ)
    → parsed (b ∷ b₁ ∷ b₂ ∷ b₃ ∷ b₄ ∷ b₅ ∷ b₆ ∷ b₇ ∷ [])
    ≡ Ok (record { direction = d; kind = t; recipient = p; request = b₁; value = b₂ + 256 * b₃; index = b₄ + 256 * b₅; length = b₆ + 256 * b₇ })
-- no SETUP of this many bytes is a request
holds (refuses n) = (s : List ℕ) → length s ≡ n → parsed s ≡ Err (refusal 11)
-- no number refuses the record
holds (takes r) = lowest r ≡ 0
-- the descriptors of the record
holds (describes r bytes) = device_bytes r ≡ bytes
holds (configures r bytes) = configuration_bytes r.plan ≡ bytes
holds (spells r number language bytes) = string_of r number language ≡ Some bytes
-- an answer of so many bytes, to a request of this wLength, goes out in packets of these lengths, whatever the bytes are
holds (sends n wanted lengths) =
    (q : Request) → q.length ≡ wanted → (b book : List ℕ) → length b ≡ buffer_room
    → Packets lengths book (accept_in Buffer 0 n size true book (fresh CompleteIn q 0) b)
-- a SETUP of these bytes leads to this stage and tells this, whatever was before it
holds (begins bytes s t) = (p : Pipe) (b : List ℕ) → ((setup_come Packet bytes p b).pipe.stage ≡ s) × ((setup_come Packet bytes p b).told ≡ t)

abbrev pub All : List Note → Type 0
All [] = Unit {0}
All (n ∷ ns) = holds n × All ns

-- the device of notes 4 to 6, filled as a person fills it, at any packet size of endpoint 0
unfoldable pub sized : ℕ → Record
sized n =
    with_string Product (0x50 ∷ 0x61 ∷ 0x6e ∷ [])
    (with_string Manufacturer (0x50 ∷ 0x61 ∷ 0x6e ∷ [])
    (with_language 0x0409
    (record_of
    (with_endpoint (record { address = record { 0 = 0x81 }; kind = Bulk; size = 64; interval = 0; interface = 0 })
    (with_interface (record { class = 0xff; subclass = 0; protocol = 0 })
    (bare
    (record {
      packet = n;
      class = 0;
      subclass = 0;
      protocol = 0;
      vendor = 0x1234;
      product = 0x0138;
      release = 0x0100;
      power = 50;
      powered = false;
      wakeup = false;
      quirk = false;
    })))))))

-- .. and at the notes' own
unfoldable pub pan : Record
pan = sized size

abbrev pub notes : List Note
notes =
    -- 1
    reads (0x80 ∷ 0x06 ∷ 0x00 ∷ 0x01 ∷ 0x00 ∷ 0x00 ∷ 0x40 ∷ 0x00 ∷ [])
    (record { direction = In; kind = Standard; recipient = Device; request = 6; value = 256; index = 0; length = 64 })
    -- 2
    ∷ opens 0x64 Out ReservedType Reserved
    ∷ opens 0xc3 In Vendor Other
    -- 3
    ∷ refuses 7
    ∷ refuses 9
    -- 4
    ∷ takes pan
    ∷ describes pan (0x12 ∷ 0x01 ∷ 0x00 ∷ 0x02 ∷ 0x00 ∷ 0x00 ∷ 0x00 ∷ 0x08 ∷ 0x34 ∷ 0x12 ∷ 0x38 ∷ 0x01 ∷ 0x00 ∷ 0x01 ∷ 0x01 ∷ 0x02 ∷ 0x00 ∷ 0x01 ∷ [])
    -- 5
    ∷ configures pan (0x09 ∷ 0x02 ∷ 0x19 ∷ 0x00 ∷ 0x01 ∷ 0x01 ∷ 0x00 ∷ 0x80 ∷ 0x32 ∷ 0x09 ∷ 0x04 ∷ 0x00 ∷ 0x00 ∷ 0x01 ∷ 0xff ∷ 0x00 ∷ 0x00 ∷ 0x00 ∷ 0x07 ∷ 0x05 ∷ 0x81 ∷ 0x02 ∷ 0x40 ∷ 0x00 ∷ 0x00 ∷ [])
    -- 6
    ∷ spells pan 1 0x0409 (0x08 ∷ 0x03 ∷ 0x50 ∷ 0x00 ∷ 0x61 ∷ 0x00 ∷ 0x6e ∷ 0x00 ∷ [])
    ∷ spells pan 0 0 (0x04 ∷ 0x03 ∷ 0x09 ∷ 0x04 ∷ [])
    -- 7
    ∷ sends 18 64 (8 ∷ 8 ∷ 2 ∷ [])
    ∷ sends 18 16 (8 ∷ 8 ∷ 0 ∷ [])
    -- 8
    ∷ begins (0x40 ∷ 0x02 ∷ 0x00 ∷ 0x00 ∷ 0x00 ∷ 0x00 ∷ 0x81 ∷ 0x00 ∷ []) Error UnstallsStalls
    ∷ begins (0x40 ∷ 0x02 ∷ 0x00 ∷ 0x00 ∷ 0x00 ∷ 0x00 ∷ 0x80 ∷ 0x00 ∷ []) DataOut Unstalls
    ∷ []
