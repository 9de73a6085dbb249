-- A device as 1005 bytes: its record (833), what it holds beside it (44), and its buffer (128).
use Rattle.std.specs.Prelude.{ℕ, ◌+◌, Bool, cond, ◌&&◌, List, ◌++◌, ◌≡◌, true, ⊤, Result, Ok, Err, eqb, length}
use Rattle.common.specs.Bytes.{part, placed}
use Rattle.common.specs.Refusals.{refusal, unless}
use Rattle.common.specs.declared.Refusal.{Refusal}
use Rattle.control_pipe.specs.Sizes.{buffer_room}
use Rattle.live.specs.declared.Live.{Live}
use Rattle.device.specs.declared.Device.{Device}
use Rattle.record_bytes.specs.Layout.{record_size, record_bytes, record_of, record_coded}
use Rattle.record_bytes.specs.Shape.{Shaped}
use Rattle.live_bytes.specs.Layout.{live_size, live_bytes, live_of, live_coded}

-- where the buffer starts
abbrev pub buffer_place : ℕ
buffer_place = record_size + live_size

abbrev pub state_size : ℕ
state_size = buffer_place + buffer_room

unfoldable pub bytes_of : Device → List ℕ
bytes_of d = record_bytes d.profile ++ (live_bytes d.live ++ d.buffer)

unfoldable pub device_of : List ℕ → Device
device_of s = record { profile = record_of (part 0 record_size s); live = live_of (part record_size live_size s); buffer = part buffer_place buffer_room s }

-- whether the bytes are what some device is written as: as many, and each flag and each enum is a code
unfoldable pub state_coded : List ℕ → Bool
state_coded s = eqb (length s) state_size && record_coded (part 0 record_size s) && live_coded (part record_size live_size s)

-- the parts of bytes that some device is written as
pub record Parted (r l b s : List ℕ) : Type 0 where
  pub coded : state_coded s ≡ true
  pub profile : r ≡ part 0 record_size s
  pub live : l ≡ part record_size live_size s
  pub buffer : b ≡ part buffer_place buffer_room s

-- the device of such parts
abbrev pub parts_device : List ℕ → List ℕ → List ℕ → Device
parts_device r l b = record { profile = record_of r; live = live_of l; buffer = b }

-- bytes that no device is written as are refusal 9
abbrev pub read_of : List ℕ → Result Device Refusal
read_of s = cond (state_coded s) (Ok (device_of s)) (Err (refusal 9))

-- so is a room of another length
abbrev pub wrote_of : List ℕ → ℕ
wrote_of s = cond (eqb (length s) state_size) 0 9

abbrev pub wrote : Device → List ℕ → List ℕ
wrote d s = cond (eqb (length s) state_size) (bytes_of d) s

pub record Writing (r : Result ⊤ Refusal) (exit : List ℕ) (d : Device) (entry : List ℕ) : Type 0 where
  pub value : r ≡ unless (wrote_of entry) tt
  pub state : exit ≡ wrote d entry

-- another live part and buffer behind the record that stands there
abbrev pub kept : Live → List ℕ → List ℕ → List ℕ
kept l b s = cond (eqb (length s) state_size) (placed s record_size (live_bytes l ++ b)) s

-- a device whose lists have the lengths of its type, which every device that the code makes has
pub record Whole (d : Device) : Type 0 where
  pub profile : Shaped d.profile
  pub buffer : length d.buffer ≡ buffer_room
