-- Document 01, module 5: what an event record of 80 bytes says.
use Rattle.std.specs.Prelude.{ℕ, ◌+◌, Bool, cond, ◌&&◌, List, Result, Ok, Err, eqb, leb, length, get_or, take, drop}
use Rattle.common.specs.Lists.{every}
use Rattle.common.specs.Refusals.{refusal}
use Rattle.common.specs.declared.Refusal.{Refusal}
use Rattle.control.specs.Setup.{word_at}
use Rattle.control_pipe.specs.declared.Read.{Read}
use Rattle.control_pipe.specs.declared.Read.TheVariants.{Packet, Block, Fault}
use Rattle.events.specs.declared.Write.{Write}
use Rattle.events.specs.declared.Write.TheVariants.{Taken, Refused as RefusedWrite}
use Rattle.events.specs.declared.Arrival.{Arrival}
use Rattle.events.specs.declared.Event.{Event}
use Rattle.events.specs.declared.Event.TheVariants.{Nothing, Reset, Suspend, Resume, Data}
use Rattle.records.specs.declared.Happening.{Happening}
use Rattle.records.specs.Sizes.{event_room, head_room, packet_room}

abbrev pub is_zero : ℕ → Bool
is_zero n = eqb n 0

-- byte 1: 0 packet, 1 would-block, 2 fault
abbrev pub read_at : ℕ → Read
read_at n = cond (eqb n 0) Packet (cond (eqb n 1) Block Fault)

-- byte 2: 0 taken, 1 refused
abbrev pub write_at : ℕ → Write
write_at n = cond (eqb n 0) Taken RefusedWrite

-- bytes 4 to 9: the masks out, in, setup
abbrev pub arrival_of : List ℕ → Arrival
arrival_of s = record { out = word_at s 4; done = word_at s 6; setup = word_at s 8; read = read_at (get_or s 1 0); write = write_at (get_or s 2 0) }

-- byte 3: the packet's length; then six zero bytes, and the packet zero-filled to 64
abbrev pub data_fine : List ℕ → Bool
data_fine s =
    leb (get_or s 1 0) 2
    && leb (get_or s 2 0) 1
    && leb (get_or s 3 0) packet_room
    && every is_zero (drop 10 (take head_room s))
    && every is_zero (drop (head_room + get_or s 3 0) (take event_room s))

abbrev pub plain : Event → Result Happening Refusal
plain e = Ok (record { event = e; length = 0 })

abbrev pub data_of : List ℕ → Result Happening Refusal
data_of s = cond (data_fine s) (Ok (record { event = Data (arrival_of s); length = get_or s 3 0 })) (Err (refusal 10))

-- byte 0: the kind; of kinds 0 to 3 only this byte counts
abbrev pub kind_of : ℕ → List ℕ → Result Happening Refusal
kind_of kind s =
    cond (eqb kind 0) (plain Nothing)
    (cond (eqb kind 1) (plain Reset)
    (cond (eqb kind 2) (plain Suspend)
    (cond (eqb kind 3) (plain Resume)
    (cond (eqb kind 4) (data_of s) (Err (refusal 10))))))

-- a record that is malformed or partial is refusal 10
abbrev pub known_of : List ℕ → Result Happening Refusal
known_of s = cond (eqb (length s) event_room) (kind_of (get_or s 0 0) s) (Err (refusal 10))
