-- USB 2.0 section 8.5.3 (control transfers) and document 01, module 3: what the pipe does at a SETUP, at an OUT packet and at an
-- IN-complete, at each stage. Nothing here knows what a request means.
use Rattle.std.specs.Prelude.{ℕ, ◌+◌, ◌-◌, min, Bool, true, false, cond, List, [], ◌≡◌, eqb, leb, length, replicate, Result, Ok, Err}
use Rattle.common.specs.declared.Refusal.{Refusal}
use Rattle.common.specs.Bytes.{placed, piece, front}
use Rattle.control.specs.declared.Direction.{Direction}
use Rattle.control.specs.declared.Direction.TheVariants.{In, Out}
use Rattle.control.specs.declared.RequestType.TheVariants.{Standard}
use Rattle.control.specs.declared.Recipient.TheVariants.{Device}
use Rattle.control.specs.declared.Request.{Request}
use Rattle.control.specs.Setup.{parsed}
use Rattle.control_pipe.specs.declared.Stage.{Stage}
use Rattle.control_pipe.specs.declared.Stage.TheVariants.{Idle, DataIn, DataInZlp, DataInLast, CompleteIn, StatusOut, CompleteOut, DataOut, StatusIn, Error}
use Rattle.control_pipe.specs.declared.Read.{Read}
use Rattle.control_pipe.specs.declared.Read.TheVariants.{Packet, Block, Fault}
use Rattle.control_pipe.specs.declared.Told.{Told}
use Rattle.control_pipe.specs.declared.Told.TheVariants.{Nothing, Unstalls, UnstallsStalls, Stalls, UnstallOut, Write, Refused as Declined}
use Rattle.control_pipe.specs.declared.Source.{Source}
use Rattle.control_pipe.specs.declared.Source.TheVariants.{Buffer, Book}
use Rattle.control_pipe.specs.declared.Reply.{Reply}
use Rattle.control_pipe.specs.declared.Pipe.{Pipe}
use Rattle.control_pipe.specs.declared.Heard.{Heard}
use Rattle.control_pipe.specs.declared.Moved.{Moved}
use Rattle.control_pipe.specs.Sizes.{buffer_room}

-- what the pipe does at once: pipe and buffer then, what the bus is told, the packet that it is given, and whether something is
-- complete (a request; at an IN-complete a status stage)
pub record Move : Type 0 where
  pub pipe : Pipe
  pub buffer : List ℕ
  pub told : Told
  pub packet : List ℕ
  pub done : Bool

-- ---- what can happen at any stage

abbrev pub at : Stage → Pipe → Pipe
at s p = record p { stage = s }

-- nothing
abbrev pub still : Pipe → List ℕ → Move
still p b = record { pipe = p; buffer = b; told = Nothing; packet = []; done = false }

-- a request is complete, to be decided at once
abbrev pub ready : Pipe → List ℕ → Move
ready p b = record { pipe = p; buffer = b; told = Nothing; packet = []; done = true }

-- section 8.5.3.4: a control pipe stalls in both directions; its stalls are the halts of endpoint 0
abbrev pub stalled : Pipe → List ℕ → Move
stalled p b =
    record {
      pipe = record p { stage = Error; stallout = true; stallin = true };
      buffer = b;
      told = Stalls;
      packet = [];
      done = false;
    }

-- ---- SETUP (section 8.5.3)

-- the pipe of an accepted SETUP: nothing of the pipe before it is in it
abbrev pub fresh : Stage → Request → ℕ → Pipe
fresh s q n =
    record {
      stage = s;
      stallout = false;
      stallin = false;
      pending = record { 0 = 0 };
      request = q;
      coming = record { awaited = n; held = 0 };
      reply = record { source = Buffer; start = 0; len = 0; sent = 0 };
    }

-- at building, and after a reset
abbrev pub idle : Pipe
idle = fresh Idle (record { direction = Out; kind = Standard; recipient = Device; request = 0; value = 0; index = 0; length = 0 }) 0

abbrev pub zeros : List ℕ
zeros = replicate buffer_room 0

-- section 8.5.3.4: a SETUP ends the halts of endpoint 0. The buffer is zero; a request may be complete
abbrev pub opened : Pipe → Bool → Move
opened p done = record { pipe = p; buffer = zeros; told = Unstalls; packet = []; done = done }

-- ended and stalled again
abbrev pub overlong : Request → Move
overlong q =
    record {
      pipe = (stalled (fresh Error q 0) zeros).pipe;
      buffer = zeros;
      told = UnstallsStalls;
      packet = [];
      done = false;
    }

-- OUT: wLength 0 is complete, 1 to 128 has a data stage, more stalls
unfoldable pub begin_out : Request → Move
begin_out q =
    cond (eqb q.length 0) (opened (fresh CompleteOut q 0) true)
    (cond (leb q.length buffer_room) (opened (fresh DataOut q q.length) false) (overlong q))

-- IN: complete
unfoldable pub begin_by : Direction → Request → Move
begin_by Out q = begin_out q
begin_by In q = opened (fresh CompleteIn q 0) true

unfoldable pub begun : Result Request Refusal → Pipe → List ℕ → Move
begun (Ok q) p b = begin_by q.direction q
begun (Err why) p b = still p b

unfoldable pub setup_come : Read → List ℕ → Pipe → List ℕ → Move
setup_come Packet s p b = begun (parsed s) p b
setup_come Block s p b = still p b
setup_come Fault s p b = still p b

-- ---- OUT (sections 8.5.3 and 8.5.3.1)

-- n more bytes are held
abbrev pub grown : ℕ → Pipe → Pipe
grown n p = record p { coming = record { awaited = p.coming.awaited; held = p.coming.held + n } }

-- complete when the bytes so far reach wLength
abbrev pub filled : Pipe → List ℕ → Move
filled p b =
    let full = leb p.coming.awaited p.coming.held in
    record { pipe = at (cond full CompleteOut DataOut) p; buffer = b; told = Nothing; packet = []; done = full }

-- a packet that the rest of the buffer does not take is a fault
unfoldable pub add_packet : List ℕ → Pipe → List ℕ → Move
add_packet s p b = cond (leb (length s) (buffer_room - p.coming.held)) (filled (grown (length s) p) (placed b p.coming.held s)) (stalled p b)

-- in the OUT data stage
unfoldable pub add_read : Read → List ℕ → Pipe → List ℕ → Move
add_read Packet s p b = add_packet s p b
add_read Block s p b = still p b
add_read Fault s p b = stalled p b

-- in an IN transfer: the host's status, early or not
unfoldable pub end_read : Read → ℕ → Pipe → List ℕ → Move
end_read Packet n p b = still (cond (eqb n 0) (at Idle p) p) b
end_read Block n p b = still p b
end_read Fault n p b = still p b

-- where no OUT packet is due
unfoldable pub bad_read : Read → ℕ → Pipe → List ℕ → Move
bad_read Packet n p b = cond (eqb n 0) (stalled p b) (still p b)
bad_read Block n p b = still p b
bad_read Fault n p b = still p b

unfoldable pub out_at : Stage → Read → List ℕ → Pipe → List ℕ → Move
out_at Idle r s p b = bad_read r (length s) p b
out_at DataIn r s p b = end_read r (length s) p b
out_at DataInZlp r s p b = end_read r (length s) p b
out_at DataInLast r s p b = end_read r (length s) p b
out_at CompleteIn r s p b = bad_read r (length s) p b
out_at StatusOut r s p b = end_read r (length s) p b
out_at CompleteOut r s p b = bad_read r (length s) p b
out_at DataOut r s p b = add_read r s p b
out_at StatusIn r s p b = bad_read r (length s) p b
out_at Error r s p b = bad_read r (length s) p b

unfoldable pub out_come : Read → List ℕ → Pipe → List ℕ → Move
out_come r s p b = out_at p.stage r s p b

-- ---- IN (sections 8.5.3 and 8.5.3.2)

-- what the bus is told of a packet of n bytes, taken or refused
abbrev pub written : Bool → ℕ → Told
written taken n = cond taken (Write n) (Declined n)

abbrev pub bytes_of : Source → List ℕ → List ℕ → List ℕ
bytes_of Buffer b book = b
bytes_of Book b book = book

-- a chunk is min(left, packet size)
abbrev pub chunk : ℕ → Reply → ℕ
chunk size a = min (a.len - a.sent) size

abbrev pub chunk_bytes : ℕ → Reply → List ℕ → List ℕ → List ℕ
chunk_bytes size a b book = piece (a.start + a.sent) (chunk size a) (bytes_of a.source b book)

-- whether an empty packet follows the last chunk, of n bytes: if it was full
abbrev pub empty_follows : ℕ → ℕ → Pipe → Bool
empty_follows size n p = eqb n size

-- where a taken chunk of n bytes leads
unfoldable pub after_chunk : ℕ → ℕ → Pipe → Stage
after_chunk size n p = cond (leb p.reply.len (p.reply.sent + n)) (cond (empty_follows size n p) DataInZlp DataInLast) DataIn

unfoldable pub advanced : ℕ → ℕ → Pipe → Pipe
advanced size n p = record p { stage = after_chunk size n p; reply = record p.reply { sent = p.reply.sent + n } }

-- the next chunk; a refused write leaves the pipe as it is
unfoldable pub send_chunk : ℕ → Bool → List ℕ → Pipe → List ℕ → Move
send_chunk size taken book p b =
    let n = chunk size p.reply in
    record {
      pipe = cond taken (advanced size n p) p;
      buffer = b;
      told = written taken n;
      packet = chunk_bytes size p.reply b book;
      done = false;
    }

-- an empty packet, and the stage that it leads to
abbrev pub send_empty : Bool → Stage → Pipe → List ℕ → Move
send_empty taken next p b = record { pipe = cond taken (at next p) p; buffer = b; told = written taken 0; packet = []; done = false }

-- all is sent: the host's status may come
abbrev pub await_status : Pipe → List ℕ → Move
await_status p b =
    record {
      pipe = record p { stage = StatusOut; stallout = false };
      buffer = b;
      told = UnstallOut;
      packet = [];
      done = false;
    }

unfoldable pub in_at : Stage → ℕ → Bool → List ℕ → Pipe → List ℕ → Move
in_at Idle size taken book p b = still p b
in_at DataIn size taken book p b = send_chunk size taken book p b
in_at DataInZlp size taken book p b = send_empty taken DataInLast p b
in_at DataInLast size taken book p b = await_status p b
in_at CompleteIn size taken book p b = still p b
in_at StatusOut size taken book p b = still p b
in_at CompleteOut size taken book p b = still p b
in_at DataOut size taken book p b = still p b
in_at StatusIn size taken book p b = ready (at Idle p) b
in_at Error size taken book p b = still p b

unfoldable pub in_complete : ℕ → Bool → List ℕ → Pipe → List ℕ → Move
in_complete size taken book p b = in_at p.stage size taken book p b

-- ---- how a complete request is answered

-- IN: length min(length, wLength), first packet at once
abbrev pub answering : Source → ℕ → ℕ → Pipe → Pipe
answering source start n p = record p { stage = DataIn; reply = record { source = source; start = start; len = min n p.request.length; sent = 0 } }

abbrev pub accept_in : Source → ℕ → ℕ → ℕ → Bool → List ℕ → Pipe → List ℕ → Move
accept_in source start n size taken book p b = send_chunk size taken book (answering source start n p) b

-- OUT: an empty packet is the status; refused, it leaves `CompleteOut`
abbrev pub accept_out : Bool → Pipe → List ℕ → Move
accept_out taken p b = send_empty taken StatusIn p b

-- ---- what the code promises of a move

-- of one that may change the buffer: what is heard, and pipe and buffer then
pub record Took (r : Heard) (after : Pipe) (exit : List ℕ) (m : Move) : Type 0 where
  pub value : r ≡ record { told = m.told; complete = m.done }
  pub pipe : after ≡ m.pipe
  pub buffer : exit ≡ m.buffer

-- of one that may write the room
pub record Sent (r : Moved) (after : Pipe) (exit : List ℕ) (m : Move) (entry : List ℕ) : Type 0 where
  pub value : r ≡ record { told = m.told; done = m.done }
  pub pipe : after ≡ m.pipe
  pub room : exit ≡ front m.packet entry

-- .. and that completes nothing
pub record Said (r : Told) (after : Pipe) (exit : List ℕ) (m : Move) (entry : List ℕ) : Type 0 where
  pub value : r ≡ m.told
  pub pipe : after ≡ m.pipe
  pub room : exit ≡ front m.packet entry

-- of one that touches the pipe alone, whatever buffer there is
pub record Turned (r : Told) (after : Pipe) (m : Move) : Type 0 where
  pub value : r ≡ m.told
  pub pipe : after ≡ m.pipe
