-- The fault of the pans: what a pipe reads an answer from, with the rule that did it and with ours, and two short histories that tell
-- them apart.
use Rattle.std.specs.Prelude.{ℕ, ◌-◌, Bool, true, false, cond, not, ◌&&◌, List, [], ◌∷◌, ltb, length, replicate}
use Rattle.control.specs.declared.Request.{Request}
use Rattle.control.specs.Setup.{request_of}
use Rattle.plan.specs.Planning.{bare, with_interface}
use Rattle.record.specs.declared.Record.{Record}
use Rattle.record.specs.Filling.{bare as record_of}
use Rattle.control_pipe.specs.declared.Stage.TheVariants.{CompleteIn}
use Rattle.control_pipe.specs.declared.Read.TheVariants.{Packet}
use Rattle.control_pipe.specs.declared.Source.{Source}
use Rattle.control_pipe.specs.declared.Source.TheVariants.{Buffer, Book}
use Rattle.control_pipe.specs.declared.Reply.{Reply}
use Rattle.control_pipe.specs.Stages.{zeros, fresh, answering, chunk_bytes}
use Rattle.answers.specs.Answers.{Answer, stall, tell, tiles, accept, buffer_of}
use Rattle.events.specs.declared.Write.TheVariants.{Taken}
use Rattle.events.specs.declared.Event.{Event}
use Rattle.events.specs.declared.Event.TheVariants.{Data}
use Rattle.device.specs.declared.Device.{Device}
use Rattle.promises.specs.History.{Moment, happens}
use Rattle.promises.specs.Transfers.{answer_to}

-- ---- two rules for the answer that a pipe had under way, and the new one

abbrev pub Rule : Type 0
Rule = Reply → Reply → Reply

abbrev pub is_book : Source → Bool
is_book Buffer = false
is_book Book = true

-- the Rust's: an answer of the book that was not sent to its end outlives a SETUP, and an answer of the buffer is then read from it
abbrev pub theirs : Rule
theirs old new =
    cond (is_book old.source && ltb old.sent old.len && not (is_book new.source)) (record { source = Book; start = old.start; len = new.len; sent = new.sent }) new

-- ours: nothing of it does
abbrev pub ours : Rule
ours old new = new

-- ---- the first packet of an answer

-- an answer as a pipe holds it
abbrev pub reply_of : Answer → Request → ℕ → Reply
reply_of stall q book = (fresh CompleteIn q 0).reply
reply_of (tell bytes) q book = (answering Buffer 0 (length bytes) (fresh CompleteIn q 0)).reply
reply_of (tiles start) q book = (answering Book start (book - start) (fresh CompleteIn q 0)).reply
reply_of (accept effect) q book = (fresh CompleteIn q 0).reply

-- the first packet of the answer to a SETUP
unfoldable pub first_packet : Rule → Device → List ℕ → List ℕ → List ℕ
first_packet rule d book s =
    let a = answer_to d book s in
    chunk_bytes d.profile.plan.basics.packet (rule d.live.pipe.reply (reply_of a (request_of s) (length book))) (buffer_of a zeros) book

-- ---- two histories

-- a mast with packets of 8 bytes, and a book of four tiles
abbrev pub mast : Record
mast =
    record_of
    (with_interface (record { class = 255; subclass = 0; protocol = 0 })
    (bare
    (record {
      packet = 8;
      class = 0;
      subclass = 0;
      protocol = 0;
      vendor = 4660;
      product = 312;
      release = 256;
      power = 50;
      powered = false;
      wakeup = false;
      quirk = false;
    })))

abbrev pub book : List ℕ
book = replicate 64 7

-- a SETUP, and its bytes: the whole book, and the first 8 bytes of the device descriptor
abbrev pub setup : Event
setup = Data (record { out = 0; done = 0; setup = 1; read = Packet; write = Taken })

abbrev pub tile_read : List ℕ
tile_read = 192 ∷ 1 ∷ 0 ∷ 0 ∷ 0 ∷ 0 ∷ 64 ∷ 0 ∷ []

abbrev pub describe : List ℕ
describe = 128 ∷ 6 ∷ 0 ∷ 1 ∷ 0 ∷ 0 ∷ 8 ∷ 0 ∷ []

-- a laptop reads the book and gives up after one packet; or it does nothing
abbrev pub gave_up : List Moment
gave_up = happens setup book tile_read (replicate 8 0) ∷ []

abbrev pub nothing : List Moment
nothing = []
