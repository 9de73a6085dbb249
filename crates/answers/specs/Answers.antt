-- USB 2.0 sections 9.4.2 to 9.4.5 and document 01, module 4: the bytes that a request is answered with.
use Rattle.std.specs.Prelude.{ℕ, ◌/◌, ◌%◌, cond, List, [], ◌∷◌, ◌≡◌, eqb, length, drop, Ok, Err, Option, Some, None}
use Rattle.common.specs.Bytes.{placed}
use Rattle.control.specs.declared.Request.{Request}
use Rattle.record.specs.declared.Record.{Record}
use Rattle.limits.specs.Limits.{lowest}
use Rattle.descriptor.specs.Writing.{Written}
use Rattle.writer.specs.Descriptors.{descriptor_of}
use Rattle.control_pipe.specs.declared.Pipe.{Pipe}
use Rattle.requests.specs.declared.Kept.{Kept}
use Rattle.requests.specs.declared.Effect.{Effect}
use Rattle.requests.specs.declared.Decision.{Decision}
use Rattle.requests.specs.declared.Decision.TheVariants.{Status, Byte, Describe, Tiles as TilesFrom, Accept as AcceptIt}
use Rattle.requests.specs.Requests.{decided}
use Rattle.answers.specs.declared.Verdict.{Verdict}
use Rattle.answers.specs.declared.Verdict.TheVariants.{Bytes, Tiles, Accept}

-- stall; send these bytes; send the book from a byte on; accept, with its effect
pub data Answer : Type 0 where
  stall : Answer
  tell : List ℕ → Answer
  tiles : ℕ → Answer
  accept : Effect → Answer

-- what is missing stalls
abbrev pub told : Option (List ℕ) → Answer
told None = stall
told (Some bytes) = tell bytes

-- a record that a number refuses has no descriptor
abbrev pub told_by : ℕ → Option (List ℕ) → Answer
told_by number bytes = cond (eqb number 0) (told bytes) stall

unfoldable pub described : Record → Request → Answer
described r q = told_by (lowest r) (descriptor_of r (q.value / 256) (q.value % 256) q.index)

-- what a decision says; a status has two bytes (figures 9-4 to 9-6), a configuration and a setting one
unfoldable pub answer_of : Record → Request → Decision → Answer
answer_of r q (Status n) = tell (n ∷ 0 ∷ [])
answer_of r q (Byte n) = tell (n ∷ [])
answer_of r q Describe = described r q
answer_of r q (TilesFrom start) = tiles start
answer_of r q (AcceptIt effect) = accept effect

-- what is not decided stalls
abbrev pub answered : Record → Request → Option Decision → Answer
answered r q None = stall
answered r q (Some d) = answer_of r q d

-- chapter 9 whole: the answer to the pipe's request, of a record, of what outlives a SETUP and of a book of so many bytes
unfoldable pub answer : Record → Kept → Pipe → ℕ → Answer
answer r k p book = answered r p.request (decided k p book)

-- the bytes of an answer
unfoldable pub bytes_of : Answer → List ℕ → List ℕ
bytes_of stall book = []
bytes_of (tell bytes) book = bytes
bytes_of (tiles start) book = drop start book
bytes_of (accept effect) book = []

-- ---- what the code promises

abbrev pub verdict_of : Answer → Option Verdict
verdict_of stall = None
verdict_of (tell bytes) = Some (Bytes (length bytes))
verdict_of (tiles start) = Some (Tiles start)
verdict_of (accept effect) = Some (Accept effect)

-- bytes that are told stand at the front of the buffer
abbrev pub buffer_of : Answer → List ℕ → List ℕ
buffer_of stall b = b
buffer_of (tell bytes) b = placed b 0 bytes
buffer_of (tiles start) b = b
buffer_of (accept effect) b = b

pub record Answered (r : Option Verdict) (exit : List ℕ) (a : Answer) (entry : List ℕ) : Type 0 where
  pub value : r ≡ verdict_of a
  pub buffer : exit ≡ buffer_of a entry

-- of what a writer answers: what is not written stalls
abbrev pub filled_as : Written → Option Verdict
filled_as (Ok (Some n)) = Some (Bytes n)
filled_as (Ok None) = None
filled_as (Err why) = None
