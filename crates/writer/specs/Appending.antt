-- Document 01, module 2: the writer holds the lent answer buffer and its position. An answer is appended whole, or not at all.
use Rattle.std.specs.Prelude.{ℕ, ◌+◌, List, ◌≡◌, Option, Some, None, Ok, Err}
use denote.Ref.{MutBor, at_last}
use Rattle.descriptor.specs.Writing.{Written, wrote_answer, wrote_buffer}
use Rattle.writer.specs.declared.Writer.{Writer}

-- a writer at the start of a buffer
abbrev pub begun : MutBor (List ℕ) → Writer
begun buf = record { buf = buf; at = 0 }

-- the position behind the bytes that were written; as it was where none were
abbrev pub past : Written → ℕ → ℕ
past (Ok (Some n)) at = at + n
past (Ok None) at = at
past (Err why) at = at

-- the next position after an answer of a record that a number refuses, or 0
unfoldable pub next_of : ℕ → Option (List ℕ) → List ℕ → ℕ → ℕ
next_of number answer buf at = past (wrote_answer number answer buf at) at

-- a writer after an answer: the same borrow at the buffer that the answer leaves, and the next position
abbrev pub appended : Writer → ℕ → Option (List ℕ) → Writer
appended w number answer = record { buf = at_last w.buf (wrote_buffer number answer w.buf.now w.at); at = next_of number answer w.buf.now w.at }

-- what a writer says of itself: its position, and its buffer as it is
pub record Position (r : ℕ) (exit : List ℕ) (w : Writer) : Type 0 where
  pub value : r ≡ w.at
  pub buffer : exit ≡ w.buf.now
