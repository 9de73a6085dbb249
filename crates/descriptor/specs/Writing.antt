-- Document 01, "When the mast says no": what a call that writes a descriptor answers, and what it leaves in the lent buffer.
-- The answer that is asked for is a whole list of bytes, or none where there is no such string.
use Rattle.std.specs.Prelude.{ℕ, cond, List, ◌≡◌, eqb, length, Option, Some, None, Result, Ok, Err}
use Rattle.common.specs.Bytes.{inside, placed}
use Rattle.common.specs.Refusals.{refusal}
use Rattle.common.specs.declared.Refusal.{Refusal}

-- how a call ends: so many bytes, no such string, or a refusal
abbrev pub Written : Type 0
Written = Result (Option ℕ) Refusal

-- of a good record: the whole answer at its place, or refusal 12 and nothing where the room left is less
unfoldable pub put_answer : Option (List ℕ) → List ℕ → ℕ → Written
put_answer None buf at = Ok None
put_answer (Some bytes) buf at = cond (inside buf at (length bytes)) (Ok (Some (length bytes))) (Err (refusal 12))

unfoldable pub put_buffer : Option (List ℕ) → List ℕ → ℕ → List ℕ
put_buffer None buf at = buf
put_buffer (Some bytes) buf at = cond (inside buf at (length bytes)) (placed buf at bytes) buf

-- of any record: one that a number refuses gets that number, and nothing
unfoldable pub wrote_answer : ℕ → Option (List ℕ) → List ℕ → ℕ → Written
wrote_answer number answer buf at = cond (eqb number 0) (put_answer answer buf at) (Err (refusal number))

unfoldable pub wrote_buffer : ℕ → Option (List ℕ) → List ℕ → ℕ → List ℕ
wrote_buffer number answer buf at = cond (eqb number 0) (put_buffer answer buf at) buf

pub record Put (r : Written) (exit : List ℕ) (answer : Option (List ℕ)) (entry : List ℕ) (at : ℕ) : Type 0 where
  pub value : r ≡ put_answer answer entry at
  pub buffer : exit ≡ put_buffer answer entry at

pub record Wrote (r : Written) (exit : List ℕ) (number : ℕ) (answer : Option (List ℕ)) (entry : List ℕ) (at : ℕ) : Type 0 where
  pub value : r ≡ wrote_answer number answer entry at
  pub buffer : exit ≡ wrote_buffer number answer entry at
