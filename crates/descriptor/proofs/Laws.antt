-- Laws of writing that the proofs cite. Assumes nothing.
use Prim.Native.Nat.{ℕ}
use mathlib.Core.Bool.{true, false}
use mathlib.Core.Path.{◌≡◌, refl}
use mathlib.Core.List.{List}
use lib.ListN.{length}
use Rattle.std.specs.Prelude.{Option, Some, None, Result, Ok, Err}
use Rattle.common.specs.Bytes.{inside, placed}
use Rattle.common.specs.Refusals.{unless}
use Rattle.common.specs.declared.Refusal.{Refusal}
use Rattle.common.specs.declared.Refusal.TheVariants.{AnswerRoom}
use Rattle.common.proofs.Refusals.{passed, refused}
use Rattle.descriptor.specs.Writing.{Written, Put, Wrote, put_answer, put_buffer, wrote_answer, wrote_buffer}

-- how a write ends
module _ {bytes buf : List ℕ} {at : ℕ} where
  pub put_refused : inside buf at (length bytes) ≡ false → Put (Err AnswerRoom) buf (Some bytes) buf at
  unfolding put_answer put_buffer
  put_refused e = record { value = rw e; buffer = rw e }

  pub put-done : {n : ℕ} {exit : List ℕ} → inside buf at (length bytes) ≡ true → n ≡ length bytes → exit ≡ placed buf at bytes → Put (Ok (Some n)) exit (Some bytes) buf at
  unfolding put_answer put_buffer
  put-done e k x = record { value = rw (e, k); buffer = rw (e, x) }

pub put-missing : {buf : List ℕ} {at : ℕ} → Put (Ok None) buf None buf at
unfolding put_answer put_buffer
put-missing = record { value = refl; buffer = refl }

-- what a test of the record's number tells: a number that refuses, and one that lets the answer be put
module _ {number : ℕ} {answer : Option (List ℕ)} {buf : List ℕ} {at : ℕ} where
  pub wrote-refused : {why : Refusal} → ◌≡◌ {A = Result (Unit {0}) Refusal} (Err why) (unless number tt) → Wrote (Err why) buf number answer buf at
  unfolding wrote_answer wrote_buffer
  wrote-refused {why} e = let f = refused number (tt {0}) why e in record { value = rw (f.0, f.1); buffer = rw f.0 }

  pub wrote-put : {r : Written} {exit : List ℕ} → ◌≡◌ {A = Result (Unit {0}) Refusal} (Ok tt) (unless number tt) → Put r exit answer buf at → Wrote r exit number answer buf at
  unfolding wrote_answer wrote_buffer
  wrote-put e h = let z = passed number (tt {0}) (tt {0}) e in record { value = rw z h.value; buffer = rw z h.buffer }
