-- Laws of an event that the proofs cite. Assumes nothing.
use Prim.Native.Nat.{ℕ}
use mathlib.Core.Bool.{Bool, not, ◌&&◌}
use mathlib.Core.Path.{◌≡◌, refl}
use mathlib.Core.List.{List}
use lib.Dec.{eqb}
use Rattle.std.specs.Prelude.{Option, Some, None}
use Rattle.common.proofs.Laws.{cond-elim}
use Rattle.control_pipe.specs.declared.Stage.{Stage}
use Rattle.control_pipe.specs.declared.Stage.TheVariants.{Idle, DataIn, DataInZlp, DataInLast, CompleteIn, StatusOut, CompleteOut, DataOut, StatusIn, Error}
use Rattle.control_pipe.specs.declared.Pipe.{Pipe}
use Rattle.control_pipe.specs.Stages.{send_chunk, in_at, in_complete}
use Rattle.answers.specs.declared.Verdict.{Verdict}
use Rattle.answers.specs.declared.Verdict.TheVariants.{Bytes, Tiles, Accept}
use Rattle.live.specs.declared.Live.{Live}
use Rattle.effects.specs.Effects.{Second, set_out, ticked}

-- the second half leaves the buffer as the first left it, but for the bytes that an answer tells
in-buffer-at : (t : Stage) (size : ℕ) (taken : Bool) (book : List ℕ) (p : Pipe) (b : List ℕ) → (in_at t size taken book p b).buffer ≡ b
unfolding in_at send_chunk
in-buffer-at Idle size taken book p b = refl
in-buffer-at DataIn size taken book p b = refl
in-buffer-at DataInZlp size taken book p b = refl
in-buffer-at DataInLast size taken book p b = refl
in-buffer-at CompleteIn size taken book p b = refl
in-buffer-at StatusOut size taken book p b = refl
in-buffer-at CompleteOut size taken book p b = refl
in-buffer-at DataOut size taken book p b = refl
in-buffer-at StatusIn size taken book p b = refl
in-buffer-at Error size taken book p b = refl

in_buffer : (size : ℕ) (taken : Bool) (book : List ℕ) (p : Pipe) (b : List ℕ) → (in_complete size taken book p b).buffer ≡ b
unfolding in_complete
in_buffer size taken book p b = in-buffer-at p.stage size taken book p b

module _ (size : ℕ) (quirk taken : Bool) (book : List ℕ) (l : Live) (b : List ℕ) where
  pub ticked-buffer : (ticked size quirk taken book l b).buffer ≡ b
  unfolding ticked
  ticked-buffer =
      let m = in_complete size taken book l.pipe b in
      let e = in_buffer size taken book l.pipe b in
      cond-elim (λ (h : Second). h.buffer ≡ b) (m.done && not quirk && not (eqb m.pipe.pending.0 0)) _ _ (λ z. e) (λ z. e)

  pub set-out-buffer : (v : Option Verdict) → (set_out v size quirk taken book l b).buffer ≡ b
  unfolding set_out send_chunk
  set-out-buffer None = refl
  set-out-buffer (Some (Bytes n)) = refl
  set-out-buffer (Some (Tiles start)) = refl
  set-out-buffer (Some (Accept e)) = refl

pub ruleset kept = (ticked-buffer, set-out-buffer)
