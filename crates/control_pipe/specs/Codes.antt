-- The codes of a stage and of a source in bytes, and the tables that read them.
use Rattle.std.specs.Prelude.{ℕ, [], ◌∷◌, get_or, ◌≡◌, refl}
use Rattle.control_pipe.specs.declared.Stage.{Stage}
use Rattle.control_pipe.specs.declared.Stage.TheVariants.{Idle, DataIn, DataInZlp, DataInLast, CompleteIn, StatusOut, CompleteOut, DataOut, StatusIn, Error}
use Rattle.control_pipe.specs.declared.Source.{Source}
use Rattle.control_pipe.specs.declared.Source.TheVariants.{Buffer, Book}

abbrev pub stage_code : Stage → ℕ
stage_code Idle = 0
stage_code DataIn = 1
stage_code DataInZlp = 2
stage_code DataInLast = 3
stage_code CompleteIn = 4
stage_code StatusOut = 5
stage_code CompleteOut = 6
stage_code DataOut = 7
stage_code StatusIn = 8
stage_code Error = 9

abbrev pub source_code : Source → ℕ
source_code Buffer = 0
source_code Book = 1

-- the same tables the other way: what a code names, at its place
abbrev pub stage_of : ℕ → Stage
stage_of n = get_or (Idle ∷ DataIn ∷ DataInZlp ∷ DataInLast ∷ CompleteIn ∷ StatusOut ∷ CompleteOut ∷ DataOut ∷ StatusIn ∷ []) n Error

abbrev pub source_of : ℕ → Source
source_of n = get_or (Buffer ∷ []) n Book

-- the two agree
pub stage_back : (x : Stage) → stage_of (stage_code x) ≡ x
stage_back Idle = refl
stage_back DataIn = refl
stage_back DataInZlp = refl
stage_back DataInLast = refl
stage_back CompleteIn = refl
stage_back StatusOut = refl
stage_back CompleteOut = refl
stage_back DataOut = refl
stage_back StatusIn = refl
stage_back Error = refl

pub source_back : (x : Source) → source_of (source_code x) ≡ x
source_back Buffer = refl
source_back Book = refl
