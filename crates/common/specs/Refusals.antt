-- Document 01, "When the mast says no": the number of each refusal, and what a call answers that a number refuses.
use Rattle.std.specs.Prelude.{ℕ, ◌-◌, cond, eqb, [], ◌∷◌, get_or, Option, Some, None, Result, Ok, Err}
use Rattle.common.specs.declared.Refusal.{Refusal}
use Rattle.common.specs.declared.Refusal.TheVariants.{PacketSize, Layout, Languages, BookLength, OtherBook, PacketRoom, NoData, DataRoom, BadState, BadEvent, BadSetup, AnswerRoom}

abbrev pub number_of : Refusal → ℕ
number_of PacketSize = 1
number_of Layout = 2
number_of Languages = 3
number_of BookLength = 4
number_of OtherBook = 5
number_of PacketRoom = 6
number_of NoData = 7
number_of DataRoom = 8
number_of BadState = 9
number_of BadEvent = 10
number_of BadSetup = 11
number_of AnswerRoom = 12

-- the same table the other way: the refusal of a number 1 to 12 (`Refusals.named` shows that the two agree)
abbrev pub refusal : ℕ → Refusal
refusal n =
    get_or
    (PacketSize
    ∷ Layout
    ∷ Languages
    ∷ BookLength
    ∷ OtherBook
    ∷ PacketRoom
    ∷ NoData
    ∷ DataRoom
    ∷ BadState
    ∷ BadEvent
    ∷ BadSetup
    ∷ [])
    (n - 1)
    AnswerRoom

-- x unless a number refuses; 0 is no refusal
abbrev pub unless : {A : Type 0} → ℕ → A → Result A Refusal
unless n x = cond (eqb n 0) (Ok x) (Err (refusal n))

-- what stops a run, if a number does
abbrev pub stop : ℕ → Option Refusal
stop n = cond (eqb n 0) None (Some (refusal n))
