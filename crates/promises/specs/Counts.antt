-- IN-completes alone, with every write taken.
use Rattle.std.specs.Prelude.{ℕ, ◌≤◌, Bool, true, false, List, [], ◌∷◌, ◌≡◌, length}
use Rattle.answers.specs.Answers.{Answer, stall, tell, tiles, accept}
use Rattle.events.specs.declared.Write.TheVariants.{Taken}
use Rattle.events.specs.declared.Arrival.{Arrival}
use Rattle.events.specs.declared.Event.TheVariants.{Nothing, Reset, Suspend, Resume, Data}
use Rattle.events.specs.Events.{odd}
use Rattle.promises.specs.History.{Moment, happens, powers, asks}

-- an answer that has bytes to send, though perhaps none of them
abbrev pub speaks : Answer → Bool
speaks stall = false
speaks (tell bytes) = true
speaks (tiles start) = true
speaks (accept effect) = false

-- an IN-complete and nothing else of endpoint 0, its write taken, with the book and with room for a packet
pub record Completion (size : ℕ) (book : List ℕ) (a : Arrival) (lent room : List ℕ) : Type 0 where
  pub done : odd a.done ≡ true
  pub setup : odd a.setup ≡ false
  pub out : odd a.out ≡ false
  pub write : a.write ≡ Taken
  pub same : lent ≡ book
  pub enough : size ≤ length room

abbrev pub Completes : ℕ → List ℕ → Moment → Type 0
Completes size book (happens Nothing b s room) = ⊥
Completes size book (happens Reset b s room) = ⊥
Completes size book (happens Suspend b s room) = ⊥
Completes size book (happens Resume b s room) = ⊥
Completes size book (happens (Data a) b s room) = Completion size book a b room
Completes size book (powers on) = ⊥
Completes size book (asks room) = ⊥

-- nothing but those
abbrev pub Complete : ℕ → List ℕ → List Moment → Type 0
Complete size book [] = Unit {0}
Complete size book (m ∷ ms) = Completes size book m × Complete size book ms
