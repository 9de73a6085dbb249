-- Document 01, module 5: the line that an event is told in, and the line of a bad record. Letters stand as their ASCII codes.
use Rattle.std.specs.Prelude.{ℕ, zero, suc, ◌+◌, ◌/◌, ◌%◌, cond, List, [], ◌∷◌, ◌++◌, take, nat_lt}
use Rattle.requests.specs.declared.State.{State}
use Rattle.requests.specs.declared.State.TheVariants.{Default, Addressed, Configured, Suspend as Suspended}
use Rattle.effects.specs.declared.Action.{Action}
use Rattle.effects.specs.declared.Action.TheVariants.{Nothing, Resume, Suspend, Reset, UnstallOut, UnstallIn, StallOut, StallIn, Halt, Unhalt, Address, Write, Refused}
use Rattle.actions.specs.declared.Actions.{Actions}

-- a digit below 16: 0 to 9, then a to f
abbrev pub digit : ℕ → ℕ
digit d = cond (nat_lt d 10) (48 + d) (87 + d)

-- a byte in hex
abbrev pub hex_of : ℕ → List ℕ
hex_of b = digit (b / 16) ∷ digit (b % 16) ∷ []

unfoldable pub hexes : List ℕ → List ℕ
hexes [] = []
hexes (b ∷ bs) = hex_of b ++ hexes bs

-- a number in decimal, of at most so many digits; it begins with no 0
unfoldable pub decimal_in : ℕ → ℕ → List ℕ
decimal_in zero n = []
decimal_in (suc k) n = cond (nat_lt n 10) (digit n ∷ []) (decimal_in k (n / 10) ++ (digit (n % 10) ∷ []))

-- a number of 64 bits has at most 20 digits
abbrev pub decimal : ℕ → List ℕ
decimal n = decimal_in 20 n

-- D A C S
abbrev pub letter_of : State → ℕ
letter_of Default = 68
letter_of Addressed = 65
letter_of Configured = 67
letter_of Suspended = 83

-- a space and two letters
abbrev pub word : ℕ → ℕ → List ℕ
word a b = 32 ∷ a ∷ b ∷ []

-- a space, a letter, and what is joined on in hex
abbrev pub joined : ℕ → List ℕ → List ℕ
joined a bytes = 32 ∷ a ∷ hexes bytes

-- an action, with the space before it; the packet is what the step wrote, if it wrote
unfoldable pub word_of : Action → List ℕ → List ℕ
word_of Nothing packet = []
-- rs su rb
word_of Resume packet = word 114 115
word_of Suspend packet = word 115 117
word_of Reset packet = word 114 98
-- uo ui so si
word_of UnstallOut packet = word 117 111
word_of UnstallIn packet = word 117 105
word_of StallOut packet = word 115 111
word_of StallIn packet = word 115 105
-- h c a
word_of (Halt e) packet = joined 104 (e.0 ∷ [])
word_of (Unhalt e) packet = joined 99 (e.0 ∷ [])
word_of (Address a) packet = joined 97 (a.0 ∷ [])
-- w x
word_of (Write n) packet = joined 119 (take n packet)
word_of (Refused n) packet = joined 120 (take n packet)

abbrev pub words_of : Actions → List ℕ → List ℕ
words_of a packet = word_of a.first packet ++ (word_of a.second packet ++ (word_of a.third packet ++ (word_of a.fourth packet ++ word_of a.fifth packet)))

-- number, state and actions, and the end of the line
unfoldable pub line_of : ℕ → State → Actions → List ℕ → List ℕ
line_of n state actions packet = decimal n ++ (32 ∷ letter_of state ∷ (words_of actions packet ++ (10 ∷ [])))

-- a malformed or partial record: its number and `! 10`
unfoldable pub bad_line : ℕ → List ℕ
bad_line n = decimal n ++ (32 ∷ 33 ∷ 32 ∷ 49 ∷ 48 ∷ 10 ∷ [])
