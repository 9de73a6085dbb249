-- Document 01, "What goes into the mast" (event): what a step tells the bus, as the five slots that hold it.
use Rattle.std.specs.Prelude.{List, [], ◌∷◌}
use Rattle.effects.specs.declared.Action.{Action}
use Rattle.effects.specs.declared.Action.TheVariants.{Nothing}
use Rattle.actions.specs.declared.Actions.{Actions}

-- one more before the others
abbrev pub consed : Action → Actions → Actions
consed x r = record { first = x; second = r.first; third = r.second; fourth = r.third; fifth = r.fourth }

abbrev pub laid : List Action → Actions → Actions
laid [] r = r
laid (x ∷ xs) r = consed x (laid xs r)

-- a list in its slots; five are never too few for a step (steady/proofs, `five`)
abbrev pub packed : List Action → Actions
packed xs = laid xs (record { first = Nothing; second = Nothing; third = Nothing; fourth = Nothing; fifth = Nothing })

-- the slots in order
abbrev pub slots : Actions → List Action
slots r = r.first ∷ r.second ∷ r.third ∷ r.fourth ∷ r.fifth ∷ []
