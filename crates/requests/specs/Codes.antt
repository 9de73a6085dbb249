-- The codes of the device's state in bytes, and the table that reads them.
use Rattle.std.specs.Prelude.{ℕ, ◌≡◌, [], ◌∷◌, get_or, refl}
use Rattle.requests.specs.declared.State.{State}
use Rattle.requests.specs.declared.State.TheVariants.{Default, Addressed, Configured, Suspend}

abbrev pub state_code : State → ℕ
state_code Default = 0
state_code Addressed = 1
state_code Configured = 2
state_code Suspend = 3

-- the same table the other way: what a code names, at its place
abbrev pub state_of : ℕ → State
state_of n = get_or (Default ∷ Addressed ∷ Configured ∷ []) n Suspend

-- the two agree
pub state_back : (x : State) → state_of (state_code x) ≡ x
state_back Default = refl
state_back Addressed = refl
state_back Configured = refl
state_back Suspend = refl
