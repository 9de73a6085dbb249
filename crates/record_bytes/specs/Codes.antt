-- How a value stands in bytes: a number little-endian, yes and no as 1 and 0, a list entry by entry.
use Rattle.std.specs.Prelude.{ℕ, zero, suc, ◌+◌, ◌*◌, ◌/◌, ◌%◌, Bool, cond, List, [], ◌∷◌, ◌++◌, eqb, leb, get_or, take, drop}
pub use Rattle.control.specs.Setup.{word_bytes}
use Rattle.control.specs.Setup.{word_at}

-- a number of four bytes (of two: `word_bytes`)
abbrev pub long_bytes : ℕ → List ℕ
long_bytes n = n % 256 ∷ n / 256 % 256 ∷ n / 65536 % 256 ∷ n / 16777216 ∷ []

abbrev pub long_at : List ℕ → ℕ → ℕ
long_at s at = word_at s at + 65536 * word_at s (at + 2)

-- no is 0, yes is 1
abbrev pub flag_code : Bool → ℕ
flag_code b = cond b 1 0

abbrev pub flag_at : List ℕ → ℕ → Bool
flag_at s at = eqb (get_or s at 0) 1

-- whether the byte at a place is one of the codes 0 to most
abbrev pub coded : List ℕ → ℕ → ℕ → Bool
coded s at most = leb (get_or s at 0) most

-- entries one behind the other
unfoldable pub joined : {A : Type 0} → (A → List ℕ) → List A → List ℕ
joined f [] = []
joined f (x ∷ xs) = f x ++ joined f xs

-- n entries of k bytes each
unfoldable pub entries : {A : Type 0} → ℕ → ℕ → (List ℕ → A) → List ℕ → List A
entries zero k f s = []
entries (suc n) k f s = f (take k s) ∷ entries n k f (drop k s)

-- the n values of f from a number on
unfoldable pub numbered : {A : Type 0} → ℕ → ℕ → (ℕ → A) → List A
numbered zero i f = []
numbered (suc n) i f = f i ∷ numbered n (i + 1) f
