-- Bytes in a list: a part of it, and a part put in its place.
use Rattle.std.specs.Prelude.{ℕ, ◌+◌, Bool, cond, ◌&&◌, List, [], ◌++◌, leb, length, take, drop}

-- whether n elements from `at` on lie inside the list
abbrev pub inside : {A : Type 0} → List A → ℕ → ℕ → Bool
inside s at n = leb (at + n) (length s)

-- the n elements from `at` on
abbrev pub part : {A : Type 0} → ℕ → ℕ → List A → List A
part at n s = take n (drop at s)

-- d with s standing from `at` on
unfoldable pub placed : {A : Type 0} → List A → ℕ → List A → List A
placed d at s = take at d ++ (s ++ drop (at + length s) d)

-- what a copy leaves of d: the part of s at its place, and d as it was where either part runs past its end
unfoldable pub stored : {A : Type 0} → List A → ℕ → List A → ℕ → ℕ → List A
stored d at s from n = cond (inside s from n && inside d at n) (placed d at (part from n s)) d

-- the n elements from `at` on, or nothing where s does not hold them all
unfoldable pub piece : {A : Type 0} → ℕ → ℕ → List A → List A
piece at n s = cond (inside s at n) (part at n s) []

-- a lent room with a packet at its front and nothing behind it changed; as it was where it does not take the packet
unfoldable pub front : {A : Type 0} → List A → List A → List A
front packet room = cond (leb (length packet) (length room)) (packet ++ drop (length packet) room) room
