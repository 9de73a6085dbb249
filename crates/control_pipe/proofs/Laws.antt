-- Laws of the pipe that its proofs cite. Assumes nothing.
use Prim.Native.Nat.{ℕ, ◌+◌, ◌-◌, ◌≤◌, ◌<◌}
use mathlib.Core.Bool.{Bool, true, false}
use mathlib.Core.Path.{◌≡◌, refl, sym, ap, ◌∙◌}
use mathlib.Core.List.{List, [], ◌∷◌}
use native.Mathlib.Omega.{arith}
use borrow.Author.Tests.{le-leb, lt-leb, leb-true, leb-false}
use lib.Dec.{leb}
use lib.ListN.{length, replicate}
use Rattle.common.specs.Bytes.{placed, stored}
use Rattle.common.proofs.Laws.{stored-full, stored-whole, placed-nil, front-nil, stored-front}
use Rattle.control_pipe.specs.Sizes.{buffer_room}
use Rattle.control_pipe.specs.Stages.{zeros}

-- what fits behind the bytes held is placed there
pub added : (b s : List ℕ) (held n : ℕ) → length b ≡ buffer_room → n ≡ length s → n ≤ buffer_room - held → stored b held s 0 n ≡ placed b held s
added b s held n l e h = at s (leb held buffer_room) refl e
  where
    at : (s : List ℕ) (t : Bool) → leb held buffer_room ≡ t → n ≡ length s → stored b held s 0 n ≡ placed b held s
    at s true k e =
        let m : held ≤ buffer_room = leb-true held buffer_room k in
        let o : held + n ≤ length b = omega arith in
        stored-whole b s held n e o
    at [] false k e =
        let m : length b < held + n = let o : buffer_room < held = leb-false held buffer_room k in omega arith in
        let z : 0 + n ≤ 0 = omega arith in
        sym (stored-full b [] held 0 n (le-leb _ _ z) (lt-leb _ _ m)) ∙ sym (placed-nil b held)
    at (x ∷ xs) false k e = absurd (let o : buffer_room < held = leb-false held buffer_room k in omega arith)

-- a buffer that is cleared is zero
pub cleared : (b : List ℕ) → length b ≡ buffer_room → replicate (length b) 0 ≡ zeros
cleared b e = ap (λ (n : ℕ). replicate n 0) e

-- how a packet stands in a room
pub ruleset fronts = (front-nil, stored-front)
