use mathlib.Core.Path.{◌≡◌}
use mathlib.Core.List.{map}
use lib.ListN.{length}
use Rattle.common.specs.Lists.{none_twice}
use Rattle.limits.proofs.none_twice.Given as goal

-- what is left decides
abbrev pub invariant-loop-rest : goal.invariant-loop-rest
invariant-loop-rest g l = none_twice (map g.T.Keyed.key l.list) ≡ none_twice (map g.T.Keyed.key l.rest)

abbrev pub decreases-loop-rest : goal.decreases-loop-rest
decreases-loop-rest g l = length l.rest
