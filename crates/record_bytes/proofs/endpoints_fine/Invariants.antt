use Rattle.record_bytes.specs.Codes.{entries}
use Rattle.record_bytes.specs.Layout.{endpoint_size, endpoint_coded, same}
use Rattle.plan.specs.Sizes.{endpoint_room}
use Rattle.common.specs.Lists.{every}
use lib.ListN.{drop}
use mathlib.Core.Path.{◌≡◌}
use Prim.Native.Nat.{◌-◌, ◌*◌}
use Rattle.record_bytes.proofs.endpoints_fine.Given as goal

abbrev pub invariant-loop-i : goal.invariant-loop-i
invariant-loop-i l = every endpoint_coded (entries endpoint_room endpoint_size same l.s) ≡ every endpoint_coded (entries (endpoint_room - l.i) endpoint_size same (drop (endpoint_size * l.i) l.s))
