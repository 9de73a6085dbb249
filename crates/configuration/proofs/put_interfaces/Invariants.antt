use lib.ListN.{drop}
use Rattle.configuration.specs.Configuration.{interface_sets}
use Rattle.common.proofs.Pending.{Pending}
use Rattle.configuration.proofs.put_interfaces.Given as goal

-- what is left to place behind the interfaces that were placed
abbrev pub invariant-loop-number : goal.invariant-loop-number
invariant-loop-number l = Pending (interface_sets l.endpoints 0 l.interfaces) l.fn.buf l.at (interface_sets l.endpoints l.number (drop l.number l.interfaces)) l.buf l.place
