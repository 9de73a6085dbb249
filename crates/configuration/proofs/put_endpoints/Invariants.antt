use lib.ListN.{drop}
use Rattle.configuration.specs.Configuration.{owned, joined}
use Rattle.common.proofs.Pending.{Pending}
use Rattle.configuration.proofs.put_endpoints.Given as goal

-- what is left to place behind the endpoints that were looked at
abbrev pub invariant-loop-e : goal.invariant-loop-e
invariant-loop-e l = Pending (joined (owned l.number l.endpoints)) l.fn.buf l.at (joined (owned l.number (drop l.e-index l.endpoints))) l.buf l.place
