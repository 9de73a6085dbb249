use Rattle.std.proofs.Common.{sym}
use Rattle.common.proofs.Refusals.{named}
use Rattle.link.proofs.sooner.Goals as goal

pub returns-then-coded : goal.returns-then-coded
returns-then-coded c = rw c.if-coded.true (sym (named c.args.why))
