use Rattle.state.proofs.Laws.{read_some}
use Rattle.state.proofs.read.Goals as goal

pub returns : goal.returns
returns c = let k = rw c.in_ok-parts.ensures.ok_part at c.of.ensures in rw c.device.ensures (read_some c.args.s.now k)
