use Rattle.descriptor.proofs.Laws.{put-missing}
use Rattle.strings.proofs.put_name.Goals as goal

pub returns-then-text-eq0 : goal.returns-then-text-eq0
returns-then-text-eq0 c = rw c.if-text-eq0.true put-missing
