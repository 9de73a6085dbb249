-- The public function's promise settles its outcome. Assumes nothing.
use Rattle.common.proofs.Once.{Once, equal}
use Rattle.records.proofs.read.Reads as read

pub read-once : Once read.Post (λ κs x s. x)
read-once κs a x y s t = equal
