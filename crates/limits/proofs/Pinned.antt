-- The public promise settles its outcome. Assumes nothing.
use Rattle.common.proofs.Once.{Once, equal}
use Rattle.limits.proofs.check.Reads as check

pub check-once : Once check.Post (λ κs x s. x)
check-once κs a x y s t = equal
