-- The records' promises settle them. Assumes nothing.
use Rattle.common.proofs.Once.{Once, equal}
use Rattle.pan.proofs.noted.Reads as noted
use Rattle.pan.proofs.sized.Reads as sized

pub noted-once : Once noted.Post (λ κs x s. x)
noted-once κs a x y s t = equal

pub sized-once : Once sized.Post (λ κs x s. x)
sized-once κs a x y s t = equal
