-- Each public function's promise settles its outcome. Assumes nothing.
use Rattle.common.proofs.Once.{Once, equal}
use Rattle.common.proofs.Refusal.number.Reads as number
use Rattle.common.proofs.within.Reads as within
use Rattle.common.proofs.put.Reads as put
use Rattle.common.proofs.clear.Reads as clear

pub number-once : Once number.Post (λ κs x s. x)
number-once κs a x y s t = equal

pub within-once : Once within.Post (λ κs x s. x)
within-once κs a x y s t = equal

pub put-once : Once put.Post (λ κs x s. s.1.1.1.0.now)
put-once κs a x y s t = equal

pub clear-once : Once clear.Post (λ κs x s. s.0.now)
clear-once κs a x y s t = equal
