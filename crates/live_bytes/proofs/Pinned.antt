-- Each public function's promise settles its outcome. Assumes nothing.
use Rattle.common.proofs.Once.{Once, equal}
use Rattle.live_bytes.proofs.read.Reads as read
use Rattle.live_bytes.proofs.fine.Reads as fine
use Rattle.live_bytes.proofs.write.Reads as write

pub read-once : Once read.Post (λ κs x s. x)
read-once κs a x y s t = equal

pub fine-once : Once fine.Post (λ κs x s. x)
fine-once κs a x y s t = equal

pub write-once : Once write.Post (λ κs x s. x)
write-once κs a x y s t = equal
