-- Each public function's promise settles its outcome. Assumes nothing.
use Prim.Native.Nat.{ℕ}
use mathlib.Core.List.{List}
use Rattle.descriptor.specs.Writing.{Written}
use Rattle.common.proofs.Once.{Once, equals}
use Rattle.strings.proofs.write.Reads as write

pub write-once : Once {B = Written × List ℕ} write.Post (λ κs x s. (x, s.1.1.1.0.now))
write-once κs a x y s t p q = equals p.value p.buffer q.value q.buffer
