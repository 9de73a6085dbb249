-- Each public function's promise settles its outcome. Assumes nothing.
use Prim.Native.Nat.{ℕ}
use mathlib.Core.List.{List}
use denote.RattleType.{RattleType}
use denote.Param.Laws.{Laws}
use mir.Val.{Fits}
use mir.Syntax.{w64}
use Rattle.descriptor.specs.Writing.{Written}
use Rattle.common.proofs.Once.{Once, equal, equals}
use Rattle.descriptor.proofs.device.Reads as device
use Rattle.descriptor.proofs.word_bytes.Reads as word_bytes
use Rattle.descriptor.proofs.counted.Reads as counted

pub device-once : Once {B = Written × List ℕ} device.Post (λ κs x s. (x, s.1.0.now))
device-once κs a x y s t p q = equals p.value p.buffer q.value q.buffer

pub word_bytes-once : Once word_bytes.Post (λ κs x s. x)
word_bytes-once κs a x y s t = equal

-- of a list of any type and size
pub counted-once : (T : RattleType) (N : ℕ) (laws : Laws T) (fits : Fits w64 N) → Once (counted.Post T N laws fits) (λ κs x s. x.now)
counted-once T N laws fits κs a x y s t p q = equal p.0 q.0
