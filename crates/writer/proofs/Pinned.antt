-- Each public function's promise settles its outcome: any two that it allows are equal. Assumes nothing.
use Prim.Native.Nat.{ℕ}
use mathlib.Core.List.{List}
use Rattle.common.proofs.Once.{Once, equal, equals}
use Rattle.descriptor.specs.Writing.{Written}
use Rattle.writer.specs.declared.Writer.{Writer}
use Rattle.writer.proofs.Writer.new.Reads as new
use Rattle.writer.proofs.Writer.append.Reads as append
use Rattle.writer.proofs.Writer.position.Reads as position
use Rattle.writer.proofs.fill.Reads as fill

pub new-once : Once new.Post (λ κs x s. x)
new-once κs a x y s t p q = equal p.0 q.0

pub append-once : Once {B = Written × Writer} append.Post (λ κs x s. (x, s.0.now))
append-once κs a x y s t p q = equals p.0 p.1 q.0 q.1

pub position-once : Once position.Post (λ κs x s. x)
position-once κs a x y s t p q = equal p.value q.value

pub fill-once : Once {B = Written × List ℕ} fill.Post (λ κs x s. (x, s.1.1.0.now))
fill-once κs a x y s t p q = equals p.value p.buffer q.value q.buffer
