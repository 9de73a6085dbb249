-- Each public function's promise settles its outcome: the answer, and each lent byte. Assumes nothing.
use Rattle.std.proofs.Common.{ℕ, List, refl}
use Rattle.common.proofs.Once.{Once, equals}
use Rattle.device.specs.declared.Device.{Device}
use Rattle.lines.specs.declared.Printed.{Printed}
use Rattle.lines.proofs.line.Reads as line
use Rattle.lines.proofs.print.Reads as print

pub line-once : Once {B = ℕ × List ℕ} line.Post (λ κs x s. (x, s.1.1.0.now))
line-once κs a x y s t p q = equals p.value p.out q.value q.out

pub print-once : Once {B = (Printed × Device) × (List ℕ × List ℕ)} print.Post (λ κs x s. ((x, s.0.now), (s.1.1.1.1.0.now, s.1.1.1.1.1.0.now)))
print-once κs a x y s t p q = equals (equals p.value p.device q.value q.device) (equals p.trace p.out q.trace q.out) refl refl
