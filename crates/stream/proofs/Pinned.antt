-- The run's promise settles its outcome. Assumes nothing.
use Rattle.std.proofs.Common.{List, ℕ}
use mathlib.Core.Path.{ap₂}
use Rattle.common.proofs.Once.{Once, equal, equals}
use Rattle.device.specs.declared.Device.{Device}
use Rattle.stream.specs.declared.Ran.{Ran}
use Rattle.stream.proofs.run.Reads as run

pub run-once : Once {B = Ran × (Device × List ℕ)} run.Post (λ κs x s. (x, (s.0.now, s.1.1.1.0.now)))
run-once κs a x y s t p q = ap₂ (λ (u : Ran) (v : Device × List ℕ). (u, v)) (equal p.value q.value) (equals p.device p.trace q.device q.trace)
