-- Each exported function's promise settles its outcome. Assumes nothing.
use Prim.Native.Nat.{ℕ}
use mathlib.Core.List.{List}
use mathlib.Core.Path.{ap₂}
use Rattle.common.proofs.Once.{Once, equal, equals}
use Rattle.link.proofs.mast_size.Reads as mast-size
use Rattle.link.proofs.mast_build.Reads as mast-build
use Rattle.link.proofs.mast_run.Reads as mast-run
use Rattle.link.proofs.mast_data.Reads as mast-data
use Rattle.link.proofs.mast_set_self_powered.Reads as mast-set

pub size-once : Once mast-size.Post (λ κs x s. x)
size-once κs a x y s t = equal

pub build-once : Once {B = ℕ × List ℕ} mast-build.Post (λ κs x s. (x, s.1.1.0.now))
build-once κs a x y s t p q = equals p.value p.state q.value q.state

pub run-once : Once {B = ℕ × (List ℕ × List ℕ)} mast-run.Post (λ κs x s. (x, (s.0.now, s.1.1.1.0.now)))
run-once κs a x y s t p q = ap₂ (λ (u : ℕ) (v : List ℕ × List ℕ). (u, v)) (equal p.value q.value) (equals p.state p.trace q.state q.trace)

pub data-once : Once {B = ℕ × List ℕ} mast-data.Post (λ κs x s. (x, s.1.0.now))
data-once κs a x y s t p q = equals p.value p.room q.value q.room

pub flag-once : Once {B = ℕ × List ℕ} mast-set.Post (λ κs x s. (x, s.0.now))
flag-once κs a x y s t p q = equals p.value p.state q.value q.state
