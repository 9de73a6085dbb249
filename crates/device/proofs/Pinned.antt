-- Each public function's promise settles its outcome, also of the actions. Assumes nothing.
use Prim.Native.Nat.{ℕ}
use mathlib.Core.List.{List}
use Rattle.std.specs.Prelude.{Result, ⊤}
use Rattle.common.specs.declared.Refusal.{Refusal}
use Rattle.common.proofs.Once.{Once, equal, equals}
use Rattle.actions.proofs.Actions.none.Reads as none
use Rattle.actions.proofs.Actions.tell.Reads as tell
use Rattle.device.specs.declared.Device.{Device}
use Rattle.device.specs.declared.Stepped.{Stepped}
use Rattle.device.proofs.said.Reads as said
use Rattle.device.proofs.hand_out.Reads as hand_out
use Rattle.device.proofs.Device.build.Reads as build
use Rattle.device.proofs.Device.step.Reads as step
use Rattle.device.proofs.Device.data.Reads as data_of
use Rattle.device.proofs.Device.set_self_powered.Reads as powered

pub none-once : Once none.Post (λ κs x s. x)
none-once κs a x y s t = equal

pub tell-once : Once tell.Post (λ κs x s. x)
tell-once κs a x y s t = equal

pub said-once : Once said.Post (λ κs x s. x)
said-once κs a x y s t = equal

pub build-once : Once build.Post (λ κs x s. x)
build-once κs a x y s t = equal

pub step-once : Once {B = Stepped × List ℕ} step.Post (λ κs x s. (x, s.1.1.1.1.0.now))
step-once κs a x y s t p q = equals p.value p.room q.value q.room

pub hand_out_once : Once {B = Result ℕ Refusal × List ℕ} hand_out.Post (λ κs x s. (x, s.1.1.1.0.now))
hand_out_once κs a x y s t p q = equals p.value p.room q.value q.room

pub data-once : Once {B = Result ℕ Refusal × List ℕ} data_of.Post (λ κs x s. (x, s.1.0.now))
data-once κs a x y s t p q = equals p.value p.room q.value q.room

pub powered-once : Once {B = Result ⊤ Refusal × Device} powered.Post (λ κs x s. (x, s.0.now))
powered-once κs a x y s t p q = equals p.value p.device q.value q.device
