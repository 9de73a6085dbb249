-- A poll's promise settles its outcome: any two that it allows are equal, the device, what is said and the room. Assumes nothing.
use Prim.Native.Nat.{ℕ}
use mathlib.Core.List.{List}
use mathlib.Core.Path.{◌≡◌}
use Rattle.std.specs.Prelude.{Result}
use Rattle.common.specs.declared.Refusal.{Refusal}
use Rattle.common.proofs.Once.{Once, equals}
use Rattle.events.specs.declared.Event.{Event}
use Rattle.device.specs.declared.Device.{Device}
use Rattle.device.specs.declared.Polled.{Polled}
use Rattle.device.specs.declared.Stepped.{Stepped}
use Rattle.poll.specs.Poll.{stepped, Polling}
use Rattle.poll.proofs.poll.Reads as poll
use Rattle.poll.proofs.lend.Reads as lend

pub polling-once : (r r' : Result Polled Refusal) (after after' : Device) (exit exit' : List ℕ) (d : Device) (book : List ℕ) (e : Event) (s entry : List ℕ) → Polling r after exit d book e s entry → Polling r' after' exit' d book e s entry
    → ◌≡◌ {A = Stepped × List ℕ} (stepped after r, exit) (stepped after' r', exit')
polling-once r r' after after' exit exit' d book e s entry p q = equals p.value p.room q.value q.room

pub poll-once : Once {B = Stepped × List ℕ} poll.Post (λ κs x s. (stepped s.0.now x, s.1.1.1.1.0.now))
poll-once κs a x y s t p q = equals p.value p.room q.value q.room

pub lend-once : Once {B = Stepped × List ℕ} lend.Post (λ κs x s. (x, s.1.1.1.1.0.now))
lend-once κs a x y s t p q = equals p.value p.room q.value q.room
