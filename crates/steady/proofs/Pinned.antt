-- Each public function's promise settles its outcome: the pipe, the requests, the answers and the events. Assumes nothing.
use Prim.Native.Nat.{ℕ}
use mathlib.Core.Path.{◌≡◌, refl}
use mathlib.Core.List.{List}
use Rattle.std.specs.Prelude.{Option, Result, ⊤}
use Rattle.common.specs.declared.Refusal.{Refusal}
use Rattle.common.proofs.Once.{Once, equal, equals}
use Rattle.control_pipe.specs.declared.Heard.{Heard}
use Rattle.control_pipe.specs.declared.Moved.{Moved}
use Rattle.control_pipe.specs.declared.Told.{Told}
use Rattle.control_pipe.specs.declared.Pipe.{Pipe}
use Rattle.control_pipe.proofs.Heard.nothing.Reads as nothing
use Rattle.control_pipe.proofs.Pipe.idle.Reads as idle
use Rattle.control_pipe.proofs.Pipe.stall.Reads as stalled
use Rattle.control_pipe.proofs.Pipe.setup_come.Reads as setup
use Rattle.control_pipe.proofs.Pipe.out_come.Reads as out
use Rattle.control_pipe.proofs.Pipe.in_complete.Reads as complete
use Rattle.control_pipe.proofs.Pipe.accept_in.Reads as accept-in
use Rattle.control_pipe.proofs.Pipe.accept_out.Reads as accept-out
use Rattle.requests.proofs.Kept.set_halt.Reads as halt
use Rattle.requests.proofs.decide.Reads as decide
use Rattle.live.specs.declared.Live.{Live}
use Rattle.live.proofs.Live.fresh.Reads as fresh
use Rattle.live.proofs.book_fine.Reads as book
use Rattle.live.proofs.Live.check.Reads as unfit
use Rattle.live.proofs.Live.check_step.Reads as refusal
use Rattle.live.proofs.Live.set_self_powered.Reads as powered
use Rattle.answers.specs.declared.Verdict.{Verdict}
use Rattle.answers.proofs.write.Reads as write
use Rattle.effects.specs.declared.Half.{Half}
use Rattle.effects.proofs.set_out.Reads as set
use Rattle.effects.proofs.tick.Reads as tick
use Rattle.events.specs.declared.Handled.{Handled}
use Rattle.events.proofs.handle.Reads as handle
use Rattle.control_pipe.proofs.StageCoded.code.Reads as stage-code
use Rattle.control_pipe.proofs.StageCoded.of_code.Reads as stage-of-code
use Rattle.control_pipe.proofs.SourceCoded.code.Reads as source-code
use Rattle.control_pipe.proofs.SourceCoded.of_code.Reads as source-of-code
use Rattle.requests.proofs.StateCoded.code.Reads as state-code
use Rattle.requests.proofs.StateCoded.of_code.Reads as state-of-code

-- an answer, what is changed in place, and a lent list
three : {B C D : Type 0} {x y z : B} {u v w : C} {f g h : D} → x ≡ z → u ≡ w → f ≡ h → y ≡ z → v ≡ w → g ≡ h → ◌≡◌ {A = B × (C × D)} (x, (u, f)) (y, (v, g))
three p q r s t u = equals (equal p s) (equals q r t u) refl refl

-- ---- control_pipe

pub nothing-once : Once nothing.Post (λ κs x s. x)
nothing-once κs a x y s t = equal

pub idle-once : Once idle.Post (λ κs x s. x)
idle-once κs a x y s t = equal

pub stalled-once : Once {B = Told × Pipe} stalled.Post (λ κs x s. (x, s.0.now))
stalled-once κs a x y s t p q = equals p.value p.pipe q.value q.pipe

pub setup-once : Once {B = Heard × (Pipe × List ℕ)} setup.Post (λ κs x s. (x, (s.0.now, s.1.1.1.0.now)))
setup-once κs a x y s t p q = three p.value p.pipe p.buffer q.value q.pipe q.buffer

pub out_once : Once {B = Heard × (Pipe × List ℕ)} out.Post (λ κs x s. (x, (s.0.now, s.1.1.1.0.now)))
out_once κs a x y s t p q = three p.value p.pipe p.buffer q.value q.pipe q.buffer

pub complete-once : Once {B = Moved × (Pipe × List ℕ)} complete.Post (λ κs x s. (x, (s.0.now, s.1.1.1.0.now)))
complete-once κs a x y s t p q = three p.value p.pipe p.room q.value q.pipe q.room

pub accept-in-once : Once {B = Told × (Pipe × List ℕ)} accept-in.Post (λ κs x s. (x, (s.0.now, s.1.1.1.1.1.1.0.now)))
accept-in-once κs a x y s t p q = three p.value p.pipe p.room q.value q.pipe q.room

pub accept-out-once : Once {B = Told × Pipe} accept-out.Post (λ κs x s. (x, s.0.now))
accept-out-once κs a x y s t p q = equals p.value p.pipe q.value q.pipe

-- ---- requests

pub halt-once : Once halt.Post (λ κs x s. s.0.now)
halt-once κs a x y s t = equal

pub decide-once : Once decide.Post (λ κs x s. x)
decide-once κs a x y s t = equal

-- ---- live

pub fresh-once : Once fresh.Post (λ κs x s. x)
fresh-once κs a x y s t = equal

pub book-once : Once book.Post (λ κs x s. x)
book-once κs a x y s t = equal

pub unfit-once : Once unfit.Post (λ κs x s. x)
unfit-once κs a x y s t = equal

pub refusal-once : Once refusal.Post (λ κs x s. x)
refusal-once κs a x y s t = equal

pub powered-once : Once {B = Result ⊤ Refusal × Live} powered.Post (λ κs x s. (x, s.0.now))
powered-once κs a x y s t p q = equals p.value p.live q.value q.live

-- ---- answers

pub write-once : Once {B = Option Verdict × List ℕ} write.Post (λ κs x s. (x, s.1.1.1.0.now))
write-once κs a x y s t p q = equals p.value p.buffer q.value q.buffer

-- ---- effects

pub set-once : Once {B = Half × (Live × List ℕ)} set.Post (λ κs x s. (x, (s.0.now, s.1.1.1.1.1.0.now)))
set-once κs a x y s t p q = three p.value p.live p.room q.value q.live q.room

pub tick-once : Once {B = Half × (Live × List ℕ)} tick.Post (λ κs x s. (x, (s.0.now, s.1.1.1.1.0.now)))
tick-once κs a x y s t p q = three p.value p.live p.room q.value q.live q.room

-- ---- events

pub handle-once : Once {B = Handled × (Live × (List ℕ × List ℕ))} handle.Post (λ κs x s. (x, (s.1.1.0.now, (s.1.1.1.1.0.now, s.1.1.1.1.1.1.0.now))))
handle-once κs a x y s t p q = three p.value p.live (equals p.buffer p.room refl refl) q.value q.live (equals q.buffer q.room refl refl)

-- ---- the codes of enums

pub stage-code-once : Once stage-code.Post (λ κs x s. x)
stage-code-once κs a x y s t = equal

pub stage-of-code-once : Once stage-of-code.Post (λ κs x s. x)
stage-of-code-once κs a x y s t = equal

pub source-code-once : Once source-code.Post (λ κs x s. x)
source-code-once κs a x y s t = equal

pub source-of-code-once : Once source-of-code.Post (λ κs x s. x)
source-of-code-once κs a x y s t = equal

pub state-code-once : Once state-code.Post (λ κs x s. x)
state-code-once κs a x y s t = equal

pub state-of-code-once : Once state-of-code.Post (λ κs x s. x)
state-of-code-once κs a x y s t = equal
