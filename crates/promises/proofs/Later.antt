-- What a reset leaves out of sight for good. It stands apart from `reset-forgets`, so that a wrong variant of that is refused there.
-- Assumes nothing.
use Prim.Native.Nat.{ℕ}
use mathlib.Core.Path.{◌≡◌, ap}
use mathlib.Core.List.{List}
use Rattle.events.specs.declared.Event.TheVariants.{Reset}
use Rattle.device.specs.declared.Device.{Device}
use Rattle.device.specs.Device.{refused_by}
use Rattle.promises.specs.History.{Moment, happens, after, seen}
use Rattle.promises.proofs.Reset.{reset-forgets}

-- So nothing that happens later can show what was before the reset: no answer, no packet, no byte handed out, no refusal.
pub reset-seen : (d d' : Device) (book s room : List ℕ) → d.profile ≡ d'.profile → d.live.kept.powered ≡ d'.live.kept.powered → refused_by d book room ≡ 0 → refused_by d' book room ≡ 0
    → (ms : List Moment) → seen (after d (happens Reset book s room)) ms ≡ seen (after d' (happens Reset book s room)) ms
reset-seen d d' book s room p q z z' ms = ap (λ (x : Device). seen x ms) (reset-forgets d d' book s room p q z z')
