use Rattle.std.proofs.Common.{◌≡◌, false, ap₂, ◌∙◌, rules}
use Rattle.record.specs.declared.Record.{Record}
use Rattle.live.specs.declared.Live.{Live}
use Rattle.device.specs.Device.{of_parts}
use Rattle.state.specs.State.{state_coded}
use Rattle.state.proofs.Laws.{read_some}
use Rattle.link.proofs.Laws.{ok-of, data-bad, data-good}
use Rattle.link.proofs.data.Goals as goal

pub returns : goal.returns
returns c =
    let s = c.args.state.now in
    let p = rw c.in_ok-parts.ensures.ok_part at c.of.ensures in
    let k = ok-of (state_coded s) _ (read_some s p) in
    let x = data-good s c.args.room.now k.0 (ap₂ (λ (r : Record) (l : Live). of_parts r l c.in_ok-parts.parts.buffer.now) c.read-profile.ensures c.read-live.ensures ∙ k.1) c.hand_out.ensures in
    record { count = x.0; room = x.1 }

pub returns-in_err-parts-clause-room : goal.returns-in_err-parts-clause-room
returns-in_err-parts-clause-room c = let s = c.args.state.now in let z : state_coded s ≡ false = search rules in data-bad s c.args.room.now z
