use Rattle.std.proofs.Common.{◌≡◌, false, ap₂, ◌∙◌, refl, rules}
use Rattle.common.specs.Refusals.{refusal}
use Rattle.std.specs.Prelude.{Err}
use Rattle.record.specs.declared.Record.{Record}
use Rattle.live.specs.declared.Live.{Live}
use Rattle.device.specs.Device.{of_parts}
use Rattle.device.proofs.Laws.{powered_device}
use Rattle.record_bytes.proofs.Numbers.{Small}
use Rattle.state.specs.State.{state_coded}
use Rattle.state.proofs.Laws.{read_some}
use Rattle.link.proofs.Laws.{ok-of, flag-bad, flag-refused, flag-set}
use Rattle.link.proofs.set_self_powered.Goals as goal

pub returns-in_err-parts-clause-number : goal.returns-in_err-parts-clause-number
returns-in_err-parts-clause-number c =
    let s = c.args.state.now in
    let z : state_coded s ≡ false = search rules in
    let r : c.from_residual.result ≡ Err (refusal 9) = search rules in
    (flag-bad s c.args.on z r).0

pub returns-in_err-parts-clause-state : goal.returns-in_err-parts-clause-state
returns-in_err-parts-clause-state c =
    let s = c.args.state.now in
    let z : state_coded s ≡ false = search rules in
    (flag-bad s c.args.on z refl).1

pub returns-in_err-set_self_powered : goal.returns-in_err-set_self_powered
returns-in_err-set_self_powered c =
    let s = c.args.state.now in
    let b = c.in_ok-parts.parts.buffer.now in
    let d = of_parts c.read-profile.result c.read-live.result b in
    let p = rw c.in_ok-parts.ensures.ok_part at c.of.ensures in
    let k = ok-of (state_coded s) _ (read_some s p) in
    let e = ap₂ (λ (r : Record) (l : Live). of_parts r l b) c.read-profile.ensures c.read-live.ensures ∙ k.1 in
    let r : c.from_residual-in_err-set_self_powered.result ≡ Err c.in_err-set_self_powered.field-0.0 = search rules in
    let x = flag-refused s c.args.on k.0 e (powered_device d c.args.on (rw c.in_err-set_self_powered.was at c.set_self_powered.ensures)) r in
    record { number = x.0; state = x.1 }

pub returns : goal.returns
returns c =
    let s = c.args.state.now in
    let b = c.in_ok-parts.parts.buffer.now in
    let d = of_parts c.read-profile.result c.read-live.result b in
    let p = rw c.in_ok-parts.ensures.ok_part at c.of.ensures in
    let k = ok-of (state_coded s) _ (read_some s p) in
    let e = ap₂ (λ (r : Record) (l : Live). of_parts r l b) c.read-profile.ensures c.read-live.ensures ∙ k.1 in
    let m : Small s = λ i. search rules in
    let x = flag-set s c.args.on k.0 e (powered_device d c.args.on (rw c.in_ok-set_self_powered.was at c.set_self_powered.ensures)) c.keep.ensures.state c.keep.ensures.long m in
    record { number = x.0; state = x.1 }
