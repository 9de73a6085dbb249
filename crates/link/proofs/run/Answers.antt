use Rattle.std.proofs.Common.{◌≡◌, false, ◌∙◌, rules}
use Rattle.record_bytes.proofs.Numbers.{Small}
use Rattle.state.specs.State.{state_coded}
use Rattle.state.proofs.Laws.{read_some}
use Rattle.link.proofs.Laws.{ok-of, run-bad, run-good}
use Rattle.link.proofs.run.Goals as goal

pub returns-in_err-parts-clause-state : goal.returns-in_err-parts-clause-state
returns-in_err-parts-clause-state c = let a = c.args in let z : state_coded a.state.now ≡ false = search rules in (run-bad a.state.now a.book.now a.events.now a.trace.now z).0

pub returns-in_err-parts-clause-trace : goal.returns-in_err-parts-clause-trace
returns-in_err-parts-clause-trace c = let a = c.args in let z : state_coded a.state.now ≡ false = search rules in (run-bad a.state.now a.book.now a.events.now a.trace.now z).1

pub returns : goal.returns
returns c =
    let a = c.args in
    let p = rw c.in_ok-parts.ensures.ok_part at c.of.ensures in
    let k = ok-of (state_coded a.state.now) _ (read_some a.state.now p) in
    let m : Small a.state.now = λ i. search rules in
    let x = run-good a.state.now a.book.now a.events.now a.trace.now k.0 (c.device-device.ensures ∙ k.1) c.run-ran.ensures c.keep.ensures.state c.keep.ensures.long m in
    record { ran = rw (k.0, x.0); state = x.1; trace = x.2 }
