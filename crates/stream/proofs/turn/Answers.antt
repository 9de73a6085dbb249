use Rattle.std.proofs.Common.{◌≡◌, ◌+◌, ◌-◌, arith, rules}
use Rattle.std.specs.Prelude.{Err}
use Rattle.stream.proofs.Laws.{known-good, turn-bad, turn-unfit, turn-done}
use Rattle.stream.proofs.turn.Goals as goal

pub returns-in_err-event : goal.returns-in_err-event
returns-in_err-event c =
    let a = c.args in
    let why = c.in_err-event.field-0.0 in
    let r : c.from_residual.result ≡ Err why = search rules in
    turn-bad a.device.now a.book.now a.s.now a.entry.now why c.in_err-event.ensures r

pub returns-in_err-fit : goal.returns-in_err-fit
returns-in_err-fit c =
    let a = c.args in
    let why = c.in_err-fit.field-0.0 in
    let r : c.from_residual-in_err-fit.result ≡ Err why = search rules in
    turn-unfit a.device.now a.book.now a.s.now a.entry.now c.in_ok-event.field-0 why c.in_ok-event.ensures c.requires.0 c.in_err-fit.was r

pub slice_bounds-packet-end : goal.slice_bounds-packet-end
slice_bounds-packet-end c = let k = known-good c.args.s.now c.in_ok-event.field-0 c.in_ok-event.ensures in omega (arith, k.0, k.1)

pub returns : goal.returns
returns c =
    let a = c.args in
    let h = c.in_ok-event.field-0 in
    let e : 16 + h.length - 16 ≡ h.length = omega arith in
    turn-done a.device.now a.book.now a.s.now a.entry.now h c.in_ok-event.ensures c.requires.0 c.in_ok-fit.was (rw e at c.handle-handled.ensures) c.said-polled.ensures c.put_entry.ensures c.requires.1
