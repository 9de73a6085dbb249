use Rattle.std.proofs.Common.{◌<◌, ◌^◌, length, rules}
use Rattle.state.specs.State.{state_coded}
use Rattle.link.proofs.Laws.{ok-of, err-of, count_fits, run-told, run-untold}
use Rattle.link.proofs.mast_run.Goals as goal

pub answer-requires : goal.answer-requires
answer-requires c =
    let a = c.args in
    let k = ok-of (state_coded a.state.now) _ c.in-Ok.ensures.ran in
    let l : length a.trace.now < 2 ^ 64 = search rules in
    count_fits a.state.now a.book.now a.events.now a.trace.now k.1 l

pub returns-in-Ok : goal.returns-in-Ok
returns-in-Ok c =
    let a = c.args in
    let k = ok-of (state_coded a.state.now) _ c.in-Ok.ensures.ran in
    record { value = run-told a.state.now a.book.now a.events.now a.trace.now k.0 k.1 c.answer.ensures; state = c.run.ensures.state; trace = c.run.ensures.trace }

pub returns-in-Err : goal.returns-in-Err
returns-in-Err c =
    let a = c.args in
    let k = err-of (state_coded a.state.now) _ c.in-Err.ensures.ran in
    record { value = run-untold a.state.now a.book.now a.events.now a.trace.now k.0 k.1 c.answer-in-Err.ensures; state = c.run.ensures.state; trace = c.run.ensures.trace }
