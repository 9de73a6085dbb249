use Rattle.std.proofs.Common.{◌≡◌, refl, ◌+◌, ◌-◌, ◌*◌, sym, ◌∙◌, arith}
use Rattle.common.proofs.Laws.{placed-nil}
use Rattle.stream.specs.Stream.{run_of}
use Rattle.stream.proofs.Laws.{bounds, slice-event, run-start, run-refused, run-again, run-ended}
use Rattle.stream.proofs.run.Goals as goal

pub loop-i-init : goal.loop-i-init
loop-i-init c = record { whole = run-start _ _ _ _ c.args.trace.now; front = sym (placed-nil _ 0); fit = c.check_step-fit.ensures }

pub overflow_mul-rest : goal.overflow_mul-rest
overflow_mul-rest c = let a = c.args in let b = bounds a.events.now a.trace.now c.loop-i.trace c.turns-turns.ensures c.loop-i-test.true c.loop-i.auto.trace in omega (arith, b.0)

pub slice_bounds-rest-count : goal.slice_bounds-rest-count
slice_bounds-rest-count c = let a = c.args in let b = bounds a.events.now a.trace.now c.loop-i.trace c.turns-turns.ensures c.loop-i-test.true c.loop-i.auto.trace in omega (arith, b.0)

pub slice_bounds-rest-start : goal.slice_bounds-rest-start
slice_bounds-rest-start c = let a = c.args in let b = bounds a.events.now a.trace.now c.loop-i.trace c.turns-turns.ensures c.loop-i-test.true c.loop-i.auto.trace in omega (arith, b.0)

pub overflow_mul-entry : goal.overflow_mul-entry
overflow_mul-entry c = let a = c.args in let b = bounds a.events.now a.trace.now c.loop-i.trace c.turns-turns.ensures c.loop-i-test.true c.loop-i.auto.trace in omega (arith, b.1)

pub overflow_mul-entry-in-loop-i : goal.overflow_mul-entry-in-loop-i
overflow_mul-entry-in-loop-i c = let a = c.args in let b = bounds a.events.now a.trace.now c.loop-i.trace c.turns-turns.ensures c.loop-i-test.true c.loop-i.auto.trace in omega (arith, b.1)

pub overflow_add-entry : goal.overflow_add-entry
overflow_add-entry c = let a = c.args in let b = bounds a.events.now a.trace.now c.loop-i.trace c.turns-turns.ensures c.loop-i-test.true c.loop-i.auto.trace in omega (arith, b.1)

pub slice_bounds-entry-end : goal.slice_bounds-entry-end
slice_bounds-entry-end c = let a = c.args in let b = bounds a.events.now a.trace.now c.loop-i.trace c.turns-turns.ensures c.loop-i-test.true c.loop-i.auto.trace in omega (arith, b.1)

pub returns-in-Err : goal.returns-in-Err
unfolding run_of
returns-in-Err c =
    let a = c.args in
    let w = c.loop-i in
    let b = bounds a.events.now a.trace.now w.trace c.turns-turns.ensures c.loop-i-test.true w.auto.trace in
    let s = slice-event a.events.now (80 * w.i) c.min.ensures in
    let e : 82 * w.i + 82 - 82 * w.i ≡ 82 = omega arith in
    let t = rw (s, e) at c.turn.ensures in
    rw (← c.turns-turns.ensures, e) (run-refused a.book.now a.events.now a.trace.now a.device.now w.device _ w.i w.trace w.invariant.whole w.invariant.front c.loop-i-test.true t refl b.1 c.in-Err.is refl)

pub loop-i-preserved : goal.loop-i-preserved
loop-i-preserved c =
    let a = c.args in
    let w = c.loop-i in
    let b = bounds a.events.now a.trace.now w.trace c.turns-turns.ensures c.loop-i-test.true w.auto.trace in
    let s = slice-event a.events.now (80 * w.i) c.min.ensures in
    let e : 82 * w.i + 82 - 82 * w.i ≡ 82 = omega arith in
    let t = rw (s, e) at c.turn.ensures in
    let x = run-again a.book.now a.events.now a.trace.now a.device.now w.device _ w.i w.trace w.invariant.whole w.invariant.front c.loop-i-test.true t refl b.1 c.in_default.is w.auto.trace in
    rw e (record { whole = x.0; front = x.1; fit = w.invariant.fit ∙ x.3 })

pub returns : goal.returns
unfolding run_of
returns c = let a = c.args in let w = c.loop-i in
    rw (← c.turns-turns.ensures) (run-ended a.book.now a.events.now a.trace.now a.device.now w.device _ w.i w.trace w.invariant.whole w.invariant.front w.auto.i-end c.loop-i-test.false)
