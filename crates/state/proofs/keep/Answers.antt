use Rattle.state.proofs.Laws.{kept-all}
use Rattle.std.proofs.Common.{refl, rules}
use Rattle.state.proofs.keep.Goals as goal

pub returns-clause-state : goal.returns-clause-state
returns-clause-state c = let a = c.args in rw (c.copy_from_slice.ensures.after, c.copy_from_slice-2.ensures.after) (kept-all a.live.now a.buffer.now a.s.now _ c.if-s-ne-STATE.false c.write.ensures (search rules) refl refl)
