use Rattle.std.proofs.Common.{◌∙◌}
use Rattle.link.proofs.Laws.{err-number, built-named}
use Rattle.link.proofs.mast_build.Goals as goal

pub returns : goal.returns
returns c =
    let a = c.args in
    let e = rw c.build.ensures.number at c.err.ensures.value in
    record { value = rw e at c.number.ensures ∙ err-number _ (built-named a.profile.now a.book a.state.now); state = c.build.ensures.state }
