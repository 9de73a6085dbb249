use Rattle.std.proofs.Common.{◌∙◌}
use Rattle.link.proofs.Laws.{err-number, flag-named}
use Rattle.link.proofs.mast_set_self_powered.Goals as goal

pub returns : goal.returns
returns c =
    let e = rw c.set_self_powered.ensures.number at c.err.ensures.value in
    record { value = rw e at c.number.ensures ∙ err-number _ (flag-named c.args.state.now); state = c.set_self_powered.ensures.state }
