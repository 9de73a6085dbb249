use mathlib.Core.Path.{◌≡◌, sym, ◌∙◌}
use Rattle.std.proofs.Common.{rules, Err}
use Rattle.descriptor.proofs.Laws.{wrote-refused, wrote-put}
use Rattle.configuration.proofs.write.Goals as goal

pub returns-in_err-check : goal.returns-in_err-check
returns-in_err-check c =
    let why = c.in_err-check.field-0.0 in
    let r : c.from_residual.result ≡ Err why = search rules in
    rw r (wrote-refused (sym c.in_err-check.was ∙ c.check.ensures))

pub returns : goal.returns
returns c = wrote-put (sym c.in_ok-check.was ∙ c.check.ensures) c.put_configuration.ensures
