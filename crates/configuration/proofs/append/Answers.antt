use mathlib.Core.Path.{refl, ◌∙◌}
use Rattle.common.proofs.Laws.{stored-whole}
use Rattle.configuration.proofs.append.Goals as goal

pub returns : goal.returns
returns c = let a = c.args in record { next = refl; buffer = c.put.ensures ∙ stored-whole a.buf.now a.bytes.now a.at _ refl c.requires }
