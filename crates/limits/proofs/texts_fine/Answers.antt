use mathlib.Core.Path.{◌∙◌}
use borrow.Author.Rules.{rules}
use Rattle.common.proofs.Laws.{tests}
use Rattle.std.proofs.lemmas.Iterator.{YieldsList-from_slice}
use Rattle.std.proofs.lemmas.Iterator.Search.{all_from_yields_List}
use Rattle.limits.specs.Limits.{language_fine}
use Rattle.limits.proofs.Laws.{every-all}
use Rattle.limits.proofs.texts_fine.Goals as goal

pub returns : goal.returns
returns c =
    let xs = c.args.list.now in
    all_from_yields_List language_fine _ _ c.all.result c.all.ensures.ran (YieldsList-from_slice xs cc) (λ x b q k. search (rules, tests)) ∙ every-all language_fine xs
