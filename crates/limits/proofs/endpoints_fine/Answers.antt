use mathlib.Core.Path.{◌≡◌, ◌∙◌, sym}
use mathlib.Core.Bool.{true}
use mathlib.Core.List.{map}
use borrow.Author.Rules.{rules}
use Rattle.common.specs.Lists.{every, none_twice}
use Rattle.common.proofs.Laws.{tests}
use Rattle.std.proofs.lemmas.Iterator.{YieldsList-from_slice}
use Rattle.std.proofs.lemmas.Iterator.Search.{all_from_yields_List}
use Rattle.limits.specs.Limits.{address_of, endpoint_fine}
use Rattle.limits.proofs.Laws.{every-all, and-true}
use Rattle.limits.proofs.endpoints_fine.Goals as goal

pub returns-then-none_twice : goal.returns-then-none_twice
returns-then-none_twice c =
    let xs = c.args.list.now in
    let test = endpoint_fine c.args.interfaces in
    let e : none_twice (map address_of xs) ≡ true = sym c.none_twice.ensures ∙ c.if-none_twice.true in
    let each = all_from_yields_List test _ _ c.all.result c.all.ensures.ran (YieldsList-from_slice xs cc) (λ x b q k. search (rules, tests)) ∙ every-all test xs in
    rw e (each ∙ sym (and-true (every test xs)))
