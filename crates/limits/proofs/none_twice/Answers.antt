use mathlib.Core.Path.{◌∙◌, sym, ap}
use mathlib.Core.Bool.{Bool, not, ◌&&◌}
use mathlib.Core.List.{map}
use lib.Dec.{eqb}
use borrow.Author.Rules.{rules}
use Rattle.common.specs.Lists.{none_twice}
use Rattle.common.proofs.Laws.{tests}
use Rattle.std.proofs.lemmas.Iterator.{YieldsList-from_slice}
use Rattle.std.proofs.lemmas.Iterator.Search.{any_from_yields_List}
use Rattle.limits.proofs.Laws.{others, first-others, none-step, none-end}
use Rattle.limits.proofs.none_twice.Goals as goal

pub returns-then-any : goal.returns-then-any
returns-then-any g c =
    let xs = c.loop-rest.rest.now in
    let x = c.first-item.result in
    let key = g.T.Keyed.key in
    let any = any_from_yields_List (λ y. eqb (key x) (key y)) _ _ c.any.result c.any.ensures.ran (YieldsList-from_slice (others xs) cc) (λ x b q k. search (rules, tests)) in
    let step = none-step key xs x c.any.result (first-others xs x c.in-len1-up.len_at_least c.first-item.is) any in
    sym (c.loop-rest.invariant ∙ step ∙ ap (λ (b : Bool). not b && none_twice (map key (others xs))) c.if-any.true)

pub loop-rest-preserved : goal.loop-rest-preserved
loop-rest-preserved g c =
    let xs = c.loop-rest.rest.now in
    let x = c.first-item.result in
    let key = g.T.Keyed.key in
    let any = any_from_yields_List (λ y. eqb (key x) (key y)) _ _ c.any.result c.any.ensures.ran (YieldsList-from_slice (others xs) cc) (λ x b q k. search (rules, tests)) in
    let step = none-step key xs x c.any.result (first-others xs x c.in-len1-up.len_at_least c.first-item.is) any in
    c.loop-rest.invariant ∙ step ∙ ap (λ (b : Bool). not b && none_twice (map key (others xs))) c.if-any.false

pub returns : goal.returns
returns g c = sym (c.loop-rest.invariant ∙ none-end g.T.Keyed.key c.loop-rest.rest.now c.in_default.len_below)
