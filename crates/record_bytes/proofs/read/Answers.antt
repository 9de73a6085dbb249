use mathlib.Core.Path.{◌≡◌, ap}
use mathlib.Core.List.{List}
use borrow.Author.Rules.{rules}
use Rattle.plan.specs.declared.Plan.{Plan}
use Rattle.record.specs.declared.Language.{Language}
use Rattle.record.specs.declared.Record.{Record}
use Rattle.record.specs.Filling.{with_languages}
use Rattle.record.specs.Sizes.{language_room}
use Rattle.record_bytes.specs.Layout.{language_of, record_of}
use Rattle.record_bytes.proofs.Walks.{filled-start, filled-turn, filled-end}
use Rattle.record_bytes.proofs.read.Goals as goal

pub loop-i-init : goal.loop-i-init
loop-i-init c = filled-start (λ i. language_of i c.args.s.now) language_room _ (search rules)

pub loop-i-preserved : goal.loop-i-preserved
loop-i-preserved c =
    let w = c.loop-i in
    filled-turn (λ i. language_of i c.args.s.now) language_room w.language-items w.i _ c.loop-i-test.true c.read_language.ensures w.invariant

made : (p q : Plan) (r : Record) (ls ms : List Language) → p ≡ q → r.plan ≡ with_languages 0 p → ls ≡ ms → ◌≡◌ {A = Record} (record { plan = with_languages p.languages r.plan; languages = ls }) (record { plan = q; languages = ms })
made p q r ls ms e f g = rw (f, g, e)

pub returns : goal.returns
unfolding record_of
returns c =
    let w = c.loop-i in
    let e = filled-end (λ i. language_of i c.args.s.now) language_room w.language-items w.i c.loop-i-test.false w.invariant in
    made c.plan_of-plan.result _ c.new-profile.result _ _ c.plan_of-plan.ensures (ap (λ (r : Record). r.plan) c.new-profile.ensures) e
