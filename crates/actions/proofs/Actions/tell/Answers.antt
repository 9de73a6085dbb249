use Rattle.effects.specs.declared.Action.TheVariants.{Resume}
use Rattle.actions.specs.Actions.{consed}
use Rattle.actions.proofs.Laws.{told-parts}
use mathlib.Core.Path.{ap, ◌∙◌}
use Rattle.actions.proofs.Actions.tell.Goals as goal

pub returns-then-resumed : goal.returns-then-resumed
returns-then-resumed c = let a = c.args in rw c.if-resumed.true (c.after.ensures ∙ ap (consed Resume) (told-parts a.first a.act a.second c.none.ensures c.after_told.ensures c.after_alone.ensures c.after_told-rest.ensures))

pub returns : goal.returns
returns c = let a = c.args in rw c.if-resumed.false (told-parts a.first a.act a.second c.none.ensures c.after_told.ensures c.after_alone.ensures c.after_told-rest.ensures)
