use mathlib.Core.Path.{◌≡◌}
use lib.ListN.{length}
use Rattle.answers.specs.Answers.{described}
use Rattle.answers.proofs.Laws.{descriptor-fits, filled-told}
use borrow.Author.Rules.{rules}
use Rattle.answers.proofs.describe.Goals as goal

pub returns : goal.returns
unfolding described
returns c =
    let l : length c.args.buffer.now ≡ 128 = search rules in
    filled-told _ _ _ c.judged.ensures (rw c.descriptor_type_index-named.ensures at c.fill.ensures) l (λ z. descriptor-fits c.args.profile.now z _ _ _)
