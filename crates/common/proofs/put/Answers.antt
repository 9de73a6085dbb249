use mathlib.Core.Path.{sym, ◌∙◌}
use borrow.Author.Tests.{leb-true}
use Rattle.common.proofs.Laws.{copied-part, stored_short, stored-full, stored-part}
use Rattle.common.proofs.put.Goals as goal

pub returns-then-not-within : goal.returns-then-not-within
returns-then-not-within c = let a = c.args in stored_short a.dst.now a.src.now a.at a.from a.n (sym c.within.ensures ∙ c.if-not-within.true)

pub returns-then-not-within-2 : goal.returns-then-not-within-2
returns-then-not-within-2 c =
    let a = c.args in
    stored-full a.dst.now a.src.now a.at a.from a.n
    (sym c.within.ensures ∙ c.if-not-within.false)
    (sym c.within-2.ensures ∙ c.if-not-within-2.true)

pub returns : goal.returns
returns c =
    let a = c.args in
    let i = sym c.within.ensures ∙ c.if-not-within.false in
    let j = sym c.within-2.ensures ∙ c.if-not-within-2.false in
    rw c.copy_from_slice.ensures.after (copied-part a.src.now a.dst.now a.from a.n a.at (leb-true _ _ i) (leb-true _ _ j))
    ∙ sym (stored-part a.dst.now a.src.now a.at a.from a.n i j)
