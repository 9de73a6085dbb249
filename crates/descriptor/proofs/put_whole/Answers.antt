use mathlib.Core.Path.{◌≡◌, refl, sym, ◌∙◌}
use lib.ListN.{length}
use borrow.Author.Tests.{leb-true}
use Rattle.common.specs.Bytes.{inside}
use mathlib.Core.Bool.{true}
use Rattle.descriptor.proofs.Laws.{put_refused, put-done}
use Rattle.common.proofs.Laws.{stored-whole}
use Rattle.descriptor.proofs.put_whole.Goals as goal

pub returns-then-not-within : goal.returns-then-not-within
returns-then-not-within c = put_refused (sym c.within.ensures ∙ c.if-not-within.true)

pub returns : goal.returns
returns c =
    let a = c.args in
    let t : inside a.buf.now a.at (length a.src.now) ≡ true = sym c.within.ensures ∙ c.if-not-within.false in
    put-done t refl (c.put.ensures ∙ stored-whole a.buf.now a.src.now a.at (length a.src.now) refl (leb-true _ _ t))
