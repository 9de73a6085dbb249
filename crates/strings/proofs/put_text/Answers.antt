use Prim.Native.Nat.{◌+◌, ◌*◌, ◌≤◌}
use mathlib.Core.Path.{◌≡◌, refl, sym, ◌∙◌}
use mathlib.Core.Bool.{true}
use mathlib.Core.List.{[], ◌∷◌, map}
use lib.ListN.{length}
use borrow.Author.Tests.{leb-true}
use Rattle.std.proofs.Common.{arith}
use Rattle.std.proofs.lemmas.List.{length-map}
use Rattle.common.specs.Bytes.{inside}
use Rattle.common.proofs.Laws.{stored-whole}
use Rattle.descriptor.proofs.Laws.{put_refused, put-done}
use Rattle.strings.specs.Strings.{text_bytes}
use Rattle.strings.proofs.Laws.{length-text, text-placed}
use Rattle.strings.proofs.put_text.Goals as goal

pub returns-then-not-within : goal.returns-then-not-within
returns-then-not-within g c =
    let us = map g.T.Word.word c.args.words.now in
    put_refused (rw (length-text us, length-map c.args.words.now g.T.Word.word) (sym c.within.ensures ∙ c.if-not-within.true))

pub returns : goal.returns
returns g c =
    let a = c.args in
    let us = map g.T.Word.word a.words.now in
    let n = length a.words.now in
    let k : n ≡ length us = sym (length-map a.words.now g.T.Word.word) in
    let w : inside a.buf.now a.at (2 + 2 * n) ≡ true = sym c.within.ensures ∙ c.if-not-within.false in
    let l : a.at + (2 + 2 * n) ≤ length a.buf.now = leb-true _ _ w in
    let m : a.at + 2 ≤ length a.buf.now = omega arith in
    let h = c.put.ensures ∙ stored-whole a.buf.now ((2 + 2 * n) ∷ 3 ∷ []) a.at 2 refl m in
    let t : length (text_bytes us) ≡ 2 + 2 * n = rw (length-text us, ← k) refl in
    put-done (rw t w) (sym t) (text-placed us a.buf.now c.put.new.dst _ a.at n k l h c.put_words.ensures)
