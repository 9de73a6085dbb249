use Prim.Native.Nat.{◌+◌, ◌*◌}
use mathlib.Core.Path.{◌≡◌, refl, ◌∙◌}
use mathlib.Core.List.{map}
use lib.ListN.{drop}
use Rattle.std.proofs.Common.{arith}
use Rattle.std.proofs.lemmas.List.{length-map}
use Rattle.common.specs.Bytes.{placed}
use Rattle.common.proofs.Laws.{stored-whole}
use Rattle.common.proofs.Pending.{pending-start, pending-as, pending-room, pending-turn, pending-end}
use Rattle.descriptor.specs.Device.{word_bytes}
use Rattle.strings.specs.Strings.{unit_bytes}
use Rattle.strings.proofs.Laws.{length-units, word-left, no-word-left}
use Rattle.strings.proofs.put_words.Goals as goal

pub loop-i-init : goal.loop-i-init
loop-i-init g c =
    let ws = c.args.words.now in
    pending-start (omega arith) (omega (arith, length-units (map g.T.Word.word ws), length-map ws g.T.Word.word))

pub loop-i-preserved : goal.loop-i-preserved
loop-i-preserved g c =
    let a = c.args in
    let w = c.loop-i in
    let x = c.index-words-i.result in
    let bytes = word_bytes (g.T.Word.word x) in
    let rest = unit_bytes (map g.T.Word.word (drop (w.i + 1) a.words.now)) in
    let p = pending-as (word-left g.T.Word.word a.words.now w.i x c.index-words-i.is c.loop-i-test.true) w.invariant in
    let e : c.put.new.dst ≡ placed w.buf (a.at + 2 * w.i) bytes
    = rw (c.word_bytes.ensures, c.word.ensures) at c.put.ensures ∙ stored-whole w.buf bytes (a.at + 2 * w.i) 2 refl (pending-room bytes rest p) in
    pending-turn bytes rest p e (omega arith)

pub returns : goal.returns
returns g c =
    let w = c.loop-i in
    (pending-end (pending-as (no-word-left g.T.Word.word c.args.words.now w.i c.loop-i-test.false) w.invariant)).0
