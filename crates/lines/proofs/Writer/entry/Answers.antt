use Rattle.std.proofs.Common.{le_refl, arith}
use Rattle.lines.specs.Entries.{entry_line}
use Rattle.lines.specs.Lines.{line_of}
use Rattle.lines.proofs.Laws.{decimal-most, entry-most, wrote-room, short, short-then}
use Rattle.lines.proofs.Writer.entry.Goals as goal

pub put-requires : goal.put-requires
put-requires c = wrote-room 20 2 c.decimal.ensures.wrote (decimal-most 20 _) (omega (arith, c.requires.1))

pub words-requires : goal.words-requires
words-requires c = (c.requires.0, wrote-room 2 650 c.put.ensures.wrote (omega arith) (wrote-room 20 652 c.decimal.ensures.wrote (decimal-most 20 _) (omega (arith, c.requires.1))))

pub put-requires-2 : goal.put-requires-2
put-requires-2 c = let e = c.args.entry.now in wrote-room 650 1 c.words.ensures.wrote (entry-most e c.requires.0) (wrote-room 2 651 c.put.ensures.wrote (omega arith) (wrote-room 20 653 c.decimal.ensures.wrote (decimal-most 20 _) c.requires.1))

pub returns-clause-wrote : goal.returns-clause-wrote
unfolding entry_line line_of
returns-clause-wrote c = let p = c.requires in let d = short c.decimal.ensures.wrote (decimal-most 20 c.args.number) in let x = wrote-room 20 653 d.wrote d.most p.1 in let l = rw (c.letter.ensures, c.of_code.ensures) at c.put.ensures.wrote in let y = wrote-room 2 651 l (le_refl 2) x in let m = entry-most c.args.entry.now p.0 in (short-then d (short-then (short l (le_refl 2)) (short-then (short c.words.ensures.wrote m) (short c.put-2.ensures.wrote (le_refl 1)) y) x) p.1).wrote
