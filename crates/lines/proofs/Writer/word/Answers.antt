use Rattle.lines.specs.Lines.{word_of}
use Rattle.lines.proofs.Laws.{wrote_none}
use Rattle.lines.proofs.Writer.word.Goals as goal

pub returns-in-Nothing-clause-wrote : goal.returns-in-Nothing-clause-wrote
unfolding word_of
returns-in-Nothing-clause-wrote c = rw c.in-Nothing.is (wrote_none _ _)
