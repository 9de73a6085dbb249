use Rattle.std.proofs.Common.{sym, ◌∙◌, arith}
use Rattle.lines.specs.Lines.{bad_line}
use Rattle.lines.specs.Entries.{stop_line}
use Rattle.lines.proofs.Laws.{decimal-most, wrote-more, wrote-room, wrote_none}
use Rattle.lines.proofs.Writer.stopped.Goals as goal

pub put-requires : goal.put-requires
put-requires c = wrote-room 20 6 c.decimal.ensures.wrote (decimal-most 20 _) (omega (arith, c.requires))

pub returns-then-is_bad-clause-wrote : goal.returns-then-is_bad-clause-wrote
unfolding stop_line bad_line
returns-then-is_bad-clause-wrote c =
    let n = decimal-most 20 c.args.number in
    rw (sym c.is_bad.ensures ∙ c.if-is_bad.true) (wrote-more c.decimal.ensures.wrote c.put.ensures.wrote (omega (arith, n, c.requires)))

pub returns-else-is_bad-clause-wrote : goal.returns-else-is_bad-clause-wrote
unfolding stop_line
returns-else-is_bad-clause-wrote c = rw (sym c.is_bad.ensures ∙ c.if-is_bad.false) (wrote_none _ _)
