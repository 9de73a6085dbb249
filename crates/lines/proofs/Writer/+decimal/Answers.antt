use Rattle.std.proofs.Common.{◌<◌, ◌^◌, le_refl, arith}
use Rattle.lines.proofs.Laws.{decimal-one, decimal-two, decimal-hundreds, decimal-fewer, wrote-room, short, short-then}
use Rattle.lines.proofs.Writer.+decimal.Goals as goal

pub returns-then-n-lt10-clause-wrote : goal.returns-then-n-lt10-clause-wrote
returns-then-n-lt10-clause-wrote t c = rw (← (decimal-one _ c.if-n-lt10.true)) (rw c.digit.ensures at c.put.ensures.wrote)

pub returns-then-n-lt100-clause-wrote : goal.returns-then-n-lt100-clause-wrote
returns-then-n-lt100-clause-wrote t c =
    rw (← (decimal-two _ c.if-n-lt10.false c.if-n-lt100.true)) (rw (c.digit-then-n-lt100.ensures, c.digit-then-n-lt100-2.ensures) at c.put-then-n-lt100.ensures.wrote)

pub put-requires-2 : goal.put-requires-2
put-requires-2 t c = let h : c.args.n < 2 ^ 64 = omega arith in wrote-room 18 2 c.decimal.ensures.wrote (decimal-fewer c.args.n h) c.requires

pub returns-clause-wrote : goal.returns-clause-wrote
returns-clause-wrote t c =
    let h : c.args.n < 2 ^ 64 = omega arith in
    rw (← (decimal-hundreds c.args.n h c.if-n-lt100.false))
    (short-then (short c.decimal.ensures.wrote (decimal-fewer c.args.n h)) (short (rw (c.digit-2.ensures, c.digit-3.ensures) at c.put-2.ensures.wrote) (le_refl 2)) c.requires).wrote
