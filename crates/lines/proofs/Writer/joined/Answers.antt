use Rattle.std.proofs.Common.{arith}
use Rattle.lines.proofs.Laws.{hexes-length, wrote-more, wrote-room}
use Rattle.lines.proofs.Writer.joined.Goals as goal

pub hexes-requires : goal.hexes-requires
hexes-requires c = let l = wrote-room 2 128 c.put.ensures.wrote (omega arith) (omega (arith, c.requires.1)) in omega (arith, l, c.requires.0)

pub returns-clause-wrote : goal.returns-clause-wrote
returns-clause-wrote c = let e = hexes-length c.args.bytes.now in wrote-more c.put.ensures.wrote c.hexes.ensures.wrote (omega (arith, e, c.requires.0, c.requires.1))
