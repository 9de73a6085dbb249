use borrow.Author.Rules.{rules}
use Rattle.record_bytes.proofs.Lengths.{text-length}
use Rattle.record_bytes.proofs.TextPartStringUnitsUNIT_BYTES.put.Goals as goal

pub returns-clause-size : goal.returns-clause-size
returns-clause-size c = text-length c.args.self.now (search rules)
