use Rattle.link.specs.Link.{answer_of}
use Rattle.link.proofs.answer.Goals as goal

pub returns : goal.returns
unfolding answer_of
returns c = rw c.number.ensures
