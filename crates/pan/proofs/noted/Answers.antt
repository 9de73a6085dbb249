use Rattle.notes.specs.Notes.{pan}
use Rattle.pan.proofs.noted.Goals as goal

pub returns : goal.returns
unfolding pan
returns c = c.sized.ensures
