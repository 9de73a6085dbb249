use Rattle.notes.specs.Notes.{sized}
use Rattle.pan.proofs.sized.Goals as goal

pub returns : goal.returns
unfolding sized
returns c = simp (c.with_string-2.ensures, c.with_string.ensures, c.with_language.ensures, c.new-2.ensures, c.with_endpoint-plan.ensures, c.with_interface.ensures, c.new.ensures)
