use Rattle.lines.specs.Entries.{room_for}
use Rattle.lines.proofs.room.Goals as goal

pub returns : goal.returns
unfolding room_for
returns c = rw c.saturating_sub.ensures
