use borrow.Author.Rules.{rules}
use borrow.Author.Tests.{ne_eqb, le-leb}
use Rattle.common.proofs.Refusals.{passed}
use Rattle.device.specs.Device.{of_parts}
use Rattle.device.proofs.Laws.{data-handed}
use Rattle.device.proofs.hand_out.Goals as goal

pub returns : goal.returns
returns c =
    let d = of_parts c.args.profile.now c.args.live.now c.args.buffer.now in
    data-handed d c.args.room.now (search rules) (passed _ (tt {0}) (tt {0}) (search rules)) (ne_eqb _ _ c.if-coming-eq0.false) (le-leb _ _ c.if-coming.false) (le-leb _ _ c.if-room-n.false) c.put.ensures
