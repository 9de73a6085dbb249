use Rattle.std.proofs.Common.{length, ap, sym, ◌∙◌, arith, length-take-le}
use Rattle.stream.proofs.put_entry.Goals as goal

pub copy_from_slice-requires : goal.copy_from_slice-requires
copy_from_slice-requires c = let n = c.requires in length-take-le 18 c.args.entry.now (omega arith) ∙ sym (ap length c.top.ensures)
