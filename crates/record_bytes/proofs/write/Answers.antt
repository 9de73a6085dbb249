use mathlib.Core.Path.{refl}
use borrow.Author.Rules.{rules}
use Rattle.record_bytes.proofs.Lengths.{record-placed}
use Rattle.record_bytes.proofs.write.Goals as goal

pub returns : goal.returns
returns c =
    let p = c.write_plan.ensures in
    let i = c.put_all.ensures in
    let n = c.put_all-2.ensures in
    let t = c.put_all-3.ensures in
    record-placed c.args.profile.now _ refl p.bytes i.bytes n.bytes t.bytes p.size (search rules) (search rules) (search rules) c.write_plan.array_long
