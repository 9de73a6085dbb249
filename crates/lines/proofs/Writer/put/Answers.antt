use Rattle.std.proofs.Common.{◌≡◌, ℕ, ◌+◌, ◌-◌, List, ◌++◌, length, take, drop, refl, arith, drop-drop}
use Rattle.common.specs.Bytes.{placed}
use Rattle.lines.proofs.Writer.put.Goals as goal

put-at : {part : List ℕ} (d s : List ℕ) (at : ℕ) → part ≡ s → take at d ++ (part ++ drop (length s) (drop at d)) ≡ placed d at s
unfolding placed
put-at d s at e = rw (e, drop-drop (length s) at d) refl

pub returns-clause-wrote : goal.returns-clause-wrote
returns-clause-wrote c =
    let w = c.args.self.now in
    let s = c.args.bytes.now in
    let e : w.at + length s - w.at ≡ length s = omega arith in
    record { value = refl; out = rw e (put-at w.out.now s w.at c.copy_from_slice.ensures.after) }
