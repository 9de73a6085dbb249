use Rattle.std.proofs.Common.{◌≡◌, drop}
use Rattle.common.proofs.Pending.{Pending}
use Rattle.lines.specs.Lines.{hexes}
use Rattle.lines.proofs.Writer.hexes.Given as goal

abbrev pub invariant-loop-b : goal.invariant-loop-b
invariant-loop-b l = record {
  pending : Pending (hexes l.bytes) l.fn.self.out.now l.fn.self.at (hexes (drop l.b-index l.bytes)) l.self.out.now l.self.at;
  same_borrow : l.self.out.ghost_name ≡ l.fn.self.out.ghost_name;
}
