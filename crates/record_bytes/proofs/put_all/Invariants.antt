use Rattle.record_bytes.proofs.Walks.{Written}
use Rattle.record_bytes.proofs.put_all.Given as goal

abbrev pub invariant-loop-i : goal.invariant-loop-i
invariant-loop-i g l = Written g.T.Part.part g.row.N l.list l.initial.dst l.at l.dst l.i
