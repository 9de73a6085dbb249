use lib.ListN.{length}
use Rattle.record_bytes.proofs.Walks.{Reading}
use Rattle.record_bytes.proofs.read_all.Given as goal

abbrev pub invariant-loop-i : goal.invariant-loop-i
invariant-loop-i g l = Reading g.row.N g.T.Entry.named (length l.initial.list) l.s l.list l.i
