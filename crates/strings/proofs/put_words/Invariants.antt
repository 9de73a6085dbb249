use Prim.Native.Nat.{◌+◌, ◌*◌}
use mathlib.Core.List.{map}
use lib.ListN.{drop}
use Rattle.common.proofs.Pending.{Pending}
use Rattle.strings.specs.Strings.{unit_bytes}
use Rattle.strings.proofs.put_words.Given as goal

-- what is left to place behind the words that were placed
abbrev pub invariant-loop-i : goal.invariant-loop-i
invariant-loop-i g l = Pending (unit_bytes (map g.T.Word.word l.words)) l.fn.buf l.at (unit_bytes (map g.T.Word.word (drop l.i l.words))) l.buf (l.at + 2 * l.i)
