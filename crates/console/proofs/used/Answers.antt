use Rattle.std.proofs.Common.{rules, sym}
use Rattle.console.proofs.Laws.{used-last, used-none}
use Rattle.console.proofs.used.Goals as goal

pub returns-in-Some : goal.returns-in-Some
returns-in-Some c = record { value = sym (used-last c.args.bytes.now c.in-Some.i (search rules) (search rules) (search rules)); bound = search rules }

pub returns-in-None : goal.returns-in-None
returns-in-None c = record { value = sym (used-none c.args.bytes.now (search rules)); bound = search rules }
