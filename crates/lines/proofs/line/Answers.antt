use Rattle.std.proofs.Common.{sym, ◌∙◌, eq-eqb, ne_eqb, rules}
use Rattle.lines.specs.Entries.{Wrote, line_in}
use Rattle.lines.proofs.Laws.{wrote_none}
use Rattle.lines.proofs.line.Goals as goal
use Rattle.lines.proofs.line.Goals.{then-entry-ne-ENTRY-via-then-entry-ne-ENTRY, then-entry-ne-ENTRY-via-else-entry-ne-ENTRY+then-not-within}

pub returns-then-entry-ne-ENTRY : goal.returns-then-entry-ne-ENTRY
unfolding line_in
returns-then-entry-ne-ENTRY c = elim c.then-entry-ne-ENTRY.branch [
  | then-entry-ne-ENTRY-via-then-entry-ne-ENTRY w ↦ rw (ne_eqb _ _ w.if-entry-ne-ENTRY.true) (wrote_none _ _)
  | then-entry-ne-ENTRY-via-else-entry-ne-ENTRY+then-not-within w ↦ rw (eq-eqb _ _ w.if-entry-ne-ENTRY.false, sym w.within.ensures ∙ w.if-not-within.true) (wrote_none _ _)
]

pub returns : goal.returns
unfolding line_in
returns c =
    let a = c.args in
    let l : Wrote c.entry.new.self.at c.entry.new.self.out.now (line_in a.number a.entry.now a.out.now a.at) a.out.now a.at = rw (eq-eqb _ _ c.if-entry-ne-ENTRY.false, sym c.within.ensures ∙ c.if-not-within.false) c.entry.ensures.wrote in
    search rules
