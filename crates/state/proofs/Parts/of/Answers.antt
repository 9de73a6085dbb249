use Rattle.std.proofs.Common.{◌<◌, length, sym, ap, ◌∙◌, arith}
use Rattle.state.proofs.Laws.{uncoded, short-rest, other-live, bad-record, bad-live, parted}
use Rattle.state.proofs.Parts.of.Goals as goal
use Rattle.state.proofs.Parts.of.Goals.{then-not-fine-via-then-not-fine, then-not-fine-via-else-not-fine+then-not-fine-2}

pub returns-in_err-rest : goal.returns-in_err-rest
returns-in_err-rest c =
    let l : length c.args.s.now < 128 = c.in_err-rest.ensures.cases in
    rw c.from_residual.ensures (uncoded c.args.s.now (λ e. omega (arith, l, e)))

pub returns-in_err-record : goal.returns-in_err-record
returns-in_err-record c = rw c.from_residual-in_err-record.ensures (short-rest c.args.s.now c.in_ok-rest.ensures.cases.0 c.in_err-record.ensures.cases)

pub returns-in_default : goal.returns-in_default
returns-in_default c = other-live c.args.s.now c.in_ok-rest.ensures.cases.0 c.in_ok-record.ensures.cases.1 c.in_default.ensures.1

pub returns-then-not-fine : goal.returns-then-not-fine
returns-then-not-fine c =
    let p = c.in_ok-rest.ensures.cases in
    let q = c.in_ok-record.ensures.cases in
    let w = c.in-Ok.ensures.1 in
    elim c.then-not-fine.branch [
      | then-not-fine-via-then-not-fine v ↦ bad-record c.args.s.now p.0 p.1 q.0 (w.same ∙ q.1) (ap length w.same ∙ w.long) (sym c.fine.ensures ∙ v.if-not-fine.true)
      | then-not-fine-via-else-not-fine+then-not-fine-2 v ↦ bad-live c.args.s.now p.0 p.1 q.0 (w.same ∙ q.1) (ap length w.same ∙ w.long) (sym c.fine.ensures ∙ v.if-not-fine.false) (sym v.fine-else-not-fine.ensures ∙ v.if-not-fine-2.true)
    ]

pub returns : goal.returns
returns c =
    let p = c.in_ok-rest.ensures.cases in
    let q = c.in_ok-record.ensures.cases in
    let w = c.in-Ok.ensures.1 in
    parted c.args.s.now p.0 p.1 q.0 (w.same ∙ q.1) (ap length w.same ∙ w.long) (sym c.fine.ensures ∙ c.if-not-fine.false) (sym c.fine-else-not-fine.ensures ∙ c.if-not-fine-2.false)
