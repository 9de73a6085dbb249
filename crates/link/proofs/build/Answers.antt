use Rattle.std.proofs.Common.{ap, ◌∙◌}
use Rattle.record_bytes.specs.Layout.{record_coded}
use Rattle.link.proofs.Laws.{build-short, build-layout, build-refused, build-done}
use Rattle.link.proofs.build.Goals as goal

pub returns-in_default : goal.returns-in_default
returns-in_default c = let a = c.args in let x = build-short a.profile.now a.book a.state.now c.in_default.ensures.1 in record { number = x.0; state = x.1 }

pub returns-in-Ok-build : goal.returns-in-Ok-build
returns-in-Ok-build c =
    let a = c.args in
    let w = c.in-Ok.ensures.1 in
    let e = rw (c.read.ensures, w.same) at c.in-Ok-build.ensures in
    let x = build-done a.profile.now a.book a.state.now w.long (c.fine-coded.ensures ∙ ap record_coded w.same) e c.if-coded.true c.write.ensures in
    record { number = x.0; state = x.1 }

pub returns-in-Ok-2 : goal.returns-in-Ok-2
returns-in-Ok-2 c =
    let a = c.args in
    let w = c.in-Ok.ensures.1 in
    let e = rw (c.read.ensures, w.same) at c.in-Ok-2.ensures in
    let x = build-layout a.profile.now a.book a.state.now w.long (c.fine-coded.ensures ∙ ap record_coded w.same) e c.if-coded.false in
    record { number = x.0; state = x.1 }

pub returns-in-Err : goal.returns-in-Err
returns-in-Err c =
    let a = c.args in
    let w = c.in-Ok.ensures.1 in
    let e = rw (c.read.ensures, w.same) at c.in-Err.ensures in
    let x = build-refused a.profile.now a.book a.state.now w.long (c.fine-coded.ensures ∙ ap record_coded w.same) e c.sooner.ensures in
    record { number = x.0; state = x.1 }
