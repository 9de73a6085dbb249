use mathlib.Core.Path.{◌≡◌, sym, ◌∙◌}
use Rattle.std.proofs.Common.{rules, Err}
use Rattle.descriptor.proofs.Laws.{put-missing, wrote-refused, wrote-put}
use Rattle.writer.proofs.Laws.{asked-device, asked-configuration, asked-string, asked-none}
use Rattle.writer.proofs.put.Goals as goal

pub returns-in-1 : goal.returns-in-1
returns-in-1 c = rw (asked-device c.args.profile.now c.args.which c.in-1.is) c.device.ensures

pub returns-in-2 : goal.returns-in-2
returns-in-2 c = rw (asked-configuration c.args.profile.now c.args.which c.in-2.is) c.write.ensures

pub returns-in-3 : goal.returns-in-3
returns-in-3 c = rw (asked-string c.args.profile.now c.args.which c.in-3.is) c.write-in-3.ensures

pub returns-in_err-check-in_default : goal.returns-in_err-check-in_default
returns-in_err-check-in_default c =
    let why = c.in_err-check-in_default.field-0.0 in
    let r : c.from_residual.result ≡ Err why = search rules in
    rw r (wrote-refused (sym c.in_err-check-in_default.was ∙ c.check.ensures))

pub returns-in_ok-check-in_default : goal.returns-in_ok-check-in_default
returns-in_ok-check-in_default c =
    let w = c.args.which in
    let device : w.kind ≡ 1 → ⊥ = search rules in
    let configuration : w.kind ≡ 2 → ⊥ = search rules in
    let string : w.kind ≡ 3 → ⊥ = search rules in
    rw (asked-none c.args.profile.now w device configuration string) (wrote-put (sym c.in_ok-check-in_default.was ∙ c.check.ensures) put-missing)
