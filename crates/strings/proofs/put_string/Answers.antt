use mathlib.Core.Path.{◌≡◌, sym, ap, ◌∙◌}
use Rattle.std.proofs.Common.{Some, None}
use Rattle.std.specs.Prelude.{option_copied}
use Rattle.descriptor.specs.Device.{spoken}
use Rattle.descriptor.proofs.Laws.{put-missing}
use Rattle.strings.specs.Strings.{language_of}
use Rattle.strings.proofs.Laws.{string-list, string-none, string-name}
use Rattle.strings.proofs.put_string.Goals as goal

pub returns-then-number-eq0 : goal.returns-then-number-eq0
returns-then-number-eq0 c =
    let a = c.args in
    rw (string-list a.profile.now a.number a.language c.if-number-eq0.true, ← c.counted-spoken.ensures.part) c.put_text.ensures

pub returns-then-number-gt-NAMES : goal.returns-then-number-gt-NAMES
returns-then-number-gt-NAMES c =
    let a = c.args in
    rw (string-none a.profile.now a.number a.language c.if-number-gt-NAMES.true) put-missing

pub returns-in-Some : goal.returns-in-Some
returns-in-Some c =
    let a = c.args in
    let f : language_of a.language (spoken a.profile.now) ≡ Some c.in-Some.l.now
    = rw c.counted-spoken.ensures.part at (sym c.find.ensures) ∙ ap option_copied c.in-Some.is in
    rw (string-name a.profile.now a.number a.language c.if-number-eq0.false c.if-number-gt-NAMES.false, f) c.put_name.ensures

pub returns-in-None : goal.returns-in-None
returns-in-None c =
    let a = c.args in
    let f : language_of a.language (spoken a.profile.now) ≡ None
    = rw c.counted-spoken.ensures.part at (sym c.find.ensures) ∙ ap option_copied c.in-None.is in
    rw (string-name a.profile.now a.number a.language c.if-number-eq0.false c.if-number-gt-NAMES.false, f) put-missing
