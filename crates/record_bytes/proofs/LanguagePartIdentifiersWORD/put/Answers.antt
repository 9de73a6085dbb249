use mathlib.Core.Path.{ap, ◌∙◌}
use lib.ListN.{length}
use Rattle.common.specs.Bytes.{placed}
use Rattle.record_bytes.specs.Layout.{word_size}
use Rattle.record_bytes.proofs.Walks.{mid}
use Rattle.record_bytes.proofs.LanguagePartIdentifiersWORD.put.Goals as goal

pub returns-clause-bytes : goal.returns-clause-bytes
returns-clause-bytes c =
    let a = c.args in
    let is = c.copy_from_slice.ensures.after ∙ c.write.ensures in
    mid a.dst.now c.copy_from_slice.new.self a.at word_size (ap length is) ∙ ap (λ u. placed a.dst.now a.at u) is
