-- Each public function's promise settles its outcome. Assumes nothing.
use Rattle.common.proofs.Once.{Once, equal}
use Rattle.record.proofs.Record.new.Reads as new
use Rattle.record.proofs.Record.with_language.Reads as language
use Rattle.record.proofs.Record.with_string.Reads as string

pub new-once : Once new.Post (λ κs x s. x)
new-once κs a x y s t = equal

pub language-once : Once language.Post (λ κs x s. x)
language-once κs a x y s t = equal

pub string-once : Once string.Post (λ κs x s. x)
string-once κs a x y s t = equal
