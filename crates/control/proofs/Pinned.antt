-- Each public function's promise settles its outcome. Assumes nothing.
use Rattle.common.proofs.Once.{Once, equal}
use Rattle.control.proofs.Request.parse.Reads as parse
use Rattle.control.proofs.Request.descriptor_type_index.Reads as index
use Rattle.control.proofs.word.Reads as word
use Rattle.control.proofs.DirectionCoded.code.Reads as direction-code
use Rattle.control.proofs.DirectionCoded.of_code.Reads as direction-of-code
use Rattle.control.proofs.RequestTypeCoded.code.Reads as type-code
use Rattle.control.proofs.RequestTypeCoded.of_code.Reads as type-of-code
use Rattle.control.proofs.RecipientCoded.code.Reads as recipient-code
use Rattle.control.proofs.RecipientCoded.of_code.Reads as recipient-of-code

pub parse-once : Once parse.Post (λ κs x s. x)
parse-once κs a x y s t = equal

pub index-once : Once index.Post (λ κs x s. x)
index-once κs a x y s t = equal

pub word-once : Once word.Post (λ κs x s. x)
word-once κs a x y s t = equal

pub direction-code-once : Once direction-code.Post (λ κs x s. x)
direction-code-once κs a x y s t = equal

pub direction-of-code-once : Once direction-of-code.Post (λ κs x s. x)
direction-of-code-once κs a x y s t = equal

pub type-code-once : Once type-code.Post (λ κs x s. x)
type-code-once κs a x y s t = equal

pub type-of-code-once : Once type-of-code.Post (λ κs x s. x)
type-of-code-once κs a x y s t = equal

pub recipient-code-once : Once recipient-code.Post (λ κs x s. x)
recipient-code-once κs a x y s t = equal

pub recipient-of-code-once : Once recipient-of-code.Post (λ κs x s. x)
recipient-of-code-once κs a x y s t = equal
