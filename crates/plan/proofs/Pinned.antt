-- Each public function's promise settles its outcome. Assumes nothing.
use Rattle.common.proofs.Once.{Once, equal}
use Rattle.plan.proofs.Plan.new.Reads as new
use Rattle.plan.proofs.Plan.with_interface.Reads as interface
use Rattle.plan.proofs.Plan.with_endpoint.Reads as endpoint
use Rattle.plan.proofs.KindCoded.code.Reads as code
use Rattle.plan.proofs.KindCoded.of_code.Reads as of-code

pub new-once : Once new.Post (λ κs x s. x)
new-once κs a x y s t = equal

pub interface-once : Once interface.Post (λ κs x s. x)
interface-once κs a x y s t = equal

pub endpoint-once : Once endpoint.Post (λ κs x s. x)
endpoint-once κs a x y s t = equal

pub code-once : Once code.Post (λ κs x s. x)
code-once κs a x y s t = equal

pub of-code-once : Once of-code.Post (λ κs x s. x)
of-code-once κs a x y s t = equal
