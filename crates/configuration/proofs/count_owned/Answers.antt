use mathlib.Core.Path.{◌≡◌, sym, ◌∙◌}
use lib.Dec.{eqb}
use Rattle.std.specs.List.{count_by}
use Rattle.std.proofs.Common.{rules}
use Rattle.plan.specs.declared.Endpoint.{Endpoint}
use Rattle.configuration.proofs.Laws.{owned-counted}
use Rattle.configuration.proofs.count_owned.Goals as goal

pub returns : goal.returns
returns c =
    let a = c.args in
    let k : c.count.result ≡ count_by (λ (e : Endpoint). eqb e.interface a.number) a.endpoints.now = search rules in
    k ∙ sym (owned-counted a.number a.endpoints.now)
