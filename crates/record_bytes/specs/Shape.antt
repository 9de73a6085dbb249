-- A record whose lists have the lengths of its type, which every record that the code makes has.
use Rattle.std.specs.Prelude.{◌≡◌, length}
use Rattle.std.specs.List.{All}
use Rattle.plan.specs.Sizes.{interface_room, endpoint_room}
use Rattle.plan.specs.declared.Plan.{Plan}
use Rattle.record.specs.Sizes.{language_room, names, unit_room}
use Rattle.record.specs.declared.Record.{Record}

pub record Planned (p : Plan) : Type 0 where
  pub interfaces : length p.interfaces.list ≡ interface_room
  pub endpoints : length p.endpoints.list ≡ endpoint_room

pub record Shaped (r : Record) : Type 0 where
  pub plan : Planned r.plan
  pub languages : length r.languages ≡ language_room
  pub names : All (λ l. length l.names ≡ names) r.languages
  pub units : All (λ l. All (λ t. length t.units ≡ unit_room) l.names) r.languages
