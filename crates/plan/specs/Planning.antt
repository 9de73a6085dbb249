-- What each way to fill a plan makes of it. What has no place spoils a count, which refusal 2 then names.
use Rattle.std.specs.Prelude.{ℕ, ◌+◌, cond, ltb, set, replicate}
use Rattle.plan.specs.declared.Basics.{Basics}
use Rattle.plan.specs.declared.Interface.{Interface}
use Rattle.plan.specs.declared.Endpoint.{Endpoint}
use Rattle.plan.specs.declared.Listed.{Listed}
use Rattle.plan.specs.declared.Kind.TheVariants.{Bulk}
use Rattle.plan.specs.declared.Plan.{Plan}
use Rattle.plan.specs.Sizes.{interface_room, endpoint_room, spoilt}

-- the next place takes x, and is counted; beyond the last place the count is spoilt
abbrev pub added : {T : Type 0} {room : ℕ} → T → Listed T room → Listed T room
added {T} {room} x l = cond (ltb l.count room) (record { count = l.count + 1; list = set l.list l.count x }) (record { count = spoilt; list = l.list })

abbrev pub add_interface : Interface → Listed Interface interface_room → Listed Interface interface_room
add_interface x l = cond (ltb l.count interface_room) (record { count = l.count + 1; list = set l.list l.count x }) (record { count = spoilt; list = l.list })

abbrev pub add_endpoint : Endpoint → Listed Endpoint endpoint_room → Listed Endpoint endpoint_room
add_endpoint x l = cond (ltb l.count endpoint_room) (record { count = l.count + 1; list = set l.list l.count x }) (record { count = spoilt; list = l.list })

-- a plan with the basics alone
abbrev pub bare : Basics → Plan
bare b =
    record {
      basics = b;
      interfaces = record { count = 0; list = replicate interface_room (record { class = 0; subclass = 0; protocol = 0 }) };
      endpoints = record { count = 0; list = replicate endpoint_room (record { address = record { 0 = 0 }; kind = Bulk; size = 0; interval = 0; interface = 0 }) };
      languages = 0;
    }

abbrev pub with_interface : Interface → Plan → Plan
with_interface x p = record { basics = p.basics; interfaces = add_interface x p.interfaces; endpoints = p.endpoints; languages = p.languages }

abbrev pub with_endpoint : Endpoint → Plan → Plan
with_endpoint x p = record { basics = p.basics; interfaces = p.interfaces; endpoints = add_endpoint x p.endpoints; languages = p.languages }
