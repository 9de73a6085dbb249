-- What a record that no number refuses keeps to. Assumes nothing.
use Prim.Native.Nat.{ℕ, ◌≤◌}
use mathlib.Core.Bool.{Bool, true, false, cond, ◌&&◌}
use mathlib.Core.Path.{◌≡◌, refl}
use mathlib.Core.List.{List, map}
use native.Mathlib.Omega.{arith}
use borrow.Author.Tests.{leb-true}
use lib.Dec.{leb}
use lib.ListN.{take}
use Rattle.common.specs.Lists.{between, every, none_twice}
use Rattle.common.proofs.Laws.{and_left, and_right}
use Rattle.common.proofs.Refusals.{Named}
use Rattle.plan.specs.Sizes.{interface_room, endpoint_room}
use Rattle.plan.specs.declared.Plan.{Plan}
use Rattle.record.specs.Sizes.{language_room}
use Rattle.record.specs.declared.Language.{Language}
use Rattle.record.specs.declared.Record.{Record}
use Rattle.limits.specs.Limits.{packet_fine, list_fine, layout_fine, id_of, language_fine, languages_fine, lowest}

three : (a b c : Bool) → ◌≡◌ {A = ℕ} (cond a (cond b (cond c 0 3) 2) 1) 0 → (a ≡ true) × (b ≡ true) × (c ≡ true)
three true true true e = (refl, refl, refl)
three true true false e = absurd (omega arith)
three true false c e = absurd (omega arith)
three false b c e = absurd (omega arith)

some : (a b c : Bool) → (◌≡◌ {A = ℕ} (cond a (cond b (cond c 0 3) 2) 1) 0 → ⊥) → Named (cond a (cond b (cond c 0 3) 2) 1)
some true true true z = absurd (z refl)
some true true false z = refl
some true false c z = refl
some false b c z = refl

module _ (r : Record) where
  pub record Good : Type 0 where
    pub packet : packet_fine r.plan.basics.packet ≡ true
    pub layout : layout_fine r.plan ≡ true
    pub languages : languages_fine r.plan.languages r.languages ≡ true

  pub good : lowest r ≡ 0 → Good
  good e =
      let t = three (packet_fine r.plan.basics.packet) (layout_fine r.plan) (languages_fine r.plan.languages r.languages) e in
      record { packet = t.0; layout = t.1; languages = t.2 }

  -- the refusal's own number is the number of the rule
  pub lowest-number : (lowest r ≡ 0 → ⊥) → Named (lowest r)
  lowest-number = some (packet_fine r.plan.basics.packet) (layout_fine r.plan) (languages_fine r.plan.languages r.languages)

-- rule 2, taken apart
pub record Layout (p : Plan) : Type 0 where
  pub some : 1 ≤ p.interfaces.count
  pub interfaces : p.interfaces.count ≤ interface_room
  pub endpoints : p.endpoints.count ≤ endpoint_room
  pub list : list_fine p.interfaces.count (take p.endpoints.count p.endpoints.list) ≡ true

pub layout-facts : (p : Plan) → layout_fine p ≡ true → Layout p
layout-facts p e =
    let n = p.interfaces.count in
    let power = leb p.basics.power 250 in
    let count = leb p.endpoints.count endpoint_room in
    let list = list_fine n (take p.endpoints.count p.endpoints.list) in
    let a = and_left (power && between 1 interface_room n && count) list e in
    let b = and_left (power && between 1 interface_room n) count a in
    let c = and_right power (between 1 interface_room n) b in
    record {
      some = leb-true 1 n (and_left (leb 1 n) (leb n interface_room) c);
      interfaces = leb-true n interface_room (and_right (leb 1 n) (leb n interface_room) c);
      endpoints = leb-true p.endpoints.count endpoint_room (and_right (power && between 1 interface_room n) count a);
      list = and_right (power && between 1 interface_room n && count) list e;
    }

-- rule 3, taken apart
pub record Tongues (n : ℕ) (ls : List Language) : Type 0 where
  pub few : n ≤ language_room
  pub once : none_twice (map id_of (take n ls)) ≡ true
  pub lengths : every language_fine (take n ls) ≡ true

pub tongue-facts : (n : ℕ) (ls : List Language) → languages_fine n ls ≡ true → Tongues n ls
tongue-facts n ls e =
    let few = leb n language_room in
    let once = none_twice (map id_of (take n ls)) in
    let lengths = every language_fine (take n ls) in
    let a = and_left (few && once) lengths e in
    record {
      few = leb-true n language_room (and_left few once a);
      once = and_right few once a;
      lengths = and_right (few && once) lengths e;
    }
