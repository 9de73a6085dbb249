-- How long a configuration is. Assumes nothing.
use Prim.Native.Nat.{ℕ, ◌+◌, ◌*◌, ◌%◌, ◌≤◌, ◌<◌}
use mathlib.Core.Bool.{Bool, true, false, ◌&&◌}
use mathlib.Core.Path.{◌≡◌, refl, ap, ◌∙◌}
use mathlib.Core.List.{List, [], ◌∷◌, ◌++◌, map}
use native.Mathlib.Omega.{arith}
use borrow.Author.Tests.{eqb-true, eqb-false, ltb-true}
use lib.Dec.{eqb, ltb}
use lib.ListN.{length, take, replicate, length-append}
use lib.Seq.{length-take-le}
use Rattle.common.specs.Lists.{between, every, member, none_twice}
use Rattle.common.proofs.Laws.{and_left, and_right, at_most}
use Rattle.plan.specs.Sizes.{interface_room, endpoint_room}
use Rattle.plan.specs.declared.Endpoint.{Endpoint}
use Rattle.plan.specs.declared.Interface.{Interface}
use Rattle.plan.specs.declared.Plan.{Plan}
use Rattle.plan.specs.declared.Kind.TheVariants.{Bulk, Interrupt}
use Rattle.limits.specs.Limits.{address_of, endpoint_fine, layout_fine}
use Rattle.limits.proofs.Good.{layout-facts}
use Rattle.configuration.specs.Configuration.{owned, joined, interface_set, interface_sets, body_bytes, configuration_bytes}
use Rattle.configuration.proofs.Laws.{owned-here, owned-other, owned-nil, owned-count, length-set}

length-joined : (es : List Endpoint) → length (joined es) ≡ 7 * length es
unfolding joined
length-joined [] = refl
length-joined (e ∷ es) = omega (arith, length-joined es)

-- how many endpoints the interfaces have that are numbered from i on
owners : List Endpoint → ℕ → List Interface → ℕ
owners es i [] = 0
owners es i (x ∷ xs) = length (owned i es) + owners es (i + 1) xs

length-sets : (es : List Endpoint) (i : ℕ) (xs : List Interface) → length (interface_sets es i xs) ≡ 9 * length xs + 7 * owners es i xs
unfolding interface_sets owners
length-sets es i [] = refl
length-sets es i (x ∷ xs) =
    omega (arith, length-append (interface_set es i x) (interface_sets es (i + 1) xs), length-set es i x, length-joined (owned i es), length-sets es (i + 1) xs)

no-owners : (i : ℕ) (xs : List Interface) → owners [] i xs ≡ 0
unfolding owners
no-owners i [] = refl
no-owners i (x ∷ xs) = omega (arith, ap length (owned-nil i), no-owners (i + 1) xs)

-- one endpoint more is counted once more
owners-cons : (e : Endpoint) (es : List Endpoint) (i : ℕ) (xs : List Interface) → owners (e ∷ es) i xs ≡ owners (e ∷ []) i xs + owners es i xs
unfolding owners
owners-cons e es i [] = refl
owners-cons e es i (x ∷ xs) = omega (arith, owned-count i e es, owners-cons e es (i + 1) xs)

module _ (e : Endpoint) where
  before-all : (i : ℕ) (xs : List Interface) → e.interface < i → owners (e ∷ []) i xs ≡ 0
  unfolding owners
  before-all i [] h = refl
  before-all i (x ∷ xs) h =
      let o : length (owned i (e ∷ [])) ≡ 0 = ap length (owned-other i e [] (λ k. omega arith) ∙ owned-nil i) in
      omega (arith, o, before-all (i + 1) xs (omega arith))

  -- an endpoint of an interface that exists is counted once
  among : (i : ℕ) (xs : List Interface) → i ≤ e.interface → e.interface < i + length xs → owners (e ∷ []) i xs ≡ 1
  unfolding owners
  among i [] h l = absurd (omega arith)
  among i (x ∷ xs) h l = go (eqb e.interface i) refl (λ m. among (i + 1) xs m (omega arith))
    where
      go : (b : Bool) → eqb e.interface i ≡ b → (i + 1 ≤ e.interface → owners (e ∷ []) (i + 1) xs ≡ 1) → length (owned i (e ∷ [])) + owners (e ∷ []) (i + 1) xs ≡ 1
      go true t more =
          let k = eqb-true e.interface i t in
          let o : length (owned i (e ∷ [])) ≡ 1 = ap length (owned-here i e [] k ∙ ap (λ r. e ∷ r) (owned-nil i)) in
          omega (arith, o, before-all (i + 1) xs (omega (arith, k)))
      go false t more =
          let k : e.interface ≡ i → ⊥ = eqb-false e.interface i t in
          let o : length (owned i (e ∷ [])) ≡ 0 = ap length (owned-other i e [] k ∙ owned-nil i) in
          let m : i + 1 ≤ e.interface = omega (arith, k) in
          omega (arith, o, more m)

interface-fine : (n : ℕ) (e : Endpoint) → endpoint_fine n e ≡ true → e.interface < n
interface-fine n e t =
    ltb-true e.interface n
    (and_left (ltb e.interface n) (between 1 15 (address_of e % 128)) (and_left (ltb e.interface n && between 1 15 (address_of e % 128)) (between 1 64 e.size) t))

all-owned : (es : List Endpoint) (xs : List Interface) → every (endpoint_fine (length xs)) es ≡ true → owners es 0 xs ≡ length es
unfolding every
all-owned [] xs t = no-owners 0 xs
all-owned (e ∷ es) xs t =
    let f = and_left (endpoint_fine (length xs) e) (every (endpoint_fine (length xs)) es) t in
    let r = all-owned es xs (and_right (endpoint_fine (length xs) e) (every (endpoint_fine (length xs)) es) t) in
    let l = interface-fine (length xs) e f in
    omega (arith, owners-cons e es 0 xs, among e 0 xs (omega arith) (omega (arith, l)), r)

-- every plan of the code has these lengths
pub record Shaped (p : Plan) : Type 0 where
  pub interfaces : length p.interfaces.list ≡ interface_room
  pub endpoints : length p.endpoints.list ≡ endpoint_room

module _ (p : Plan) (s : Shaped p) (fine : layout_fine p ≡ true) where
  -- the parts that are counted are as long as the counts say
  pub length-parts : (length (take p.interfaces.count p.interfaces.list) ≡ p.interfaces.count) × (length (take p.endpoints.count p.endpoints.list) ≡ p.endpoints.count)
  length-parts =
      let f = layout-facts p fine in
      (length-take-le p.interfaces.count p.interfaces.list (omega (arith, s.interfaces, f.interfaces)), length-take-le p.endpoints.count p.endpoints.list (omega (arith, s.endpoints, f.endpoints)))

  pub length-body : length (body_bytes p) ≡ 9 * p.interfaces.count + 7 * p.endpoints.count
  unfolding body_bytes
  length-body =
      let f = layout-facts p fine in
      let es = take p.endpoints.count p.endpoints.list in
      let xs = take p.interfaces.count p.interfaces.list in
      let n = length-parts.0 in
      let m = length-parts.1 in
      let t : every (endpoint_fine (length xs)) es ≡ true = rw n (and_left (every (endpoint_fine p.interfaces.count) es) (none_twice (map address_of es)) f.list) in
      omega (arith, length-sets es 0 xs, all-owned es xs t, n, m)

  -- document 01, module 2: 9 bytes, 9 for each interface and 7 for each endpoint
  pub length-configuration : length (configuration_bytes p) ≡ 9 + 9 * p.interfaces.count + 7 * p.endpoints.count
  unfolding configuration_bytes
  length-configuration = omega (arith, length-body)

-- .. so that the longest is 9 + 36 + 56 = 101 bytes; whatever the lengths of its lists
owned-once : (e : Endpoint) (i : ℕ) (xs : List Interface) → owners (e ∷ []) i xs ≤ 1
unfolding owners
owned-once e i [] = omega arith
owned-once e i (x ∷ xs) = go (eqb e.interface i) refl (owned-once e (i + 1) xs)
  where
    go : (b : Bool) → eqb e.interface i ≡ b → owners (e ∷ []) (i + 1) xs ≤ 1 → length (owned i (e ∷ [])) + owners (e ∷ []) (i + 1) xs ≤ 1
    go true t more =
        let k = eqb-true e.interface i t in
        let o : length (owned i (e ∷ [])) ≡ 1 = ap length (owned-here i e [] k ∙ ap (λ r. e ∷ r) (owned-nil i)) in
        omega (arith, o, before-all e (i + 1) xs (omega (arith, k)))
    go false t more =
        let o : length (owned i (e ∷ [])) ≡ 0 = ap length (owned-other i e [] (eqb-false e.interface i t) ∙ owned-nil i) in
        omega (arith, o, more)

few-owners : (es : List Endpoint) (i : ℕ) (xs : List Interface) → owners es i xs ≤ length es
few-owners [] i xs = omega (arith, no-owners i xs)
few-owners (e ∷ es) i xs = omega (arith, owners-cons e es i xs, owned-once e i xs, few-owners es i xs)

pub longest-configuration : (p : Plan) → layout_fine p ≡ true → length (configuration_bytes p) ≤ 101
unfolding configuration_bytes body_bytes
longest-configuration p fine =
    let f = layout-facts p fine in
    let es = take p.endpoints.count p.endpoints.list in
    let xs = take p.interfaces.count p.interfaces.list in
    let n : length xs ≤ p.interfaces.count = at_most p.interfaces.count p.interfaces.list in
    let m : length es ≤ p.endpoints.count = at_most p.endpoints.count p.endpoints.list in
    omega (arith, length-sets es 0 xs, few-owners es 0 xs, n, m, f.interfaces, f.endpoints)

-- .. and there is one: four interfaces with two endpoints each
abbrev pub pair : ℕ → List Endpoint
pair i =
    record { address = record { 0 = 1 + i }; kind = Bulk; size = 64; interval = 0; interface = i }
    ∷ record { address = record { 0 = 129 + i }; kind = Interrupt; size = 8; interval = 1; interface = i }
    ∷ []

unfoldable pub full : Plan
full =
    record {
      basics =
          record { packet = 64; class = 0; subclass = 0; protocol = 0; vendor = 1; product = 1; release = 1; power = 250; powered = true; wakeup = true; quirk = false };
      interfaces = record { count = interface_room; list = replicate interface_room (record { class = 255; subclass = 0; protocol = 0 }) };
      endpoints = record { count = endpoint_room; list = pair 0 ++ pair 1 ++ pair 2 ++ pair 3 };
      languages = 0;
    }

pub full-fine : layout_fine full ≡ true
unfolding full every none_twice member
full-fine = refl

pub full-length : length (configuration_bytes full) ≡ 101
unfolding full configuration_bytes body_bytes interface_sets interface_set owned joined
full-length = refl
