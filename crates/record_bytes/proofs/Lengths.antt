-- How long the parts of a record's bytes are, of a record whose lists have the lengths of its type. Assumes nothing.
use Prim.Native.Nat.{ℕ, suc, ◌+◌, ◌-◌, ◌*◌, ◌≤◌}
use mathlib.Core.Path.{◌≡◌, refl, sym, ap, ap₂, ◌∙◌}
use mathlib.Core.List.{List, [], ◌∷◌, ◌++◌}
use native.Mathlib.Omega.{arith}
use native.Mathlib.Nat.{mul-zero, mul-suc, add_comm}
use lib.ListN.{length, get_or, length-append}
use Rattle.std.specs.List.{All}
use Rattle.common.specs.Bytes.{placed}
use Rattle.common.proofs.Laws.{placed-more}
use Rattle.plan.specs.Sizes.{interface_room, endpoint_room}
use Rattle.plan.specs.declared.Plan.{Plan}
use Rattle.record.specs.Sizes.{language_room, names, unit_room, string_room, text_room}
use Rattle.record.specs.declared.Text.{Text}
use Rattle.record.specs.declared.Language.{Language}
use Rattle.record.specs.declared.Record.{Record}
use Rattle.record_bytes.specs.Codes.{word_bytes, joined}
use Rattle.record_bytes.specs.Layout.{head_size, language_place, length_place, unit_place, record_size, interface_size, endpoint_size, word_size, text_size, interface_bytes, endpoint_bytes, head_bytes, plan_bytes, id_bytes, length_bytes, lengths_bytes, text_bytes, texts_bytes, strings_bytes, record_bytes}
use Rattle.record_bytes.specs.Shape.{Planned, Shaped}
use Rattle.record_bytes.proofs.Walks.{length-joined, three-placed, placed-over}

module _ {A : Type 0} (P : A → Type 0) (x : A) (xs : List A) (h : All P (x ∷ xs)) where
  pub all-first : P x
  all-first = h 0 x (omega arith)

  pub all-rest : All P xs
  all-rest i d l = h (suc i) d (omega arith)

-- entries that are as long as one another in this list
pub length-each : {A : Type 0} (f : A → List ℕ) (k : ℕ) (xs : List A) → All (λ x. length (f x) ≡ k) xs → length (joined f xs) ≡ k * length xs
unfolding joined
length-each f k [] h = sym (mul-zero k)
length-each f k (x ∷ xs) h =
    length-append (f x) (joined f xs)
    ∙ ap₂ (λ (a b : ℕ). a + b) (all-first (λ x. length (f x) ≡ k) x xs h) (length-each f k xs (all-rest (λ x. length (f x) ≡ k) x xs h))
    ∙ add_comm k (k * length xs)
    ∙ sym (mul-suc k (length xs))

pub interfaces-length : (p : Plan) → Planned p → length (joined interface_bytes p.interfaces.list) ≡ interface_size * interface_room
interfaces-length p h = length-joined interface_bytes interface_size (λ x. refl) p.interfaces.list ∙ ap (λ (n : ℕ). interface_size * n) h.interfaces

pub endpoints-length : (p : Plan) → Planned p → length (joined endpoint_bytes p.endpoints.list) ≡ endpoint_size * endpoint_room
endpoints-length p h = length-joined endpoint_bytes endpoint_size (λ x. refl) p.endpoints.list ∙ ap (λ (n : ℕ). endpoint_size * n) h.endpoints

pub head-length : (p : Plan) → length (head_bytes p) ≡ head_size
unfolding head_bytes
head-length p = refl

pub plan-length : (p : Plan) → Planned p → length (plan_bytes p) ≡ language_place
unfolding plan_bytes
plan-length p h =
    let i = joined interface_bytes p.interfaces.list in
    let e = joined endpoint_bytes p.endpoints.list in
    length-append (head_bytes p) (i ++ e)
    ∙ ap₂ (λ (a b : ℕ). a + b) (head-length p) (length-append i e ∙ ap₂ (λ (a b : ℕ). a + b) (interfaces-length p h) (endpoints-length p h))

pub text-length : (t : Text) → length t.units ≡ unit_room → length (text_bytes t) ≡ text_size
text-length t e = length-joined word_bytes word_size (λ x. refl) t.units ∙ ap (λ (n : ℕ). word_size * n) e

pub lengths-length : (l : Language) → length l.names ≡ names → length (lengths_bytes l) ≡ names
lengths-length l e = length-joined length_bytes 1 (λ x. refl) l.names ∙ ap (λ (n : ℕ). 1 * n) e

pub texts-length : (l : Language) → length l.names ≡ names → All (λ t. length t.units ≡ unit_room) l.names → length (texts_bytes l) ≡ names * text_size
texts-length l e h = length-each text_bytes text_size l.names (λ i t k. text-length (get_or l.names i t) (h i t k)) ∙ ap (λ (n : ℕ). text_size * n) e

pub ids-length : (ls : List Language) → length ls ≡ language_room → length (joined id_bytes ls) ≡ word_size * language_room
ids-length ls e = length-joined id_bytes word_size (λ x. refl) ls ∙ ap (λ (n : ℕ). word_size * n) e

module _ (r : Record) (h : Shaped r) where
  pub all-lengths-length : length (joined lengths_bytes r.languages) ≡ string_room
  all-lengths-length = length-each lengths_bytes names r.languages (λ i l k. lengths-length (get_or r.languages i l) (h.names i l k)) ∙ ap (λ (n : ℕ). names * n) h.languages

  pub all-texts-length : length (joined texts_bytes r.languages) ≡ word_size * text_room
  all-texts-length = length-each texts_bytes (names * text_size) r.languages (λ i l k. texts-length (get_or r.languages i l) (h.names i l k) (h.units i l k)) ∙ ap (λ (n : ℕ). names * text_size * n) h.languages

  pub strings-length : length (strings_bytes r.languages) ≡ record_size - language_place
  unfolding strings_bytes
  strings-length =
      let i = joined id_bytes r.languages in
      let n = joined lengths_bytes r.languages in
      let t = joined texts_bytes r.languages in
      length-append i (n ++ t) ∙ ap₂ (λ (a b : ℕ). a + b) (ids-length r.languages h.languages) (length-append n t ∙ ap₂ (λ (a b : ℕ). a + b) all-lengths-length all-texts-length)

  pub record-length : length (record_bytes r) ≡ record_size
  unfolding record_bytes
  record-length =
      length-append (plan_bytes r.plan) (strings_bytes r.languages) ∙ ap₂ (λ (a b : ℕ). a + b) (plan-length r.plan h.plan) strings-length

-- the plan and the three parts of the strings placed
pub record-placed : (r : Record) (d : List ℕ) {d₁ d₂ d₃ d₄ : List ℕ} → length d ≡ record_size → d₁ ≡ placed d 0 (plan_bytes r.plan)
    → d₂ ≡ placed d₁ language_place (joined id_bytes r.languages) → d₃ ≡ placed d₂ length_place (joined lengths_bytes r.languages) → d₄ ≡ placed d₃ unit_place (joined texts_bytes r.languages)
    → length (plan_bytes r.plan) ≡ language_place → length (joined id_bytes r.languages) ≡ word_size * language_room → length (joined lengths_bytes r.languages) ≡ string_room
    → length (joined texts_bytes r.languages) ≡ word_size * text_room → length d₁ ≡ record_size → d₄ ≡ record_bytes r
unfolding record_bytes strings_bytes
record-placed r d {d₁} l e f g k a b c u l₁ =
    let p = plan_bytes r.plan in
    let i = joined id_bytes r.languages in
    let n = joined lengths_bytes r.languages in
    let t = joined texts_bytes r.languages in
    let m : length (i ++ (n ++ t)) ≡ record_size - language_place = length-append i (n ++ t) ∙ ap₂ (λ (x y : ℕ). x + y) b (length-append n t ∙ ap₂ (λ (x y : ℕ). x + y) c u) in
    let s = three-placed d₁ i n t language_place length_place unit_place f g k (omega (arith, b)) (omega (arith, c)) (omega (arith, u, l₁)) in
    let room : 0 + length p + length (i ++ (n ++ t)) ≤ length d = omega (arith, a, m, l) in
    let o : language_place ≡ 0 + length p = omega (arith, a) in
    let q : length d ≡ length (p ++ (i ++ (n ++ t))) = l ∙ sym (length-append p (i ++ (n ++ t)) ∙ ap₂ (λ (x y : ℕ). x + y) a m) in
    s ∙ ap₂ (λ (x : List ℕ) (y : ℕ). placed x y (i ++ (n ++ t))) e o ∙ placed-more d p (i ++ (n ++ t)) 0 room ∙ placed-over d (p ++ (i ++ (n ++ t))) q
