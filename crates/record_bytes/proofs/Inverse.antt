-- A record that is written is read back, and bytes that are a record's are what it is written as. Assumes nothing.
use Prim.Native.Nat.{ℕ, zero, suc, ◌+◌, ◌-◌, ◌*◌, ◌≤◌, ◌<◌}
use mathlib.Core.Bool.{Bool, true, false, ◌&&◌}
use mathlib.Core.Path.{◌≡◌, refl, sym, ap, ap₂, ◌∙◌}
use mathlib.Core.List.{List, [], ◌∷◌, ◌++◌, append_assoc}
use native.Mathlib.Omega.{arith}
use native.Mathlib.Nat.{zero-add, add-zero, add_comm, add_assoc, mul-zero, mul-suc}
use native.Mathlib.Numerals.{add-one}
use borrow.Author.Tests.{leb-true, leb-false}
use lib.Dec.{leb}
use lib.ListN.{length, get_or, take, drop, length-drop, take-append-drop, get_or-eq_default}
use Rattle.std.specs.List.{All}
use Rattle.std.proofs.lemmas.List.{take-take, drop-take}
use lib.Seq.{take-add, get_or-take, get_or-drop, drop-drop, drop-append-add, length-take-le, take_all, take_at, drop_at}
use Rattle.common.specs.Bytes.{part}
use Rattle.common.specs.Lists.{every}
use Rattle.common.proofs.Laws.{and_left, and_right, at_most}
use Rattle.plan.specs.Sizes.{interface_room, endpoint_room}
use Rattle.plan.specs.declared.Basics.{Basics}
use Rattle.plan.specs.declared.Interface.{Interface}
use Rattle.plan.specs.declared.Endpoint.{Endpoint}
use Rattle.plan.specs.declared.Kind.{Kind}
use Rattle.plan.specs.declared.Kind.TheVariants.{Bulk, Interrupt}
use Rattle.plan.specs.declared.Plan.{Plan}
use Rattle.plan.specs.Codes.{kind_code, kind_of}
use Rattle.record.specs.Sizes.{language_room, names, unit_room, string_room, text_room}
use Rattle.record.specs.declared.Text.{Text}
use Rattle.record.specs.declared.Language.{Language}
use Rattle.record.specs.declared.Record.{Record}
use Rattle.control.specs.Setup.{word_at}
use Rattle.record_bytes.specs.Codes.{word_bytes, coded, joined, entries, numbered}
use Rattle.record_bytes.specs.Layout.{head_size, interface_size, endpoint_size, word_size, text_size, endpoint_place, language_place, length_place, unit_place, record_size, interface_bytes, endpoint_bytes, head_bytes, plan_bytes, id_bytes, length_bytes, lengths_bytes, text_bytes, texts_bytes, strings_bytes, record_bytes, interface_of, endpoint_of, word_of, basics_of, plan_of, text_of, language_of, record_of, endpoint_coded, same, record_coded}
use Rattle.record_bytes.specs.Entries.{word-back, interface-back, endpoint-back}
use Rattle.record_bytes.proofs.Walks.{get_d_part, length-entries, length-numbered}
use Rattle.record_bytes.specs.Shape.{Shaped}
use Rattle.record_bytes.proofs.Numbers.{Small, both, flag-named, flag-coded, flag-back, word-named, word_back, cons_same, join-same, spelt, spells, spells-part}
use Rattle.record_bytes.proofs.Lengths.{all-first, all-rest, head-length, interfaces-length, endpoints-length, text-length, lengths-length, texts-length, ids-length, all-lengths-length, all-texts-length}

-- ---- parts of a list

module _ {A : Type 0} (xs ys : List A) (k : ℕ) (e : length xs ≡ k) where
  -- behind a list that is in front
  pub part-skip : (at n : ℕ) → part (k + at) n (xs ++ ys) ≡ part at n ys
  part-skip at n = rw (← e) (ap (take n) (drop-append-add xs ys at))

  -- the list in front
  pub part-here : part 0 k (xs ++ ys) ≡ xs
  part-here = take_at xs ys k e

-- a part of a part
pub part-of-part : {A : Type 0} (s : List A) (a i k n : ℕ) → i + k ≤ n → part (a + i) k s ≡ part i k (part a n s)
part-of-part {A} s a i k n l =
    let u = drop a s in
    let m : k ≤ n - i = omega arith in
    let e : i + (n - i) ≡ n = omega arith in
    ap (take k) (sym (drop-drop i a s)) ∙ sym (take-take k (n - i) (drop i u) m) ∙ ap (take k) (sym (drop-take i (n - i) u)) ∙ ap (λ (j : ℕ). take k (drop i (take j u))) e

-- a part and the part behind it
pub part-join : {A : Type 0} (s : List A) (a k n : ℕ) → part a k s ++ part (a + k) n s ≡ part a (k + n) s
part-join {A} s a k n = ap (λ (u : List A). part a k s ++ take n u) (sym (drop-drop k a s)) ∙ sym (take-add k n (drop a s))

-- the front and what is behind it
pub part-rest : {A : Type 0} (s : List A) (at n : ℕ) → part at n s ++ drop (at + n) s ≡ drop at s
part-rest {A} s at n = ap (λ (u : List A). part at n s ++ u) (sym (drop-drop n at s)) ∙ take-append-drop n (drop at s)

pub length-of-part : {A : Type 0} (s : List A) (at n : ℕ) → at + n ≤ length s → length (part at n s) ≡ n
length-of-part s at n l = let h : n ≤ length (drop at s) = simp length-drop (omega arith) in length-take-le n (drop at s) h

pub small-take : (n : ℕ) (s : List ℕ) → Small s → Small (take n s)
small-take n s h i = at_place (leb (i + 1) n) refl
  where
    at_place : (b : Bool) → leb (i + 1) n ≡ b → get_or (take n s) i 0 < 256
    at_place true e =
        let m : i + 1 ≤ n = leb-true (i + 1) n e in
        let l : i < n = omega (arith, m) in
        rw (get_or-take n s i 0 l) (h i)
    at_place false e =
        let m : n < i + 1 = leb-false (i + 1) n e in
        let l : length (take n s) ≤ i = omega (arith, m, at_most n s) in
        rw (get_or-eq_default (take n s) 0 l) (let z : 0 < 256 = omega arith in z)

pub small-drop : (n : ℕ) (s : List ℕ) → Small s → Small (drop n s)
small-drop n s h i = rw (get_or-drop n s i 0) (h (n + i))

-- ---- lists of entries

every_true : {A : Type 0} (xs : List A) → every (λ (x : A). true) xs ≡ true
unfolding every
every_true [] = refl
every_true (x ∷ xs) = every_true xs

module _ {A : Type 0} (f : A → List ℕ) (g : List ℕ → A) (k : ℕ) where
  -- what is written is read back
  pub entries-back : ((x : A) → length (f x) ≡ k) → ((x : A) → g (f x) ≡ x) → (xs : List A) → entries (length xs) k g (joined f xs) ≡ xs
  unfolding joined entries
  entries-back l h [] = refl
  entries-back l h (x ∷ xs) =
      ap₂ (λ (y : A) (ys : List A). y ∷ ys) (ap g (take_at (f x) (joined f xs) k (l x)) ∙ h x)
      (ap (entries (length xs) k g) (drop_at (f x) (joined f xs) k (l x)) ∙ entries-back l h xs)

  -- each is coded as c asks
  pub entries-coded : (c : List ℕ → Bool) → ((x : A) → length (f x) ≡ k) → ((x : A) → c (f x) ≡ true) → (xs : List A) → every c (entries (length xs) k same (joined f xs)) ≡ true
  unfolding joined entries every
  entries-coded c l h [] = refl
  entries-coded c l h (x ∷ xs) =
      both _ _ (ap c (take_at (f x) (joined f xs) k (l x)) ∙ h x)
      (ap (λ (u : List ℕ). every c (entries (length xs) k same u)) (drop_at (f x) (joined f xs) k (l x)) ∙ entries-coded c l h xs)

  -- what is read is what is written
  module _ (c : List ℕ → Bool) (h : (u : List ℕ) → length u ≡ k → Small u → c u ≡ true → f (g u) ≡ u) where
    pub entries-forth : (n : ℕ) (s : List ℕ) → length s ≡ k * n → Small s → every c (entries n k same s) ≡ true → joined f (entries n k g s) ≡ s
    unfolding joined entries every
    entries-forth zero [] l m e = refl
    entries-forth zero (x ∷ s) l m e = absurd (omega (arith, l, mul-zero k))
    entries-forth (suc n) s l m e =
        let w : length s ≡ k * n + k = l ∙ mul-suc k n in
        let a : k ≤ length s = omega (arith, w) in
        let b : length (drop k s) ≡ k * n = length-drop k s ∙ (let z : length s - k ≡ k * n = omega (arith, w) in z) in
        let x = c (take k s) in
        let y = every c (entries n k same (drop k s)) in
        join-same (h (take k s) (length-take-le k s a) (small-take k s m) (and_left x y e))
        (entries-forth n (drop k s) b (small-drop k s m) (and_right x y e))
        ∙ take-append-drop k s

-- the entry at a place
pub joined-part : {A : Type 0} (f : A → List ℕ) (k : ℕ) (xs : List A) → All (λ x. length (f x) ≡ k) xs → (i : ℕ) (d : A) → i < length xs → part (k * i) k (joined f xs) ≡ f (get_or xs i d)
unfolding joined
joined-part f k [] h i d l = absurd (omega arith)
joined-part f k (x ∷ xs) h zero d l = rw (mul-zero k) (take_at (f x) (joined f xs) k (all-first (λ x. length (f x) ≡ k) x xs h))
joined-part f k (x ∷ xs) h (suc i) d l =
    let e : k * suc i ≡ k + k * i = mul-suc k i ∙ add_comm (k * i) k in
    ap (λ (j : ℕ). part j k (f x ++ joined f xs)) e
    ∙ part-skip (f x) (joined f xs) k (all-first (λ x. length (f x) ≡ k) x xs h) (k * i) k
    ∙ joined-part f k xs (all-rest (λ x. length (f x) ≡ k) x xs h) i d (omega arith)

-- ---- values at numbers

numbered-is : {A : Type 0} (f : ℕ → A) (i : ℕ) (xs : List A) → ((j : ℕ) (d : A) → j < length xs → f (i + j) ≡ get_or xs j d) → numbered (length xs) i f ≡ xs
unfolding numbered
numbered-is f i [] h = refl
numbered-is {A} f i (x ∷ xs) h =
    ap₂ (λ (y : A) (ys : List A). y ∷ ys) (ap f (sym (add-zero i)) ∙ h 0 x (omega arith))
    (numbered-is f (i + 1) xs (λ j d l. let e : i + 1 + j ≡ i + suc j = omega arith in ap f e ∙ h (suc j) d (omega arith)))

-- a list is the values that stand in it
numbered-of : {A : Type 0} (f : ℕ → A) (n : ℕ) (xs : List A) → length xs ≡ n → ((j : ℕ) (d : A) → j < n → f j ≡ get_or xs j d) → numbered n 0 f ≡ xs
numbered-of f n xs e h =
    ap (λ (k : ℕ). numbered k 0 f) (sym e)
    ∙ numbered-is f 0 xs (λ j d l. let m : j < n = omega (arith, e, l) in ap f (zero-add j) ∙ h j d m)

all-numbered : {A : Type 0} (P : A → Type 0) (f : ℕ → A) → ((j : ℕ) → P (f j)) → (n i : ℕ) → All P (numbered n i f)
unfolding numbered
all-numbered P f h zero i j d l = absurd (omega arith)
all-numbered P f h (suc n) i zero d l = h i
all-numbered P f h (suc n) i (suc j) d l = all-numbered P f h n (i + 1) j d (omega arith)

module _ {A : Type 0} (f : A → List ℕ) (g : ℕ → A) (k at : ℕ) (s : List ℕ) (room : ℕ) (h : (j : ℕ) → j < room → f (g j) ≡ part (at + k * j) k s) where
  numbered-parts : (n i : ℕ) → i + n ≤ room → joined f (numbered n i g) ≡ part (at + k * i) (k * n) s
  unfolding joined numbered
  numbered-parts zero i l = sym (ap (λ (j : ℕ). part (at + k * i) j s) (mul-zero k))
  numbered-parts (suc n) i l =
      let e : k * suc n ≡ k + k * n = mul-suc k n ∙ add_comm (k * n) k in
      let p : at + k * (i + 1) ≡ at + k * i + k = ap (λ (j : ℕ). at + j) (ap (λ (j : ℕ). k * j) (add-one i) ∙ mul-suc k i) ∙ sym (add_assoc at (k * i) k) in
      join-same (h i (omega arith)) (numbered-parts n (i + 1) (omega arith) ∙ ap (λ (j : ℕ). part j (k * n) s) p) ∙ part-join s (at + k * i) k (k * n) ∙ sym (ap (λ (j : ℕ). part (at + k * i) j s) e)

  -- what is read at each number is what is written there
  numbered-forth : joined f (numbered room 0 g) ≡ part at (k * room) s
  numbered-forth = numbered-parts room 0 (omega arith) ∙ ap (λ (j : ℕ). part j (k * room) s) (ap (λ (j : ℕ). at + j) (mul-zero k) ∙ add-zero at)

-- ---- one entry

kind-coded : (k : Kind) → leb (kind_code k) 1 ≡ true
kind-coded Bulk = refl
kind-coded Interrupt = refl

kind-back : (n : ℕ) → leb n 1 ≡ true → kind_code (kind_of n) ≡ n
kind-back zero e = refl
kind-back (suc zero) e = refl
kind-back (suc (suc n)) e = absurd (let l : suc (suc n) ≤ 1 = leb-true (suc (suc n)) 1 e in omega (arith, l))

interface-forth : (u : List ℕ) → length u ≡ interface_size → interface_bytes (interface_of u) ≡ u
unfolding spelt
interface-forth u l = sym (spells interface_size 0 u l)

endpoint-forth : (u : List ℕ) → length u ≡ endpoint_size → endpoint_coded u ≡ true → endpoint_bytes (endpoint_of u) ≡ u
unfolding spelt
endpoint-forth u l c = cons_same refl (cons_same (kind-back (get_or u 1 0) c) refl) ∙ sym (spells endpoint_size 0 u l)

word-forth : (u : List ℕ) → length u ≡ word_size → Small u → word_bytes (word_of u) ≡ u
unfolding spelt
word-forth u l h = word_back u h 0 ∙ sym (spells word_size 0 u l)

-- ---- the whole record, written

basics-same : (b : Basics) {v p r : ℕ} {x y z : Bool} → v ≡ b.vendor → p ≡ b.product → r ≡ b.release → x ≡ b.powered → y ≡ b.wakeup → z ≡ b.quirk
    → record { packet = b.packet; class = b.class; subclass = b.subclass; protocol = b.protocol; vendor = v; product = p; release = r; power = b.power; powered = x; wakeup = y; quirk = z } ≡ b
basics-same b e f g h i j = rw (e, f, g, h, i, j)

basics-back : (p : Plan) (rest : List ℕ) → basics_of (head_bytes p ++ rest) ≡ p.basics
unfolding basics_of head_bytes
basics-back p rest =
    let b = p.basics in
    basics-same b (word-named b.vendor) (word-named b.product) (word-named b.release) (flag-named b.powered) (flag-named b.wakeup) (flag-named b.quirk)

plan-same : (p : Plan) {b : Basics} {i : List Interface} {e : List Endpoint} → b ≡ p.basics → i ≡ p.interfaces.list → e ≡ p.endpoints.list
    → record { basics = b; interfaces = record { count = p.interfaces.count; list = i }; endpoints = record { count = p.endpoints.count; list = e }; languages = p.languages } ≡ p
plan-same p e f g = rw (e, f, g)

record_same : (r : Record) {p : Plan} {ls : List Language} → p ≡ r.plan → ls ≡ r.languages → record { plan = p; languages = ls } ≡ r
record_same r e f = rw (e, f)

-- its six parts, one behind the other
flat : Record → List ℕ
flat r =
    head_bytes r.plan
    ++ (joined interface_bytes r.plan.interfaces.list ++ (joined endpoint_bytes r.plan.endpoints.list ++ (joined id_bytes r.languages ++ (joined lengths_bytes r.languages ++ joined texts_bytes r.languages))))

flat-is : (r : Record) → record_bytes r ≡ flat r
unfolding record_bytes plan_bytes strings_bytes flat
flat-is r =
    let h = head_bytes r.plan in
    let i = joined interface_bytes r.plan.interfaces.list in
    let e = joined endpoint_bytes r.plan.endpoints.list in
    let t = joined id_bytes r.languages ++ (joined lengths_bytes r.languages ++ joined texts_bytes r.languages) in
    append_assoc h (i ++ e) t ∙ ap (λ (u : List ℕ). h ++ u) (append_assoc i e t)

-- the parts of six lists
record Parts (s i e w l u : List ℕ) : Type 0 where
  interfaces : part head_size (interface_size * interface_room) s ≡ i
  endpoints : part endpoint_place (endpoint_size * endpoint_room) s ≡ e
  ids : part language_place (word_size * language_room) s ≡ w
  lens : part length_place string_room s ≡ l
  units : part unit_place (word_size * text_room) s ≡ u

parts : (h i e w l u : List ℕ) → length h ≡ head_size → length i ≡ interface_size * interface_room → length e ≡ endpoint_size * endpoint_room → length w ≡ word_size * language_room
    → length l ≡ string_room → length u ≡ word_size * text_room → Parts (h ++ (i ++ (e ++ (w ++ (l ++ u))))) i e w l u
parts h i e w l u a b c d f g =
    let t₅ = l ++ u in
    let t₄ = w ++ t₅ in
    let t₃ = e ++ t₄ in
    let t₂ = i ++ t₃ in
    let to₂ = part-skip h t₂ head_size a in
    let to₃ = part-skip i t₃ (interface_size * interface_room) b in
    let to₄ = part-skip e t₄ (endpoint_size * endpoint_room) c in
    let to₅ = part-skip w t₅ (word_size * language_room) d in
    let to₆ = part-skip l u string_room f in
    let is = interface_size * interface_room in
    let es = endpoint_size * endpoint_room in
    let ws = word_size * language_room in
    let us = word_size * text_room in
    record {
      interfaces = to₂ 0 is ∙ part-here i t₃ is b;
      endpoints = to₂ is es ∙ to₃ 0 es ∙ part-here e t₄ es c;
      ids = to₂ (is + es) ws ∙ to₃ es ws ∙ to₄ 0 ws ∙ part-here w t₅ ws d;
      lens = to₂ (is + es + ws) string_room ∙ to₃ (es + ws) string_room ∙ to₄ ws string_room ∙ to₅ 0 string_room ∙ part-here l u string_room f;
      units = to₂ (is + es + ws + string_room) us ∙ to₃ (es + ws + string_room) us ∙ to₄ (ws + string_room) us ∙ to₅ string_room us ∙ to₆ 0 us ∙ take_all us u (omega (arith, g));
    }

parts-of : (r : Record) → Shaped r → Parts (flat r) (joined interface_bytes r.plan.interfaces.list) (joined endpoint_bytes r.plan.endpoints.list) (joined id_bytes r.languages) (joined lengths_bytes r.languages) (joined texts_bytes r.languages)
unfolding flat
parts-of r h =
    parts (head_bytes r.plan) (joined interface_bytes r.plan.interfaces.list) (joined endpoint_bytes r.plan.endpoints.list) (joined id_bytes r.languages) (joined lengths_bytes r.languages) (joined texts_bytes r.languages)
    (head-length r.plan) (interfaces-length r.plan h.plan) (endpoints-length r.plan h.plan) (ids-length r.languages h.languages) (all-lengths-length r h) (all-texts-length r h)

-- a list that is read back
list_back : {A : Type 0} (f : A → List ℕ) (g : List ℕ → A) (k n : ℕ) {s : List ℕ} (xs : List A) → ((x : A) → length (f x) ≡ k) → ((x : A) → g (f x) ≡ x) → length xs ≡ n → s ≡ joined f xs → entries n k g s ≡ xs
list_back f g k n xs l b e d = ap₂ (λ (m : ℕ) (u : List ℕ). entries m k g u) (sym e) d ∙ entries-back f g k l b xs

-- a string, and a language, that is read back where its bytes stand
text_back : (s : List ℕ) (slot : ℕ) (t : Text) → length t.units ≡ unit_room → part (length_place + slot) 1 s ≡ length_bytes t → part (unit_place + text_size * slot) text_size s ≡ text_bytes t → text_of slot s ≡ t
text_back s slot t e f g =
    let z : 0 < 1 = omega arith in
    let len : get_or s (length_place + slot) 0 ≡ t.len =
    ap (λ (n : ℕ). get_or s n 0) (sym (add-zero (length_place + slot))) ∙ sym (get_d_part s (length_place + slot) 1 0 0 z) ∙ ap (λ (u : List ℕ). get_or u 0 0) f in
    ap₂ (λ (n : ℕ) (us : List ℕ). record { len = n; units = us }) len (list_back word_bytes word_of word_size unit_room t.units (λ x. refl) word-back e g)

language_back : (s : List ℕ) (i : ℕ) (l : Language) → length l.names ≡ names → All (λ t. length t.units ≡ unit_room) l.names → part (language_place + word_size * i) word_size s ≡ id_bytes l
    → part (length_place + names * i) names s ≡ lengths_bytes l → part (unit_place + names * text_size * i) (names * text_size) s ≡ texts_bytes l → language_of i s ≡ l
language_back s i l n h a b c =
    let at = language_place + word_size * i in
    let z : 0 < word_size = omega arith in
    let o : 1 < word_size = omega arith in
    let id : word_at s at ≡ l.id =
    ap₂ (λ (x y : ℕ). x + 256 * y) (ap (λ (k : ℕ). get_or s k 0) (sym (add-zero at)) ∙ sym (get_d_part s at word_size 0 0 z)) (sym (get_d_part s at word_size 1 0 o)) ∙ ap word_of a ∙ word-back l.id in
    ap₂ (λ (n : ℕ) (ts : List Text). record { id = n; names = ts }) id
    (numbered-of (λ k. text_of (names * i + k) s) names l.names n
    (λ k t m.
    let x = get_or l.names k t in
    let r : k + 1 ≤ names = omega (arith, n, m) in
    let here : k < length l.names = omega (arith, n, m) in
    let p : length_place + (names * i + k) ≡ length_place + names * i + 1 * k = omega arith in
    let q : unit_place + text_size * (names * i + k) ≡ unit_place + names * text_size * i + text_size * k = omega arith in
    let v : 1 * k + 1 ≤ names = omega (arith, r) in
    let w : text_size * k + text_size ≤ names * text_size = omega (arith, r) in
    text_back s (names * i + k) x (h k t here)
    (ap (λ (j : ℕ). part j 1 s) p ∙ part-of-part s (length_place + names * i) (1 * k) 1 names v ∙ ap (part (1 * k) 1) b ∙ joined-part length_bytes 1 l.names (λ j y g. refl) k t here)
    (ap (λ (j : ℕ). part j text_size s) q ∙ part-of-part s (unit_place + names * text_size * i) (text_size * k) text_size (names * text_size) w ∙ ap (part (text_size * k) text_size) c ∙ joined-part text_bytes text_size l.names (λ j y g. text-length (get_or l.names j y) (h j y g)) k t here)))

flat_back : (r : Record) → Shaped r → record_of (flat r) ≡ r
unfolding record_of plan_of head_bytes flat
flat_back r h =
    let p = parts-of r h in
    let s = flat r in
    let ls = r.languages in
    record_same r
    (plan-same r.plan (basics-back r.plan _) (list_back interface_bytes interface_of interface_size interface_room r.plan.interfaces.list (λ x. refl) interface-back h.plan.interfaces p.interfaces) (list_back endpoint_bytes endpoint_of endpoint_size endpoint_room r.plan.endpoints.list (λ x. refl) endpoint-back h.plan.endpoints p.endpoints))
    (numbered-of (λ i. language_of i s) language_room ls h.languages
    (λ i d m.
    let l = get_or ls i d in
    let here : i < length ls = omega (arith, h.languages, m) in
    let a : word_size * i + word_size ≤ word_size * language_room = omega (arith, m) in
    let b : names * i + names ≤ string_room = omega (arith, m) in
    let c : names * text_size * i + names * text_size ≤ word_size * text_room = omega (arith, m) in
    language_back s i l (h.names i d here) (h.units i d here)
    (part-of-part s language_place (word_size * i) word_size (word_size * language_room) a ∙ ap (part (word_size * i) word_size) p.ids ∙ joined-part id_bytes word_size ls (λ j y g. refl) i d here)
    (part-of-part s length_place (names * i) names string_room b ∙ ap (part (names * i) names) p.lens ∙ joined-part lengths_bytes names ls (λ j y g. lengths-length (get_or ls j y) (h.names j y g)) i d here)
    (part-of-part s unit_place (names * text_size * i) (names * text_size) (word_size * text_room) c ∙ ap (part (names * text_size * i) (names * text_size)) p.units ∙ joined-part texts_bytes (names * text_size) ls (λ j y g. texts-length (get_or ls j y) (h.names j y g) (h.units j y g)) i d here)))

-- what is written is read back
pub record-back : (r : Record) → Shaped r → record_of (record_bytes r) ≡ r
record-back r h = ap record_of (flat-is r) ∙ flat_back r h

flat-coded : (r : Record) → Shaped r → record_coded (flat r) ≡ true
unfolding record_coded head_bytes flat
flat-coded r h =
    let b = r.plan.basics in
    let p = parts-of r h in
    both _ _ (both _ _ (both _ _ (flag-coded b.powered) (flag-coded b.wakeup)) (flag-coded b.quirk))
    (ap₂ (λ (m : ℕ) (u : List ℕ). every endpoint_coded (entries m endpoint_size same u)) (sym h.plan.endpoints) p.endpoints ∙ entries-coded endpoint_bytes endpoint_of endpoint_size endpoint_coded (λ x. refl) (λ x. kind-coded x.kind) r.plan.endpoints.list)

-- and is what a record is written as
pub record-coded : (r : Record) → Shaped r → record_coded (record_bytes r) ≡ true
record-coded r h = ap record_coded (flat-is r) ∙ flat-coded r h

-- ---- the whole record, read

head-forth : (s : List ℕ) → length s ≡ record_size → Small s → record_coded s ≡ true → head_bytes (plan_of s) ≡ part 0 head_size s
unfolding head_bytes plan_of basics_of record_coded spelt
head-forth s l h c =
    let e = every endpoint_coded (entries endpoint_room endpoint_size same (part endpoint_place (endpoint_size * endpoint_room) s)) in
    let flags = and_left (coded s 11 1 && coded s 12 1 && coded s 13 1) e c in
    let two = and_left (coded s 11 1 && coded s 12 1) (coded s 13 1) flags in
    let k : 0 + head_size ≤ length s = omega (arith, l) in
    cons_same refl
    (cons_same refl
    (cons_same refl
    (cons_same refl
    (join-same (join-same (join-same (word_back s h 4) (word_back s h 6)) (word_back s h 8))
    (cons_same refl
    (cons_same (flag-back (get_or s 11 0) (and_left (coded s 11 1) (coded s 12 1) two))
    (cons_same (flag-back (get_or s 12 0) (and_right (coded s 11 1) (coded s 12 1) two))
    (cons_same (flag-back (get_or s 13 0) (and_right (coded s 11 1 && coded s 12 1) (coded s 13 1) flags)) refl))))))))
    ∙ sym (spells-part head_size 0 s k)

-- a list that is written as it was read
list-forth : {A : Type 0} (f : A → List ℕ) (g : List ℕ → A) (k n at : ℕ) (c : List ℕ → Bool) → ((u : List ℕ) → length u ≡ k → Small u → c u ≡ true → f (g u) ≡ u) → (s : List ℕ) → at + k * n ≤ length s → Small s
    → every c (entries n k same (part at (k * n) s)) ≡ true → joined f (entries n k g (part at (k * n) s)) ≡ part at (k * n) s
list-forth f g k n at c h s l m e = entries-forth f g k c h n (part at (k * n) s) (length-of-part s at (k * n) l) (small-take (k * n) (drop at s) (small-drop at s m)) e

words-forth : (n at : ℕ) (s : List ℕ) → at + word_size * n ≤ length s → Small s → joined word_bytes (entries n word_size word_of (part at (word_size * n) s)) ≡ part at (word_size * n) s
words-forth n at s l m = list-forth word_bytes word_of word_size n at (λ u. true) (λ u e h t. word-forth u e h) s l m (every_true _)

-- a part and what is behind it
pub stitch : (s : List ℕ) (at n : ℕ) {xs ys : List ℕ} → xs ≡ part at n s → ys ≡ drop (at + n) s → xs ++ ys ≡ drop at s
stitch s at n e f = join-same e f ∙ part-rest s at n

-- the languages, part by part
module _ (s : List ℕ) (l : length s ≡ record_size) (m : Small s) where
  lengths-forth : (slot : ℕ) → slot < string_room → length_bytes (text_of slot s) ≡ part (length_place + slot) 1 s
  unfolding spelt
  lengths-forth slot h = let k : length_place + slot + 1 ≤ length s = omega (arith, l, h) in sym (spells-part 1 (length_place + slot) s k)

  texts-forth : (slot : ℕ) → slot < string_room → text_bytes (text_of slot s) ≡ part (unit_place + text_size * slot) text_size s
  texts-forth slot h = let k : unit_place + text_size * slot + word_size * unit_room ≤ length s = omega (arith, l, h) in words-forth unit_room (unit_place + text_size * slot) s k m

  all-ids-forth : joined id_bytes (numbered language_room 0 (λ i. language_of i s)) ≡ part language_place (word_size * language_room) s
  unfolding spelt
  all-ids-forth =
      numbered-forth id_bytes (λ i. language_of i s) word_size language_place s language_room
      (λ i h.
      let at = language_place + word_size * i in
      let k : at + word_size ≤ length s = omega (arith, l, h) in
      word_back s m at ∙ ap (λ (j : ℕ). get_or s at 0 ∷ get_or s j 0 ∷ []) (add-one at) ∙ sym (spells-part word_size at s k))

  all-lengths-forth : joined lengths_bytes (numbered language_room 0 (λ i. language_of i s)) ≡ part length_place string_room s
  all-lengths-forth =
      numbered-forth lengths_bytes (λ i. language_of i s) names length_place s language_room
      (λ i h.
      numbered-forth length_bytes (λ k. text_of (names * i + k) s) 1 (length_place + names * i) s names
      (λ k g.
      let slot : names * i + k < string_room = omega (arith, h, g) in
      let e : length_place + (names * i + k) ≡ length_place + names * i + 1 * k = omega arith in
      lengths-forth (names * i + k) slot ∙ ap (λ (j : ℕ). part j 1 s) e))

  all-texts-forth : joined texts_bytes (numbered language_room 0 (λ i. language_of i s)) ≡ part unit_place (word_size * text_room) s
  all-texts-forth =
      numbered-forth texts_bytes (λ i. language_of i s) (names * text_size) unit_place s language_room
      (λ i h.
      numbered-forth text_bytes (λ k. text_of (names * i + k) s) text_size (unit_place + names * text_size * i) s names
      (λ k g.
      let slot : names * i + k < string_room = omega (arith, h, g) in
      let e : unit_place + text_size * (names * i + k) ≡ unit_place + names * text_size * i + text_size * k = omega arith in
      texts-forth (names * i + k) slot ∙ ap (λ (j : ℕ). part j text_size s) e))

-- what is read is what is written, of bytes that are a record's
pub record-forth : (s : List ℕ) → length s ≡ record_size → Small s → record_coded s ≡ true → record_bytes (record_of s) ≡ s
unfolding record_of plan_of flat record_coded
record-forth s l m c =
    let flags = coded s 11 1 && coded s 12 1 && coded s 13 1 in
    let es = every endpoint_coded (entries endpoint_room endpoint_size same (part endpoint_place (endpoint_size * endpoint_room) s)) in
    let i = list-forth interface_bytes interface_of interface_size interface_room head_size (λ u. true) (λ u e h t. interface-forth u e) s (omega (arith, l)) m (every_true _) in
    let e = list-forth endpoint_bytes endpoint_of endpoint_size endpoint_room endpoint_place endpoint_coded (λ u x h t. endpoint-forth u x t) s (omega (arith, l)) m (and_right flags es c) in
    let all : part unit_place (word_size * text_room) s ≡ drop unit_place s = take_all (word_size * text_room) (drop unit_place s) (let k : length (drop unit_place s) ≤ word_size * text_room = rw (length-drop unit_place s) (omega (arith, l)) in k) in
    flat-is (record_of s)
    ∙ stitch s 0 head_size (head-forth s l m c)
    (stitch s head_size (interface_size * interface_room) i
    (stitch s endpoint_place (endpoint_size * endpoint_room) e
    (stitch s language_place (word_size * language_room) (all-ids-forth s l m) (stitch s length_place string_room (all-lengths-forth s l m) (all-texts-forth s l m ∙ all)))))

-- what is read has the lengths of its type
pub record-shaped : (s : List ℕ) → Shaped (record_of s)
unfolding record_of plan_of
record-shaped s =
    record {
      plan = record { interfaces = length-entries interface_size interface_of interface_room _; endpoints = length-entries endpoint_size endpoint_of endpoint_room _ };
      languages = length-numbered (λ i. language_of i s) language_room 0;
      names = all-numbered (λ l. length l.names ≡ names) (λ i. language_of i s) (λ i. length-numbered (λ k. text_of (names * i + k) s) names 0) language_room 0;
      units = all-numbered (λ l. All (λ t. length t.units ≡ unit_room) l.names) (λ i. language_of i s)
          (λ i. all-numbered (λ t. length t.units ≡ unit_room) (λ k. text_of (names * i + k) s) (λ k. length-entries word_size word_of unit_room _) names 0) language_room 0;
    }
