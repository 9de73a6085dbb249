-- Numbers, yes and no as bytes and back. Assumes nothing.
use Prim.Native.Nat.{ℕ, zero, suc, ◌+◌, ◌*◌, ◌/◌, ◌%◌, ◌≤◌, ◌<◌}
use mathlib.Core.Bool.{Bool, true, false, ◌&&◌}
use mathlib.Core.Path.{◌≡◌, refl, ap, ap₂, ◌∙◌}
use mathlib.Core.List.{List, [], ◌∷◌, ◌++◌}
use native.Mathlib.Omega.{arith}
use borrow.Author.Tests.{leb-true}
use lib.Dec.{eqb, leb}
use lib.ListN.{length, get_or, take, drop, drop_of_length-le}
use lib.Seq.{drop-cons}
use Rattle.common.specs.Bytes.{part}
use Rattle.control.specs.Setup.{word_at}
use Rattle.record_bytes.specs.Codes.{word_bytes, long_bytes, long_at, flag_code}

-- every element is a byte
abbrev pub Small : List ℕ → Type 0
Small s = (i : ℕ) → get_or s i 0 < 256

pub both : (a b : Bool) → a ≡ true → b ≡ true → a && b ≡ true
both true b e f = f
both false b e f = e

-- past the keys of a table
pub past : (k n : ℕ) → k ≤ n → (n ≡ k → ⊥) → k + 1 ≤ n
past k n l h = omega (arith, l, h)

pub flag-named : (b : Bool) → eqb (flag_code b) 1 ≡ b
flag-named true = refl
flag-named false = refl

pub flag-coded : (b : Bool) → leb (flag_code b) 1 ≡ true
flag-coded true = refl
flag-coded false = refl

pub flag-back : (n : ℕ) → leb n 1 ≡ true → flag_code (eqb n 1) ≡ n
flag-back zero e = refl
flag-back (suc zero) e = refl
flag-back (suc (suc n)) e = absurd (let l : suc (suc n) ≤ 1 = leb-true (suc (suc n)) 1 e in omega (arith, l))

pub word-named : (n : ℕ) → n % 256 + 256 * (n / 256) ≡ n
word-named n = omega arith

pub long-named : (n : ℕ) → n % 256 + 256 * (n / 256 % 256) + 65536 * (n / 65536 % 256 + 256 * (n / 16777216)) ≡ n
long-named n = omega arith

module _ (a b : ℕ) (l : a < 256) where
  pub low : (a + 256 * b) % 256 ≡ a
  low = omega (arith, l)

  pub high : (a + 256 * b) / 256 ≡ b
  high = omega (arith, l)

pub cons_same : {x y : ℕ} {xs ys : List ℕ} → x ≡ y → xs ≡ ys → x ∷ xs ≡ y ∷ ys
cons_same e f = ap₂ (λ (u : ℕ) (us : List ℕ). u ∷ us) e f

pub join-same : {xs xs' ys ys' : List ℕ} → xs ≡ xs' → ys ≡ ys' → xs ++ ys ≡ xs' ++ ys'
join-same e f = ap₂ (λ (u v : List ℕ). u ++ v) e f

module _ (s : List ℕ) (h : Small s) (at : ℕ) where
  pub word_back : word_bytes (word_at s at) ≡ get_or s at 0 ∷ get_or s (at + 1) 0 ∷ []
  word_back = cons_same (low (get_or s at 0) (get_or s (at + 1) 0) (h at)) (cons_same (high (get_or s at 0) (get_or s (at + 1) 0) (h at)) refl)

  pub long-back : long_bytes (long_at s at) ≡ get_or s at 0 ∷ get_or s (at + 1) 0 ∷ get_or s (at + 2) 0 ∷ get_or s (at + 2 + 1) 0 ∷ []
  long-back = spelt-long (get_or s at 0) (get_or s (at + 1) 0) (get_or s (at + 2) 0) (get_or s (at + 2 + 1) 0) (h at) (h (at + 1)) (h (at + 2))
    where
      spelt-long : (a b c d : ℕ) → a < 256 → b < 256 → c < 256 → long_bytes (a + 256 * b + 65536 * (c + 256 * d)) ≡ a ∷ b ∷ c ∷ d ∷ []
      spelt-long a b c d l m n =
          cons_same (omega (arith, l, m, n)) (cons_same (omega (arith, l, m, n)) (cons_same (omega (arith, l, m, n)) (cons_same (omega (arith, l, m, n)) refl)))

-- a list of n elements, element by element
unfoldable pub spelt : ℕ → ℕ → List ℕ → List ℕ
spelt zero at s = []
spelt (suc n) at s = get_or s at 0 ∷ spelt n (suc at) s

pub spells : (n at : ℕ) (s : List ℕ) → length s ≡ at + n → drop at s ≡ spelt n at s
unfolding spelt
spells zero at s e = let l : length s ≤ at = omega (arith, e) in drop_of_length-le s l
spells (suc n) at s e =
    let l : at < length s = omega (arith, e) in
    drop-cons s at 0 l ∙ cons_same refl (spells n (suc at) s (omega (arith, e)))

pub spells-part : (n at : ℕ) (s : List ℕ) → at + n ≤ length s → part at n s ≡ spelt n at s
unfolding spelt
spells-part zero at s l = refl
spells-part (suc n) at s l =
    let h : at < length s = omega (arith, l) in
    ap (take (suc n)) (drop-cons s at 0 h) ∙ cons_same refl (spells-part n (suc at) s (omega (arith, l)))
