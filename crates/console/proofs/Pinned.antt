-- Each public function's promise settles its outcome: `used`'s whatever it is given, and an `Ok` of `read_full` or `hex` where the bytes that the
-- reader has left, or the writer holds, are known. Of an `Err`, and where they are not known, no promise says what was read or written,
-- and none says what stands in the buffer behind the bytes that were read. Assumes nothing.
use Rattle.std.proofs.Common.{◌≡◌, ℕ, ◌+◌, ◌<◌, ◌≤◌, ◌++◌, List, [], length, take, drop, min, Option, Some, None, IsSome, Result, Ok, Err, IsOk, IfOk, OnOk, arith, sym, ap, ◌∙◌, subst, length-append, length-take-le}
use Rattle.std.proofs.Math.Nat.{eq-or-lt_of_le, min-eq_left, min-eq_right}
use Rattle.std.proofs.Math.Seq.{take-append_seam, drop-append_seam}
use Rattle.std.specs.Io.KnownBytes.{Appends, Consumes, IsAtEnd, append_known}
use Rattle.std.specs.Result.{result_unwrap_or}
use Rattle.std.specs.declared.io.traits.Read.{Ghosts as Reader}
use Rattle.std.specs.declared.io.traits.Write.{Ghosts as Writer}
use denote.Param.Laws.{Laws}
use denote.RattleType.{RattleType}
use mathlib.Core.Bool.{false≢true}
use mathlib.Core.Logic.{⊎_elim}
use mathlib.Core.Path.{ap₂}
use mir.Syntax.{Dict}
use Rattle.common.proofs.Once.{Once, equal}
use Rattle.console.proofs.hex.Reads as hex
use Rattle.console.proofs.read_full.Reads as read_full
use Rattle.console.proofs.used.Reads as used

pub used-once : Once used.Post (λ κs x s. x)
used-once κs a x y s t p q = equal p.0 q.0

-- how many bytes were read, which, and what is left
abbrev Outcome : Type 0
Outcome = ℕ × (List ℕ × Option (List ℕ))

-- as many as there are or there is room for
abbrev first : ℕ → List ℕ → Outcome
first room xs = let n = min room (length xs) in (n, (take n xs, Some (drop n xs)))

abbrev expected : ℕ → Option (List ℕ) → Outcome
expected room None = (0, ([], None))
expected room (Some xs) = first room xs

outcomes : {n m : ℕ} {xs ys : List ℕ} {u v : Option (List ℕ)} → n ≡ m → xs ≡ ys → u ≡ v → ◌≡◌ {A = Outcome} (n, (xs, u)) (m, (ys, v))
outcomes e f g = ap₂ (λ (n : ℕ) (r : List ℕ × Option (List ℕ)). (n, r)) e (ap₂ (λ (s : List ℕ) (u : Option (List ℕ)). (s, u)) f g)

counted : (room n rest all : ℕ) → n ≤ room → all ≡ n + rest → (n < room → rest ≡ 0) → n ≡ min room all
counted room n rest all h e end = ⊎_elim
    (λ same. same ∙ sym (min-eq_left (omega (arith, e, same))))
    (λ less. let none = end less in (omega (arith, e, none)) ∙ sym (min-eq_right (omega (arith, e, none, less))))
    (eq-or-lt_of_le h)

settled : (xs ys buf : List ℕ) (n : ℕ) → n ≤ length buf → xs ≡ take n buf ++ ys → (n < length buf → ys ≡ []) → ◌≡◌ {A = Outcome} (n, (take n buf, Some ys)) (first (length buf) xs)
settled xs ys buf n h e end =
    let part = take n buf in
    let long : length part ≡ n = length-take-le n buf h in
    let front : take n xs ≡ part = ap (take n) e ∙ subst (λ k. take k (part ++ ys) ≡ part) long (take-append_seam part ys) in
    let back : drop n xs ≡ ys = ap (drop n) e ∙ subst (λ k. drop k (part ++ ys) ≡ ys) long (drop-append_seam part ys) in
    let all : length xs ≡ n + length ys = ap length e ∙ length-append part ys ∙ ap (λ k. k + length ys) long in
    let count : n ≡ min (length buf) (length xs) = counted (length buf) n (length ys) (length xs) h all (λ l. ap length (end l)) in
    outcomes count (sym front ∙ ap (λ k. take k xs) count) (ap Some (sym back ∙ ap (λ k. drop k xs) count))

read : {E : Type 0} (old new : Option (List ℕ)) (r : Result ℕ E) (buf : List ℕ) → IsSome old → IsOk r → IfOk r (λ n. n ≤ length buf) → IfOk r (λ n. Consumes old new (take n buf))
    → IfOk r (λ n. n < length buf → IsAtEnd new) → ◌≡◌ {A = Outcome} (result_unwrap_or r 0, (take (result_unwrap_or r 0) buf, new)) (expected (length buf) old)
read None new r buf known ok h p q = absurd (false≢true known)
read (Some xs) new (Err e) buf known ok h p q = absurd (false≢true ok)
read (Some xs) None (Ok n) buf known ok h p q = absurd p
read (Some xs) (Some ys) (Ok n) buf known ok h p q = settled xs ys buf n h p q

pub read_full-once : (R : RattleType) (laws : Laws R) (reader : Reader R.Denot) (dict : Dict) → Once {B = Outcome}
    (λ κs a x s. read_full.Post R laws reader dict κs a x s × (IsOk x × IsSome (reader.remaining a.0.now)))
    (λ κs x s. (result_unwrap_or x 0, (take (result_unwrap_or x 0) s.1.0.now, reader.remaining s.0.now)))
read_full-once R laws reader dict κs a x y s t p q =
    let left = reader.remaining a.0.now in
    let one = read left (reader.remaining s.0.now) x s.1.0.now p.1.1 p.1.0 p.0.0 p.0.1.1.0 p.0.1.1.1 ∙ ap (λ k. expected k left) p.0.1.0 in
    let two = read left (reader.remaining t.0.now) y t.1.0.now q.1.1 q.1.0 q.0.0 q.0.1.1.0 q.0.1.1.1 ∙ ap (λ k. expected k left) q.0.1.0 in
    equal one two

wrote : {E : Type 0} (old new : Option (List ℕ)) (r : Result (Unit {0}) E) (bs : List ℕ) → IsSome old → IsOk r → OnOk r (Appends old new bs) → new ≡ append_known old bs
wrote None new r bs known ok p = absurd (false≢true known)
wrote (Some xs) new (Err e) bs known ok p = absurd (false≢true ok)
wrote (Some xs) None (Ok u) bs known ok p = absurd p
wrote (Some xs) (Some ys) (Ok u) bs known ok p = ap Some p

pub hex-once : (W : RattleType) (laws : Laws W) (writer : Writer W.Denot) (dict : Dict) → Once
    (λ κs a x s. hex.Post W laws writer dict κs a x s × (IsOk x × IsSome (writer.contents a.0.now)))
    (λ κs x s. writer.contents s.0.now)
hex-once W laws writer dict κs a x y s t p q =
    equal (wrote (writer.contents a.0.now) (writer.contents s.0.now) x _ p.1.1 p.1.0 p.0) (wrote (writer.contents a.0.now) (writer.contents t.0.now) y _ q.1.1 q.1.0 q.0)
