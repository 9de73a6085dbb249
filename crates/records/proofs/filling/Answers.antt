use Rattle.std.proofs.Common.{◌≡◌, ℕ, ◌+◌, ◌-◌, List, take, drop, refl, sym, ap, ◌∙◌, arith}
use Rattle.std.proofs.lemmas.List.{drop-take}
use Rattle.common.specs.Lists.{every}
use Rattle.records.specs.Sizes.{event_room}
use Rattle.records.specs.Records.{is_zero}
use Rattle.records.proofs.filling.Goals as goal

-- the last m of 80 bytes
last : {k : ℕ} (n m : ℕ) (s : List ℕ) → n + m ≡ event_room → k ≡ n → every is_zero (take m (drop n s)) ≡ every is_zero (drop k (take event_room s))
last n m s e f = ap (every is_zero) (sym (drop-take n m s) ∙ rw (e, f))

pub returns-in-8 : goal.returns-in-8
returns-in-8 c = c.zeros-in-8.ensures ∙ last 24 56 c.args.s.now refl (omega (arith, c.in-8.is))

pub returns-in_default : goal.returns-in_default
returns-in_default c = let n = c.args.n in c.zeros-in_default.ensures ∙ last (16 + n) (80 - (16 + n)) c.args.s.now (omega (arith, c.requires)) refl
