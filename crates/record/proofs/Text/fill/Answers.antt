use mathlib.Core.Path.{◌≡◌}
use mathlib.Core.List.{List, ◌++◌}
use mathlib.Core.Bool.{false}
use Prim.Native.Nat.{ℕ, ◌+◌}
use lib.Dec.{ltb}
use native.Mathlib.Nat.{zero-add}
use lib.ListN.{length, drop}
use borrow.Author.Tests.{le-ltb}
use Rattle.common.specs.Bytes.{placed}
use Rattle.record.specs.declared.Text.{Text}
use Rattle.record.specs.Sizes.{unit_room}
use Rattle.record.specs.Filling.{with_text}
use Rattle.record.proofs.Text.fill.Goals as goal

filled : (us v : List ℕ) (t : Text) → ltb unit_room (length us) ≡ false → v ≡ us → record { len = length us + 1; units = v ++ drop (length us) t.units } ≡ with_text us t
unfolding placed
filled us v t e f = rw (e, f, placed, zero-add (length us))

pub returns-then-n-le-UNITS : goal.returns-then-n-le-UNITS
returns-then-n-le-UNITS c =
    let a = c.args in
    filled a.units.now c.copy_from_slice.new.self a.self.now (le-ltb _ _ c.if-n-le-UNITS.true) c.copy_from_slice.ensures.after
