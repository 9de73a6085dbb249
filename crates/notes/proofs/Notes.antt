-- The starred notes hold of the definitions. Assumes nothing.
use borrow.Author.Tests.{le-leb}
use Prim.Native.Nat.{ℕ, ◌+◌, ◌≤◌}
use mathlib.Core.List.{List}
use mathlib.Core.Path.{◌≡◌, refl}
use native.Mathlib.Omega.{arith}
use lib.ListN.{length, drop, length-drop}
use lib.Seq.{length-take-le}
use Rattle.common.specs.Bytes.{placed, piece}
use Rattle.common.specs.Lists.{every, member, none_twice}
use Rattle.descriptor.specs.Device.{device_bytes}
use Rattle.configuration.specs.Configuration.{owned, joined, interface_set, interface_sets, body_bytes, configuration_bytes}
use Rattle.strings.specs.Strings.{unit_bytes, text_bytes, units_of, string_of}
use Rattle.control_pipe.specs.Sizes.{buffer_room}
use Rattle.control_pipe.specs.Stages.{begin_out, begin_by, begun, setup_come, after_chunk, advanced, send_chunk, in_at, in_complete}
use Rattle.notes.specs.Notes.{All, notes, sized, pan}

-- a packet inside the buffer has its length
long : (at n : ℕ) (b : List ℕ) → length b ≡ buffer_room → at + n ≤ buffer_room → length (piece at n b) ≡ n
unfolding piece
long at n b e l = rw (le-leb (at + n) (length b) (omega arith)) (length-take-le n (drop at b) (rw (length-drop at b) (omega arith)))

pub notes-hold : All notes
unfolding placed piece every member none_twice device_bytes owned joined interface_set interface_sets body_bytes configuration_bytes unit_bytes text_bytes units_of string_of begin_out begin_by begun setup_come after_chunk advanced send_chunk in_at in_complete sized pan
notes-hold = (refl, (λ b₁ b₂ b₃ b₄ b₅ b₆ b₇. refl, (λ b₁ b₂ b₃ b₄ b₅ b₆ b₇. refl, (λ s e. rw e, (λ s e. rw e, (refl, (refl, (refl, (refl, (refl, (λ q e b book l. rw e (refl, (long 0 8 b l (omega arith), (refl, (long 8 8 b l (omega arith), (refl, (long 16 2 b l (omega arith), (refl, refl))))))), (λ q e b book l. rw e (refl, (long 0 8 b l (omega arith), (refl, (long 8 8 b l (omega arith), (refl, (refl, (refl, refl))))))), (λ p b. (refl, refl), (λ p b. (refl, refl), tt))))))))))))))
