-- Laws of the answers that the proofs cite. Assumes nothing.
use Prim.Native.Nat.{ℕ, ◌+◌, ◌*◌, ◌≤◌}
use mathlib.Core.Bool.{Bool, true, false}
use mathlib.Core.Path.{◌≡◌, refl, ap, ◌∙◌}
use mathlib.Core.List.{List}
use native.Mathlib.Omega.{arith}
use borrow.Author.Tests.{le-leb, eqb-true}
use lib.Dec.{eqb}
use lib.ListN.{length}
use Rattle.std.specs.Prelude.{Option, Some, None}
use Rattle.common.specs.Bytes.{inside}
use Rattle.common.proofs.Laws.{cond-elim}
use Rattle.descriptor.specs.Writing.{Written, Wrote, put_answer, put_buffer, wrote_answer, wrote_buffer}
use Rattle.control_pipe.specs.Sizes.{buffer_room}
use Rattle.record.specs.Sizes.{unit_room}
use Rattle.record.specs.declared.Record.{Record}
use Rattle.limits.specs.Limits.{lowest}
use Rattle.limits.proofs.Good.{good}
use Rattle.descriptor.specs.Device.{device_bytes}
use Rattle.configuration.specs.Configuration.{configuration_bytes}
use Rattle.configuration.proofs.Lengths.{longest-configuration}
use Rattle.strings.specs.Strings.{string_of}
use Rattle.strings.proofs.Lengths.{string-short}
use Rattle.writer.specs.Descriptors.{descriptor_of}
use Rattle.answers.specs.declared.Verdict.{Verdict}
use Rattle.answers.specs.Answers.{Answered, told_by, filled_as}

-- a descriptor that the buffer takes is told whole
pub filled-told : {w : Written} {v : Option Verdict} {exit : List ℕ} (number : ℕ) (o : Option (List ℕ)) (entry : List ℕ) → v ≡ filled_as w → Wrote w exit number o entry 0
    → length entry ≡ buffer_room → (number ≡ 0 → (b : List ℕ) → o ≡ Some b → length b ≤ buffer_room) → Answered v exit (told_by number o) entry
unfolding wrote_answer wrote_buffer put_answer put_buffer
filled-told {w} {v} {exit} number o entry e k room fits = by (eqb number 0) refl o k.value k.buffer fits
  where
    by : (t : Bool) → eqb number 0 ≡ t → (o : Option (List ℕ)) → w ≡ wrote_answer number o entry 0 → exit ≡ wrote_buffer number o entry 0
        → (number ≡ 0 → (b : List ℕ) → o ≡ Some b → length b ≤ buffer_room) → Answered v exit (told_by number o) entry
    by false z o x y fits = record { value = e ∙ (ap filled_as x ∙ rw z refl); buffer = y ∙ rw z refl }
    by true z None x y fits = record { value = e ∙ (ap filled_as x ∙ rw z refl); buffer = y ∙ rw z refl }
    by true z (Some b) x y fits =
        let l : 0 + length b ≤ length entry = omega (arith, room, fits (eqb-true number 0 z) b refl) in
        let f : inside entry 0 (length b) ≡ true = le-leb (0 + length b) (length entry) l in
        record { value = e ∙ (ap filled_as x ∙ rw (z, f) refl); buffer = y ∙ rw (z, f) refl }

-- the buffer takes each descriptor of a good record
module _ (r : Record) (good₀ : lowest r ≡ 0) where
  abbrev Short : Option (List ℕ) → Type 0
  Short o = (b : List ℕ) → o ≡ Some b → length b ≤ buffer_room

  pub device-fits : Short (Some (device_bytes r))
  unfolding device_bytes
  device-fits b e = let k : device_bytes r ≡ b = cc in rw (← k) (let l : 18 ≤ 128 = omega arith in l)

  pub configuration-fits : Short (Some (configuration_bytes r.plan))
  configuration-fits b e =
      let l : length (configuration_bytes r.plan) ≤ 101 = longest-configuration r.plan (good r good₀).layout in
      let k : configuration_bytes r.plan ≡ b = cc in
      rw (← k) (omega (arith, l))

  pub string-fits : (number language : ℕ) → Short (string_of r number language)
  string-fits number language b e =
      let l : length b ≤ 2 + 2 * unit_room = string-short r (good r good₀).languages number language b e in
      omega (arith, l)

  pub descriptor-fits : (kind index language : ℕ) → Short (descriptor_of r kind index language)
  unfolding descriptor_of
  descriptor-fits kind index language =
      cond-elim Short (eqb kind 1) _ _ (λ e. device-fits) (λ e. cond-elim Short (eqb kind 2) _ _ (λ e. configuration-fits) (λ e. cond-elim Short (eqb kind 3) _ _ (λ e. string-fits index language) (λ e b n. cc)))
