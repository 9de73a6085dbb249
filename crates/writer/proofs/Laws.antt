-- Laws of appending that the proofs cite. Assumes nothing.
use Prim.Native.Nat.{ℕ, ◌+◌, ◌^◌, ◌≤◌, ◌<◌}
use native.Mathlib.Nat.{add-zero}
use native.Mathlib.Omega.{arith}
use mathlib.Core.Path.{◌≡◌, refl, sym, ap, subst, ◌∙◌}
use mathlib.Core.List.{List}
use borrow.Author.Tests.{ne_eqb, leb-true}
use lib.Dec.{eqb}
use lib.ListN.{length}
use Rattle.std.specs.Prelude.{Option, Some, None, Ok, Err, unwrap_or}
use Rattle.common.specs.Bytes.{inside}
use Rattle.common.proofs.Laws.{cond-elim}
use Rattle.record.specs.declared.Record.{Record}
use Rattle.descriptor.specs.Writing.{Written, put_answer, wrote_answer}
use Rattle.descriptor.specs.Device.{device_bytes}
use Rattle.configuration.specs.Configuration.{configuration_bytes}
use Rattle.strings.specs.Strings.{string_of}
use Rattle.writer.specs.declared.Which.{Which}
use Rattle.writer.specs.Descriptors.{descriptor_of, asked}
use Rattle.writer.specs.Appending.{past, next_of}

-- the descriptor that a type names
module _ (r : Record) (w : Which) where
  pub asked-device : w.kind ≡ 1 → asked r w ≡ Some (device_bytes r)
  unfolding descriptor_of
  asked-device e = rw e refl

  pub asked-configuration : w.kind ≡ 2 → asked r w ≡ Some (configuration_bytes r.plan)
  unfolding descriptor_of
  asked-configuration e = rw e refl

  pub asked-string : w.kind ≡ 3 → asked r w ≡ string_of r w.index w.language
  unfolding descriptor_of
  asked-string e = rw e refl

  pub asked-none : (w.kind ≡ 1 → ⊥) → (w.kind ≡ 2 → ⊥) → (w.kind ≡ 3 → ⊥) → asked r w ≡ None
  unfolding descriptor_of
  asked-none a b c = rw (ne_eqb _ _ a, ne_eqb _ _ b, ne_eqb _ _ c) refl

-- bytes that were written lie inside the buffer
abbrev pub Fits : List ℕ → ℕ → Written → Type 0
Fits buf at (Ok (Some n)) = at + n ≤ length buf
Fits buf at (Ok None) = Unit {0}
Fits buf at (Err why) = Unit {0}

module _ (number : ℕ) (o : Option (List ℕ)) (buf : List ℕ) (at : ℕ) where
  pub wrote-fits : Fits buf at (wrote_answer number o buf at)
  unfolding wrote_answer put_answer
  wrote-fits = cond-elim (Fits buf at) (eqb number 0) _ _ (λ z. by o) (λ z. tt)
    where
      by : (o : Option (List ℕ)) → Fits buf at (put_answer o buf at)
      by None = tt
      by (Some b) = cond-elim (Fits buf at) (inside buf at (length b)) _ _ (λ f. leb-true (at + length b) (length buf) f) (λ f. tt)

  -- of a write that ended so: the bytes fit, and the next position
  pub told-fits : {w v : Written} → w ≡ v → w ≡ wrote_answer number o buf at → Fits buf at v
  told-fits e k = subst (Fits buf at) (sym k ∙ e) wrote-fits

  pub next-by : {w v : Written} → w ≡ v → w ≡ wrote_answer number o buf at → past v at ≡ next_of number o buf at
  unfolding next_of
  next-by e k = ap (λ (w : Written). past w at) (sym e ∙ k)

  pub next-bytes : {w : Written} {b : Option ℕ} → w ≡ Ok b → w ≡ wrote_answer number o buf at → at + unwrap_or b 0 ≡ next_of number o buf at
  next-bytes {b = None} e k = rw (add-zero at) (next-by e k)
  next-bytes {b = Some n} e k = next-by e k

  pub fits-bytes : {w : Written} {b : Option ℕ} → w ≡ Ok b → w ≡ wrote_answer number o buf at → at < 2 ^ 64 → length buf < 2 ^ 64 → at + unwrap_or b 0 < 2 ^ 64
  fits-bytes {b = None} e k h l = rw (add-zero at) h
  fits-bytes {b = Some n} e k h l = let f : at + n ≤ length buf = told-fits e k in omega arith
