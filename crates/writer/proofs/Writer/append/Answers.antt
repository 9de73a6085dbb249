use Prim.Native.Nat.{ℕ, ◌^◌, ◌<◌}
use mathlib.Core.Path.{ap₂}
use mathlib.Core.List.{List}
use lib.ListN.{length}
use denote.Ref.{MutBor, at_last}
use Rattle.std.proofs.Common.{rules}
use Rattle.limits.specs.Limits.{lowest}
use Rattle.writer.specs.declared.Writer.{Writer}
use Rattle.writer.specs.Descriptors.{asked}
use Rattle.writer.proofs.Laws.{next-by, next-bytes, fits-bytes}
use Rattle.writer.proofs.Writer.append.Goals as goal

pub overflow_add-self : goal.overflow_add-self
overflow_add-self c =
    let w = c.args.self.now in
    let r = c.args.profile.now in
    let h : w.at < 2 ^ 64 = search rules in
    let l : length w.buf.now < 2 ^ 64 = search rules in
    let f = fits-bytes (lowest r) (asked r c.args.which) w.buf.now w.at c.in_ok-bytes.was c.put.ensures.value h l in
    rw c.unwrap_or.ensures (search rules)

-- the writer of a borrow at another buffer and place
abbrev after : MutBor (List ℕ) → List ℕ → ℕ → Writer
after buf b n = record { buf = at_last buf b; at = n }

pub returns-in_err-bytes-clause-writer : goal.returns-in_err-bytes-clause-writer
returns-in_err-bytes-clause-writer c =
    let w = c.args.self.now in
    let r = c.args.profile.now in
    let n = next-by (lowest r) (asked r c.args.which) w.buf.now w.at c.in_err-bytes.was c.put.ensures.value in
    ap₂ (after w.buf) c.put.ensures.buffer n

pub returns-clause-writer : goal.returns-clause-writer
returns-clause-writer c =
    let w = c.args.self.now in
    let r = c.args.profile.now in
    let n = next-bytes (lowest r) (asked r c.args.which) w.buf.now w.at c.in_ok-bytes.was c.put.ensures.value in
    rw c.unwrap_or.ensures (ap₂ (after w.buf) c.put.ensures.buffer n)
