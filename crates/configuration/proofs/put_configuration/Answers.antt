use Prim.Native.Nat.{◌+◌, ◌*◌}
use mathlib.Core.Path.{◌≡◌, sym, ◌∙◌}
use mathlib.Core.Bool.{true}
use borrow.Author.Tests.{leb-true}
use Rattle.std.proofs.Common.{arith}
use Rattle.common.specs.Bytes.{inside, placed}
use Rattle.descriptor.proofs.Laws.{put_refused, put-done}
use Rattle.configuration.specs.Configuration.{head_bytes, body_bytes}
use Rattle.configuration.proofs.Lengths.{Shaped, length-parts, length-body, length-configuration}
use Rattle.configuration.proofs.Laws.{configuration-placed}
use Rattle.configuration.proofs.put_configuration.Goals as goal

pub returns-then-not-within : goal.returns-then-not-within
returns-then-not-within c =
    let a = c.args in
    let p = a.plan.now in
    let s : Shaped p = record { interfaces = c.counted-interfaces.ensures.long; endpoints = c.counted-endpoints.ensures.long } in
    let n = length-parts p s c.requires in
    let t = length-configuration p s c.requires in
    let w = rw (c.counted-interfaces.ensures.part, c.counted-endpoints.ensures.part, n.0, n.1) at (sym c.within.ensures ∙ c.if-not-within.true) in
    put_refused (rw t w)

pub put_interfaces-requires-clause-room : goal.put_interfaces-requires-clause-room
unfolding body_bytes
put_interfaces-requires-clause-room c =
    let a = c.args in
    let p = a.plan.now in
    let s : Shaped p = record { interfaces = c.counted-interfaces.ensures.long; endpoints = c.counted-endpoints.ensures.long } in
    let n = length-parts p s c.requires in
    let t = length-body p s c.requires in
    let w = rw (c.counted-interfaces.ensures.part, c.counted-endpoints.ensures.part, n.0, n.1) at (leb-true _ _ (sym c.within.ensures ∙ c.if-not-within.false)) in
    let b = rw c.head_bytes.ensures at c.append-behind.ensures.next in
    rw (c.counted-interfaces.ensures.part, c.counted-endpoints.ensures.part) (omega (arith, t, w, b, c.append-behind.auto.buf))

pub returns : goal.returns
unfolding body_bytes
returns c =
    let a = c.args in
    let p = a.plan.now in
    let s : Shaped p = record { interfaces = c.counted-interfaces.ensures.long; endpoints = c.counted-endpoints.ensures.long } in
    let n = length-parts p s c.requires in
    let total = 9 + 9 * p.interfaces.count + 7 * p.endpoints.count in
    let i : inside a.buf.now a.at total ≡ true = rw (c.counted-interfaces.ensures.part, c.counted-endpoints.ensures.part, n.0, n.1) at (sym c.within.ensures ∙ c.if-not-within.false) in
    let h : c.append-behind.new.buf ≡ placed a.buf.now a.at (head_bytes p total)
    = rw (c.counted-interfaces.ensures.part, c.counted-endpoints.ensures.part, n.0, n.1) at (rw c.head_bytes.ensures at c.append-behind.ensures.buffer) in
    let b : c.append-behind.result ≡ a.at + 9 = rw c.head_bytes.ensures at c.append-behind.ensures.next in
    let x : c.put_interfaces.new.buf ≡ placed c.append-behind.new.buf (a.at + 9) (body_bytes p) = rw (c.counted-interfaces.ensures.part, c.counted-endpoints.ensures.part, b) at c.put_interfaces.ensures in
    let t = length-configuration p s c.requires in
    rw (c.counted-interfaces.ensures.part, c.counted-endpoints.ensures.part, n.0, n.1)
    (put-done (rw t i) (sym t) (configuration-placed p a.buf.now c.append-behind.new.buf _ a.at total (omega (arith, length-body p s c.requires)) (leb-true _ _ i) h x))
