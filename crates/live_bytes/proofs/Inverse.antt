-- A live part that is written is read back, and bytes that are a live part's are what it is written as. Assumes nothing.
use Prim.Native.Nat.{ℕ}
use mathlib.Core.Bool.{Bool, true, ◌&&◌}
use mathlib.Core.Path.{◌≡◌, refl, sym, ◌∙◌}
use mathlib.Core.List.{List}
use lib.ListN.{length, get_or}
use Rattle.common.proofs.Laws.{and_left, and_right}
use Rattle.control.specs.declared.Direction.{Direction}
use Rattle.control.specs.declared.RequestType.{RequestType}
use Rattle.control.specs.declared.Recipient.{Recipient}
use Rattle.control.specs.declared.Request.{Request}
use Rattle.control_pipe.specs.declared.Stage.{Stage}
use Rattle.control_pipe.specs.declared.Source.{Source}
use Rattle.control_pipe.specs.declared.Reply.{Reply}
use Rattle.control_pipe.specs.declared.Pipe.{Pipe}
use Rattle.requests.specs.declared.State.{State}
use Rattle.requests.specs.declared.Kept.{Kept}
use Rattle.live.specs.declared.Live.{Live}
use Rattle.record_bytes.specs.Codes.{coded}
use Rattle.record_bytes.proofs.Numbers.{Small, both, flag-named, flag-coded, flag-back, word-named, word_back, long-named, long-back, cons_same, join-same, spelt, spells}
use Rattle.live_bytes.specs.Layout.{live_size, live_bytes, live_of, live_coded}
use Rattle.control.specs.Codes.{direction_back as direction-named, type_back as type-named, recipient_back as recipient-named}
use Rattle.control_pipe.specs.Codes.{stage_back as stage-named, source_back as source-named}
use Rattle.requests.specs.Codes.{state_back as state-named}
use Rattle.live_bytes.proofs.Codes.{stage-coded, stage-back, direction-coded, direction-back, type-coded, type-back, recipient-coded, recipient-back, source-coded, source-back, state-coded, state-back}

-- ---- written, then read

request-same : (q : Request) {d : Direction} {k : RequestType} {r : Recipient} {v i n : ℕ} → d ≡ q.direction → k ≡ q.kind → r ≡ q.recipient → v ≡ q.value → i ≡ q.index → n ≡ q.length
    → record { direction = d; kind = k; recipient = r; request = q.request; value = v; index = i; length = n } ≡ q
request-same q e f g h i j = rw (e, f, g, h, i, j)

reply-same : (a : Reply) {o : Source} {b l n : ℕ} → o ≡ a.source → b ≡ a.start → l ≡ a.len → n ≡ a.sent → record { source = o; start = b; len = l; sent = n } ≡ a
reply-same a e f g h = rw (e, f, g, h)

pipe-same : (p : Pipe) {t : Stage} {x y : Bool} {q : Request} {n m : ℕ} {a : Reply} → t ≡ p.stage → x ≡ p.stallout → y ≡ p.stallin → q ≡ p.request → n ≡ p.coming.awaited → m ≡ p.coming.held → a ≡ p.reply
    → record { stage = t; stallout = x; stallin = y; pending = p.pending; request = q; coming = record { awaited = n; held = m }; reply = a } ≡ p
pipe-same p e f g h i j k = rw (e, f, g, h, i, j, k)

kept_same : (k : Kept) {t : State} {x y : Bool} {n : ℕ} → t ≡ k.state → x ≡ k.wakeup → y ≡ k.powered → n ≡ k.halts → record { state = t; wakeup = x; powered = y; halts = n } ≡ k
kept_same k e f g h = rw (e, f, g, h)

live_same : (l : Live) {p : Pipe} {k : Kept} {t : State} {n : ℕ} {x : Bool} → p ≡ l.pipe → k ≡ l.kept → t ≡ l.before → n ≡ l.book → x ≡ l.built → record { pipe = p; kept = k; before = t; book = n; built = x } ≡ l
live_same l e f g h i = rw (e, f, g, h, i)

-- what is written is read back
pub live_back : (l : Live) → live_of (live_bytes l) ≡ l
unfolding live_bytes live_of
live_back l =
    let p = l.pipe in
    let q = p.request in
    let a = p.reply in
    let k = l.kept in
    live_same l
    (pipe-same p (stage-named p.stage) (flag-named p.stallout) (flag-named p.stallin)
    (request-same q (direction-named q.direction) (type-named q.kind) (recipient-named q.recipient) (word-named q.value) (word-named q.index) (word-named q.length))
    (word-named p.coming.awaited)
    (word-named p.coming.held)
    (reply-same a (source-named a.source) (long-named a.start) (long-named a.len) (long-named a.sent)))
    (kept_same k (state-named k.state) (flag-named k.wakeup) (flag-named k.powered) (long-named k.halts))
    (state-named l.before)
    (long-named l.book)
    (flag-named l.built)

-- and is what a live part is written as
pub live-coded : (l : Live) → live_coded (live_bytes l) ≡ true
unfolding live_bytes live_coded
live-coded l =
    let p = l.pipe in
    let q = p.request in
    let k = l.kept in
    both _ _
    (both _ _ (both _ _ (both _ _ (both _ _ (both _ _ (both _ _ (stage-coded p.stage) (flag-coded p.stallout)) (flag-coded p.stallin)) (direction-coded q.direction)) (type-coded q.kind)) (recipient-coded q.recipient)) (source-coded p.reply.source))
    (both _ _ (both _ _ (both _ _ (both _ _ (state-coded k.state) (flag-coded k.wakeup)) (flag-coded k.powered)) (state-coded l.before)) (flag-coded l.built))

-- ---- read, then written

-- a test of several, one by one
record Coded (s : List ℕ) : Type 0 where
  stage : coded s 0 9 ≡ true
  stallout : coded s 1 1 ≡ true
  stallin : coded s 2 1 ≡ true
  direction : coded s 8 1 ≡ true
  kind : coded s 9 3 ≡ true
  recipient : coded s 10 4 ≡ true
  source : coded s 18 1 ≡ true
  state : coded s 31 3 ≡ true
  wakeup : coded s 32 1 ≡ true
  powered : coded s 33 1 ≡ true
  before : coded s 38 3 ≡ true
  built : coded s 39 1 ≡ true

each : (s : List ℕ) → live_coded s ≡ true → Coded s
unfolding live_coded
each s e =
    let a₁ = coded s 0 9 in
    let a₂ = a₁ && coded s 1 1 in
    let a₃ = a₂ && coded s 2 1 in
    let a₄ = a₃ && coded s 8 1 in
    let a₅ = a₄ && coded s 9 3 in
    let a₆ = a₅ && coded s 10 4 in
    let b₁ = coded s 31 3 in
    let b₂ = b₁ && coded s 32 1 in
    let b₃ = b₂ && coded s 33 1 in
    let b₄ = b₃ && coded s 38 3 in
    let e₇ = and_left (a₆ && coded s 18 1) (b₄ && coded s 39 1) e in
    let e₆ = and_left a₆ (coded s 18 1) e₇ in
    let e₅ = and_left a₅ (coded s 10 4) e₆ in
    let e₄ = and_left a₄ (coded s 9 3) e₅ in
    let e₃ = and_left a₃ (coded s 8 1) e₄ in
    let e₂ = and_left a₂ (coded s 2 1) e₃ in
    let f₅ = and_right (a₆ && coded s 18 1) (b₄ && coded s 39 1) e in
    let f₄ = and_left b₄ (coded s 39 1) f₅ in
    let f₃ = and_left b₃ (coded s 38 3) f₄ in
    let f₂ = and_left b₂ (coded s 33 1) f₃ in
    record {
      stage = and_left a₁ (coded s 1 1) e₂;
      stallout = and_right a₁ (coded s 1 1) e₂;
      stallin = and_right a₂ (coded s 2 1) e₃;
      direction = and_right a₃ (coded s 8 1) e₄;
      kind = and_right a₄ (coded s 9 3) e₅;
      recipient = and_right a₅ (coded s 10 4) e₆;
      source = and_right a₆ (coded s 18 1) e₇;
      state = and_left b₁ (coded s 32 1) f₂;
      wakeup = and_right b₁ (coded s 32 1) f₂;
      powered = and_right b₂ (coded s 33 1) f₃;
      before = and_right b₃ (coded s 38 3) f₄;
      built = and_right b₄ (coded s 39 1) f₅;
    }

-- what is read is what is written, of bytes that are a live part's
pub live-forth : (s : List ℕ) → length s ≡ live_size → Small s → live_coded s ≡ true → live_bytes (live_of s) ≡ s
unfolding live_bytes live_of spelt
live-forth s l h e =
    let c = each s e in
    let word = word_back s h in
    let long = long-back s h in
    let top = cons_same (stage-back (get_or s 0 0) c.stage) (cons_same (flag-back (get_or s 1 0) c.stallout) (cons_same (flag-back (get_or s 2 0) c.stallin) (cons_same refl (join-same (word 4) (word 6))))) in
    let request = cons_same (direction-back (get_or s 8 0) c.direction) (cons_same (type-back (get_or s 9 0) c.kind) (cons_same (recipient-back (get_or s 10 0) c.recipient) (cons_same refl (join-same (join-same (word 12) (word 14)) (word 16))))) in
    let reply = cons_same (source-back (get_or s 18 0) c.source) (join-same (join-same (long 19) (long 23)) (long 27)) in
    let rest = cons_same (state-back (get_or s 31 0) c.state) (cons_same (flag-back (get_or s 32 0) c.wakeup) (cons_same (flag-back (get_or s 33 0) c.powered) (join-same (long 34) (cons_same (state-back (get_or s 38 0) c.before) (cons_same (flag-back (get_or s 39 0) c.built) (long 40)))))) in
    join-same top (join-same request (join-same reply rest)) ∙ sym (spells live_size 0 s l)
