-- The fault of the pans, by computation; and that our rule is the one our mast keeps. Assumes nothing.
use Prim.Native.Nat.{ℕ, ◌<◌}
use mathlib.Core.Bool.{true, false≢true}
use mathlib.Core.Path.{◌≡◌, refl, sym, ap, ◌∙◌}
use mathlib.Core.List.{List, [], ◌∷◌}
use lib.ListN.{length, take}
use Rattle.common.specs.Bytes.{placed, piece}
use Rattle.common.specs.Lists.{every, member, none_twice}
use Rattle.control.specs.declared.Direction.{Direction}
use Rattle.control.specs.declared.Direction.TheVariants.{In, Out}
use Rattle.control.specs.declared.Request.{Request}
use Rattle.control.specs.Setup.{request_of}
use Rattle.record.specs.declared.Record.{Record}
use Rattle.descriptor.specs.Device.{device_bytes}
use Rattle.control_pipe.specs.declared.Read.TheVariants.{Packet}
use Rattle.control_pipe.specs.Stages.{zeros, chunk_bytes, begin_by, begun, setup_come, after_chunk, advanced, send_chunk}
use Rattle.requests.specs.Requests.{decided}
use Rattle.writer.specs.Descriptors.{descriptor_of}
use Rattle.answers.specs.Answers.{Answer, stall, tell, tiles, accept, buffer_of, described, answer_of, answer}
use Rattle.live.specs.declared.Live.{Live}
use Rattle.live.specs.Live.{book_fine, live_fine, unfit, step_refusal}
use Rattle.effects.specs.Effects.{set_out}
use Rattle.events.specs.declared.Write.TheVariants.{Taken}
use Rattle.events.specs.declared.Arrival.{Arrival}
use Rattle.events.specs.declared.Event.TheVariants.{Data}
use Rattle.events.specs.Events.{Done, odd, woken, arrived, followed, data_come, happens, handled}
use Rattle.device.specs.declared.Device.{Device}
use Rattle.device.specs.Device.{refused_by, done, build_refusal, made, step_of}
use Rattle.promises.specs.History.{after, ends}
use Rattle.promises.specs.Transfers.{answer_to}
use Rattle.promises.specs.Counts.{speaks}
use Rattle.promises.specs.Fault.{reply_of, first_packet, theirs, ours, mast, book, describe, gave_up, nothing}
use Rattle.steady.proofs.Usable.{usable}
use Rattle.promises.proofs.Count.{fit-positive, sets, out-silent, setup-done}

-- With the Rust's rule a laptop that gave up a read of the book, and then asks for the device descriptor, is answered with bytes of
-- the book. One that had read nothing is answered with the descriptor. With our rule both are.
pub fault : let d = made mast (length book) in
    (first_packet theirs (ends d gave_up) book describe ≡ take 8 book)
    × ((first_packet theirs (ends d nothing) book describe ≡ 18 ∷ 1 ∷ 0 ∷ 2 ∷ 0 ∷ 0 ∷ 0 ∷ 8 ∷ [])
    × ((first_packet ours (ends d gave_up) book describe ≡ 18 ∷ 1 ∷ 0 ∷ 2 ∷ 0 ∷ 0 ∷ 0 ∷ 8 ∷ [])
    × (first_packet ours (ends d nothing) book describe ≡ 18 ∷ 1 ∷ 0 ∷ 2 ∷ 0 ∷ 0 ∷ 0 ∷ 8 ∷ [])))
unfolding placed piece every member none_twice device_bytes begin_by begun setup_come after_chunk advanced send_chunk decided descriptor_of described answer_of answer book_fine live_fine unfit step_refusal set_out arrived followed data_come happens handled build_refusal made step_of after ends first_packet
fault = (refl, (refl, (refl, refl)))

-- an answer with bytes sets out with its first chunk
set-packet : (r : Record) (q : Request) (book : List ℕ) (l : Live) (n : l.book ≡ length book) (z : 0 < r.plan.basics.packet) (a : Answer) → speaks a ≡ true
    → (sets r q book l n z a).packet ≡ chunk_bytes r.plan.basics.packet (reply_of a q (length book)) (buffer_of a zeros) book
unfolding set_out send_chunk
set-packet r q lent l n z stall e = absurd (false≢true e)
set-packet r q lent l n z (tell bytes) e = refl
set-packet r q lent l n z (tiles start) e = ap (λ (x : ℕ). chunk_bytes r.plan.basics.packet (reply_of (tiles start) q x) zeros lent) n
set-packet r q lent l n z (accept x) e = absurd (false≢true e)

-- Our rule is what our mast keeps: after any past, its first packet is that of `ours`.
pub kept : (d : Device) (a : Arrival) (book s room : List ℕ) → refused_by d book room ≡ 0 → odd a.setup ≡ true → a.read ≡ Packet → length s ≡ 8 → a.write ≡ Taken → speaks (answer_to d book s) ≡ true
    → (done d book (Data a) s).packet ≡ first_packet ours d book s
unfolding first_packet
kept d a book s room z o x e w y = by (request_of s).direction refl
  where
    by : (t : Direction) → (request_of s).direction ≡ t → (done d book (Data a) s).packet ≡ first_packet ours d book s
    by Out i = absurd (out-silent d.profile (woken d.live).kept (request_of s) (length book) i y)
    by In i =
        let u = usable d book room z in
        ap (λ (k : Done). k.packet) (setup-done d a book s room z o x e w i) ∙ set-packet d.profile (request_of s) book (woken d.live) (sym u.same) (fit-positive d u.fit) (answer_to d book s) y
