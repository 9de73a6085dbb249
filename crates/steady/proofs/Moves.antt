-- How a SETUP, the first half of an event and an IN-complete can move the pipe, each as one principle: what holds of the few moves that
-- there are holds of the one that is made. Assumes nothing.
use Prim.Native.Nat.{ℕ, ◌-◌, ◌≤◌}
use mathlib.Core.Bool.{Bool, true, false}
use mathlib.Core.Path.{◌≡◌, refl}
use mathlib.Core.List.{List}
use borrow.Author.Tests.{leb-true, eqb-true}
use lib.Dec.{eqb, leb}
use lib.ListN.{length}
use Rattle.common.specs.Bytes.{placed}
use Rattle.common.proofs.Laws.{cond-elim}
use Rattle.control.specs.declared.Direction.{Direction}
use Rattle.control.specs.declared.Direction.TheVariants.{In, Out}
use Rattle.control.specs.declared.Request.{Request}
use Rattle.control.specs.Setup.{request_of, parsed}
use Rattle.control_pipe.specs.Sizes.{buffer_room}
use Rattle.control_pipe.specs.declared.Stage.{Stage}
use Rattle.control_pipe.specs.declared.Stage.TheVariants.{Idle, DataIn, DataInZlp, DataInLast, CompleteIn, StatusOut, CompleteOut, DataOut, StatusIn, Error}
use Rattle.control_pipe.specs.declared.Read.{Read}
use Rattle.control_pipe.specs.declared.Read.TheVariants.{Packet, Block, Fault}
use Rattle.control_pipe.specs.declared.Pipe.{Pipe}
use Rattle.control_pipe.specs.Stages.{Move, at, still, ready, stalled, fresh, opened, overlong, begin_out, begin_by, begun, setup_come, grown, filled, add_packet, add_read, end_read, bad_read, out_at, out_come, send_chunk, send_empty, await_status, in_at, in_complete}
use Rattle.events.specs.declared.Arrival.{Arrival}
use Rattle.events.specs.Events.{odd, arrived}

module _ (P : Move → Type 0) where
  -- an accepted SETUP
  module _ (q : Request) where
    pub begin-elim : (q.direction ≡ In → P (opened (fresh CompleteIn q 0) true)) → (q.direction ≡ Out → P (opened (fresh CompleteOut q 0) true))
        → (q.direction ≡ Out → q.length ≤ buffer_room → P (opened (fresh DataOut q q.length) false)) → P (overlong q) → P (begin_by q.direction q)
    unfolding begin_by begin_out
    begin-elim ins outs more long = by q.direction refl
      where
        by : (d : Direction) → q.direction ≡ d → P (begin_by d q)
        by In e = ins e
        by Out e =
            cond-elim P (eqb q.length 0) _ _ (λ t. outs e) (λ t. cond-elim P (leb q.length buffer_room) _ _ (λ t. more e (leb-true _ _ t)) (λ t. long))

  module _ (p : Pipe) (b : List ℕ) (same : P (still p b)) where
    -- what arrived: nothing changes, the transfer ends, the pipe stalls, OUT data is added, or a SETUP is accepted
    module _ (s : List ℕ) (idle : P (still (at Idle p) b)) (stall : P (stalled p b))
        (add : p.stage ≡ DataOut → length s ≤ buffer_room - p.coming.held → P (filled (grown (length s) p) (placed b p.coming.held s))) where
      end-elim : (r : Read) → P (end_read r (length s) p b)
      unfolding end_read
      end-elim Packet = cond-elim (λ (x : Pipe). P (still x b)) (eqb (length s) 0) (at Idle p) p (λ e. idle) (λ e. same)
      end-elim Block = same
      end-elim Fault = same

      bad-elim : (r : Read) → P (bad_read r (length s) p b)
      unfolding bad_read
      bad-elim Packet = cond-elim P (eqb (length s) 0) _ _ (λ e. stall) (λ e. same)
      bad-elim Block = same
      bad-elim Fault = same

      add-elim : (r : Read) → p.stage ≡ DataOut → P (add_read r s p b)
      unfolding add_read add_packet
      add-elim Packet e = cond-elim P (leb (length s) (buffer_room - p.coming.held)) _ _ (λ t. add e (leb-true _ _ t)) (λ t. stall)
      add-elim Block e = same
      add-elim Fault e = stall

      out-elim : (t : Stage) (r : Read) → p.stage ≡ t → P (out_at t r s p b)
      unfolding out_at
      out-elim Idle r e = bad-elim r
      out-elim DataIn r e = end-elim r
      out-elim DataInZlp r e = end-elim r
      out-elim DataInLast r e = end-elim r
      out-elim CompleteIn r e = bad-elim r
      out-elim StatusOut r e = end-elim r
      out-elim CompleteOut r e = bad-elim r
      out-elim DataOut r e = add-elim r e
      out-elim StatusIn r e = bad-elim r
      out-elim Error r e = bad-elim r

      setup-elim : (r : Read) → (r ≡ Packet → length s ≡ 8 → P (begin_by (request_of s).direction (request_of s))) → P (setup_come r s p b)
      unfolding setup_come begun
      setup-elim Packet f = by (eqb (length s) 8) refl
        where
          by : (t : Bool) → eqb (length s) 8 ≡ t → P (begun (parsed s) p b)
          by true e = rw e (f refl (eqb-true (length s) 8 e))
          by false e = rw e same
      setup-elim Block f = same
      setup-elim Fault f = same

      pub arrived-elim : (a : Arrival) → (odd a.setup ≡ true → a.read ≡ Packet → length s ≡ 8 → P (begin_by (request_of s).direction (request_of s))) → P (arrived a s p b)
      unfolding arrived out_come
      arrived-elim a f = cond-elim P (odd a.setup) _ _ (λ e. setup-elim a.read (f e)) (λ e. cond-elim P (odd a.out) _ _ (λ e. out-elim p.stage a.read refl) (λ e. same))

    -- an IN-complete: nothing, a chunk, the empty packet, the status stage, or the end of one
    pub in-elim : (size : ℕ) (taken : Bool) (book : List ℕ) → (p.stage ≡ DataIn → P (send_chunk size taken book p b)) → (p.stage ≡ DataInZlp → P (send_empty taken DataInLast p b))
        → (p.stage ≡ DataInLast → P (await_status p b)) → (p.stage ≡ StatusIn → P (ready (at Idle p) b)) → P (in_complete size taken book p b)
    unfolding in_complete in_at
    in-elim size taken book chunk empty status end = by p.stage refl
      where
        by : (t : Stage) → p.stage ≡ t → P (in_at t size taken book p b)
        by Idle e = same
        by DataIn e = chunk e
        by DataInZlp e = empty e
        by DataInLast e = status e
        by CompleteIn e = same
        by StatusOut e = same
        by CompleteOut e = same
        by DataOut e = same
        by StatusIn e = end e
        by Error e = same
