-- Document 01, "When the mast says no": the states that refusal 9 names, and the order of a step's refusals.
use Rattle.std.specs.Prelude.{ℕ, ◌+◌, ◌%◌, Bool, true, false, cond, ◌&&◌, ◌≡◌, eqb, leb, Result, ⊤}
use Rattle.common.specs.Refusals.{unless}
use Rattle.common.specs.declared.Refusal.{Refusal}
use Rattle.record.specs.declared.Record.{Record}
use Rattle.limits.specs.Limits.{lowest}
use Rattle.control_pipe.specs.Sizes.{buffer_room}
use Rattle.control_pipe.specs.Stages.{idle}
use Rattle.control_pipe.specs.declared.Source.{Source}
use Rattle.control_pipe.specs.declared.Source.TheVariants.{Buffer, Book}
use Rattle.control_pipe.specs.declared.Coming.{Coming}
use Rattle.control_pipe.specs.declared.Reply.{Reply}
use Rattle.control_pipe.specs.declared.Pipe.{Pipe}
use Rattle.requests.specs.Sizes.{tile_size}
use Rattle.requests.specs.declared.State.{State}
use Rattle.requests.specs.declared.State.TheVariants.{Default, Addressed, Configured, Suspend}
use Rattle.live.specs.declared.Live.{Live}

-- at building
abbrev pub fresh : ℕ → Bool → Live
fresh book built =
    record {
      pipe = idle;
      kept = record { state = Default; wakeup = false; powered = false; halts = 0 };
      before = Default;
      book = book;
      built = built;
    }

-- 4: a multiple of 16, at most 65,536
unfoldable pub book_fine : ℕ → Bool
book_fine n = eqb (n % tile_size) 0 && leb n 65536

-- at most 128 OUT bytes held or awaited
abbrev pub coming_fine : Coming → Bool
coming_fine c = leb c.awaited buffer_room && leb c.held buffer_room

-- the bytes that an answer may be read from
abbrev pub source_room : Source → ℕ → ℕ
source_room Buffer book = buffer_room
source_room Book book = book

-- the IN answer inside buffer or book, not sent past its end
abbrev pub reply_fine : Reply → ℕ → Bool
reply_fine a book = leb a.sent a.len && leb (a.start + a.len) (source_room a.source book)

-- .. and a pending address 0 to 127
abbrev pub pipe_fine : Pipe → ℕ → Bool
pipe_fine p book = coming_fine p.coming && reply_fine p.reply book && leb p.pending.0 127

abbrev pub awake : State → Bool
awake Default = true
awake Addressed = true
awake Configured = true
awake Suspend = false

-- Suspend is not remembered under Suspend
abbrev pub state_fine : State → State → Bool
state_fine Default before = true
state_fine Addressed before = true
state_fine Configured before = true
state_fine Suspend before = awake before

unfoldable pub live_fine : Live → Bool
live_fine l = l.built && book_fine l.book && state_fine l.kept.state l.before && pipe_fine l.pipe l.book

-- 9, or 0 for none
unfoldable pub unfit : Record → Live → ℕ
unfit r l = cond (live_fine l && eqb (lowest r) 0) 0 9

-- 9, then 5, then 6
unfoldable pub step_refusal : Record → Live → ℕ → ℕ → ℕ
step_refusal r l book room =
    cond (eqb (unfit r l) 0) (cond (eqb book l.book) (cond (leb r.plan.basics.packet room) 0 6) 5) 9

-- ---- the self-powered flag

abbrev pub with_powered : Bool → Live → Live
with_powered on l = record l { kept = record l.kept { powered = on } }

-- unchanged where it is refused
unfoldable pub powered_of : Record → Live → Bool → Live
powered_of r l on = cond (eqb (unfit r l) 0) (with_powered on l) l

pub record Setting (r : Result ⊤ Refusal) (exit : Live) (profile : Record) (l : Live) (on : Bool) : Type 0 where
  pub value : r ≡ unless (unfit profile l) tt
  pub live : exit ≡ powered_of profile l on
