-- What a device holds beside its record and its buffer, as 44 bytes:
--   0   stage, halts of endpoint 0 OUT and IN, pending address, OUT bytes awaited (2) and held (2)
--   8   the request: direction, type, recipient, code, value (2), index (2), length (2)
--   18  the IN answer: source, start (4), length (4), bytes sent (4)
--   31  state, wakeup, self-powered, halts (4), state under Suspend, built, length of the book (4)
use Rattle.std.specs.Prelude.{ℕ, Bool, ◌&&◌, List, ◌∷◌, ◌++◌, get_or}
use Rattle.control.specs.Setup.{word_at}
use Rattle.control.specs.Codes.{direction_code, direction_of_code, type_code, type_of_code, recipient_code, recipient_of_code}
use Rattle.control_pipe.specs.Codes.{stage_code, stage_of, source_code, source_of}
use Rattle.requests.specs.Codes.{state_code, state_of}
use Rattle.control.specs.declared.Request.{Request}
use Rattle.control_pipe.specs.declared.Reply.{Reply}
use Rattle.control_pipe.specs.declared.Pipe.{Pipe}
use Rattle.requests.specs.declared.Kept.{Kept}
use Rattle.live.specs.declared.Live.{Live}
use Rattle.record_bytes.specs.Codes.{word_bytes, long_bytes, long_at, flag_code, flag_at, coded}

abbrev pub live_size : ℕ
live_size = 44

-- ---- writing

abbrev pub top_bytes : Pipe → List ℕ
top_bytes p =
    stage_code p.stage
    ∷ flag_code p.stallout
    ∷ flag_code p.stallin
    ∷ p.pending.0
    ∷ (word_bytes p.coming.awaited ++ word_bytes p.coming.held)

abbrev pub request_bytes : Request → List ℕ
request_bytes q =
    direction_code q.direction
    ∷ type_code q.kind
    ∷ recipient_code q.recipient
    ∷ q.request
    ∷ (word_bytes q.value ++ word_bytes q.index ++ word_bytes q.length)

abbrev pub reply_bytes : Reply → List ℕ
reply_bytes a = source_code a.source ∷ (long_bytes a.start ++ long_bytes a.len ++ long_bytes a.sent)

abbrev pub rest_bytes : Live → List ℕ
rest_bytes l =
    state_code l.kept.state
    ∷ flag_code l.kept.wakeup
    ∷ flag_code l.kept.powered
    ∷ (long_bytes l.kept.halts ++ state_code l.before ∷ flag_code l.built ∷ long_bytes l.book)

unfoldable pub live_bytes : Live → List ℕ
live_bytes l = top_bytes l.pipe ++ (request_bytes l.pipe.request ++ (reply_bytes l.pipe.reply ++ rest_bytes l))

-- ---- reading

abbrev pub request_of : List ℕ → Request
request_of s =
    record {
      direction = direction_of_code (get_or s 8 0);
      kind = type_of_code (get_or s 9 0);
      recipient = recipient_of_code (get_or s 10 0);
      request = get_or s 11 0;
      value = word_at s 12;
      index = word_at s 14;
      length = word_at s 16;
    }

abbrev pub reply_of : List ℕ → Reply
reply_of s = record { source = source_of (get_or s 18 0); start = long_at s 19; len = long_at s 23; sent = long_at s 27 }

abbrev pub pipe_of : List ℕ → Pipe
pipe_of s =
    record {
      stage = stage_of (get_or s 0 0);
      stallout = flag_at s 1;
      stallin = flag_at s 2;
      pending = record { 0 = get_or s 3 0 };
      request = request_of s;
      coming = record { awaited = word_at s 4; held = word_at s 6 };
      reply = reply_of s;
    }

abbrev pub kept_of : List ℕ → Kept
kept_of s = record { state = state_of (get_or s 31 0); wakeup = flag_at s 32; powered = flag_at s 33; halts = long_at s 34 }

unfoldable pub live_of : List ℕ → Live
live_of s = record { pipe = pipe_of s; kept = kept_of s; before = state_of (get_or s 38 0); book = long_at s 40; built = flag_at s 39 }

-- ---- which bytes are a live part's: each flag and each enum is a code

abbrev pub pipe_coded : List ℕ → Bool
pipe_coded s = coded s 0 9 && coded s 1 1 && coded s 2 1 && coded s 8 1 && coded s 9 3 && coded s 10 4 && coded s 18 1

abbrev pub rest_coded : List ℕ → Bool
rest_coded s = coded s 31 3 && coded s 32 1 && coded s 33 1 && coded s 38 3 && coded s 39 1

unfoldable pub live_coded : List ℕ → Bool
live_coded s = pipe_coded s && rest_coded s
