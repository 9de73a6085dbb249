-- The C interface: what each call answers and what it leaves in the bytes that it is lent. A refused call changes none.
use Rattle.std.specs.Prelude.{ℕ, ◌+◌, ◌*◌, Bool, true, cond, List, ◌≡◌, eqb, length}
use Rattle.common.specs.Bytes.{placed}
use Rattle.device.specs.Device.{fresh, build_refusal, data_refused, handed_room, unfit_device, with_powered}
use Rattle.record_bytes.specs.Layout.{record_size, record_of, record_coded}
use Rattle.state.specs.State.{state_size, bytes_of, device_of, state_coded}
use Rattle.stream.specs.Stream.{Run, run_of}

-- a count and a number in one answer
unfoldable pub answer_of : ℕ → ℕ → ℕ
answer_of count number = 16 * count + number

-- ---- building

-- what the rules gave of bytes that are coded or not
abbrev pub sooner : Bool → ℕ → ℕ
sooner coded n = cond coded n (cond (eqb n 1) 1 2)

-- bytes that are no record get the number of the first rule that they break: 1 where their length is another, since they have
-- no packet size; else 2 where a flag or a kind is no code, after 1 of the packet size
unfoldable pub build_number : List ℕ → ℕ → ℕ
build_number s book =
    let n = build_refusal (record_of s) book in
    cond (eqb (length s) record_size) (sooner (record_coded s) n) 1

-- then 9 where the state has another length
unfoldable pub built_number : List ℕ → ℕ → List ℕ → ℕ
built_number s book state = cond (eqb (build_number s book) 0) (cond (eqb (length state) state_size) 0 9) (build_number s book)

unfoldable pub built_state : List ℕ → ℕ → List ℕ → List ℕ
built_state s book state = cond (eqb (built_number s book state) 0) (bytes_of (fresh (record_of s) book true)) state

pub record Building (r : ℕ) (exit : List ℕ) (s : List ℕ) (book : ℕ) (entry : List ℕ) : Type 0 where
  pub value : r ≡ built_number s book entry
  pub state : exit ≡ built_state s book entry

-- ---- a run

abbrev pub running : List ℕ → List ℕ → List ℕ → List ℕ → Run
running state book events trace = run_of (device_of state) book events trace

unfoldable pub ran_number : List ℕ → List ℕ → List ℕ → List ℕ → ℕ
ran_number state book events trace = let x = running state book events trace in cond (state_coded state) (answer_of x.count x.number) (answer_of 0 9)

unfoldable pub ran_state : List ℕ → List ℕ → List ℕ → List ℕ → List ℕ
ran_state state book events trace = cond (state_coded state) (bytes_of (running state book events trace).device) state

unfoldable pub ran_trace : List ℕ → List ℕ → List ℕ → List ℕ → List ℕ
ran_trace state book events trace = cond (state_coded state) (placed trace 0 (running state book events trace).bytes) trace

pub record Running (r : ℕ) (exit written : List ℕ) (s book events t : List ℕ) : Type 0 where
  pub value : r ≡ ran_number s book events t
  pub state : exit ≡ ran_state s book events t
  pub trace : written ≡ ran_trace s book events t

-- ---- the OUT data

unfoldable pub data_number : List ℕ → List ℕ → ℕ
data_number state room =
    let d = device_of state in
    let n = data_refused d (length room) in
    cond (state_coded state) (answer_of (cond (eqb n 0) d.live.pipe.coming.awaited 0) n) (answer_of 0 9)

unfoldable pub data_room : List ℕ → List ℕ → List ℕ
data_room state room = cond (state_coded state) (handed_room (device_of state) room) room

pub record Handing (r : ℕ) (exit : List ℕ) (s entry : List ℕ) : Type 0 where
  pub value : r ≡ data_number s entry
  pub room : exit ≡ data_room s entry

-- ---- the self-powered flag

unfoldable pub flag_number : List ℕ → ℕ
flag_number state = cond (state_coded state) (unfit_device (device_of state)) 9

unfoldable pub flag_state : List ℕ → Bool → List ℕ
flag_state state on = cond (eqb (flag_number state) 0) (bytes_of (with_powered on (device_of state))) state

pub record Setting (r : ℕ) (exit : List ℕ) (s : List ℕ) (on : Bool) : Type 0 where
  pub value : r ≡ flag_number s
  pub state : exit ≡ flag_state s on
