-- Document 01, module 4 and "When the mast says no": building, stepping, asking for data, the self-powered flag; what each answers
-- and what it leaves in a lent room.
use Rattle.std.specs.Prelude.{ℕ, ◌-◌, Bool, true, false, cond, not, ◌&&◌, List, ◌≡◌, eqb, leb, length, take, Result, Ok, Err, ⊤}
use Rattle.std.specs.Int.Bits.{bit_and}
use Rattle.common.specs.Bytes.{front}
use Rattle.common.specs.Refusals.{refusal, unless}
use Rattle.common.specs.declared.Refusal.{Refusal}
use Rattle.record.specs.declared.Record.{Record}
use Rattle.limits.specs.Limits.{lowest}
use Rattle.control_pipe.specs.Stages.{zeros}
use Rattle.control_pipe.specs.declared.Coming.{Coming}
use Rattle.live.specs.declared.Live.{Live}
use Rattle.live.specs.Live.{fresh as fresh_live, book_fine, unfit, step_refusal, with_powered as with_powered_live}
use Rattle.events.specs.declared.Event.{Event}
use Rattle.events.specs.declared.Event.TheVariants.{Nothing, Reset, Suspend, Resume, Data}
use Rattle.events.specs.declared.Handled.{Handled}
use Rattle.events.specs.Events.{Done, handled, handled_of, told_by}
use Rattle.actions.specs.Actions.{packed}
use Rattle.device.specs.declared.Device.{Device}
use Rattle.device.specs.declared.Masks.{Masks}
use Rattle.device.specs.declared.Polled.{Polled}
use Rattle.device.specs.declared.Stepped.{Stepped}
use Rattle.device.specs.declared.Unbuilt.{Unbuilt}

-- a device whose parts lie apart
abbrev pub of_parts : Record → Live → List ℕ → Device
of_parts r l b = record { profile = r; live = l; buffer = b }

-- ---- building

abbrev pub fresh : Record → ℕ → Bool → Device
fresh r book built = record { profile = r; live = fresh_live book built; buffer = zeros }

-- 1 to 3 of the record, then 4
unfoldable pub build_refusal : Record → ℕ → ℕ
build_refusal r book = cond (eqb (lowest r) 0) (cond (book_fine book) 0 4) (lowest r)

-- the device that is made: built, or unbuilt where a number refuses it
unfoldable pub made : Record → ℕ → Device
made r book = cond (eqb (build_refusal r book) 0) (fresh r book true) (fresh r 0 false)

-- a device, or why there is none, with the unbuilt one
unfoldable pub build_of : Record → ℕ → Result Device Unbuilt
build_of r book =
    let n = build_refusal r book in
    cond (eqb n 0) (Ok (made r book)) (Err (record { device = made r book; refusal = refusal n }))

-- ---- a step

-- endpoints 1 to 15: SETUP, OUT without SETUP, IN-complete
abbrev pub no_masks : Masks
no_masks = record { setup = 0; out = 0; done = 0 }

abbrev pub masks_of : Event → Masks
masks_of Nothing = no_masks
masks_of Reset = no_masks
masks_of Suspend = no_masks
masks_of Resume = no_masks
masks_of (Data a) = record { setup = bit_and a.setup 65534; out = bit_and (bit_and a.out (65535 - a.setup)) 65534; done = bit_and a.done 65534 }

abbrev pub polled_of : Handled → Event → Polled
polled_of h e = record { answer = h.answer; masks = masks_of e; actions = packed (told_by h.resumed h.first h.act h.second) }

-- which number refuses a step: 9, 5, 6 or 0
abbrev pub refused_by : Device → List ℕ → List ℕ → ℕ
refused_by d book room = step_refusal d.profile d.live (length book) (length room)

-- what the event does to a device that no number refuses
abbrev pub done : Device → List ℕ → Event → List ℕ → Done
done d book e s = handled e d.profile s book d.live d.buffer

abbrev pub stepped_to : Device → Event → Done → Stepped
stepped_to d e x = record { device = record d { live = x.live; buffer = x.buffer }; said = Ok (polled_of (handled_of x) e) }

unfoldable pub step_of : Device → List ℕ → Event → List ℕ → List ℕ → Stepped
step_of d book e s room =
    let n = refused_by d book room in
    cond (eqb n 0) (stepped_to d e (done d book e s)) (record { device = d; said = Err (refusal n) })

-- the packet at the front of the room, nothing behind it changed; a refused step changes no byte
unfoldable pub room_of : Device → List ℕ → Event → List ℕ → List ℕ → List ℕ
room_of d book e s room = cond (eqb (refused_by d book room) 0) (front (done d book e s).packet room) room

pub record Stepping (r : Stepped) (exit : List ℕ) (d : Device) (book : List ℕ) (e : Event) (s entry : List ℕ) : Type 0 where
  pub value : r ≡ step_of d book e s entry
  pub room : exit ≡ room_of d book e s entry

-- ---- the OUT data

abbrev pub unfit_device : Device → ℕ
unfit_device d = unfit d.profile d.live

-- an OUT data stage is complete: the bytes held have reached wLength
abbrev pub data_ready : Coming → Bool
data_ready c = not (eqb c.awaited 0) && leb c.awaited c.held

-- its first wLength bytes
abbrev pub data_of : Device → List ℕ
data_of d = take d.live.pipe.coming.awaited d.buffer

-- 9, then 7, then 8
unfoldable pub data_refusal : ℕ → Coming → ℕ → ℕ
data_refusal fit c room = cond (eqb fit 0) (cond (data_ready c) (cond (leb c.awaited room) 0 8) 7) fit

abbrev pub data_refused : Device → ℕ → ℕ
data_refused d room = data_refusal (unfit_device d) d.live.pipe.coming room

abbrev pub handed_of : Device → ℕ → Result ℕ Refusal
handed_of d room = unless (data_refused d room) d.live.pipe.coming.awaited

unfoldable pub handed_room : Device → List ℕ → List ℕ
handed_room d room = cond (eqb (data_refused d (length room)) 0) (front (data_of d) room) room

pub record Handing (r : Result ℕ Refusal) (exit : List ℕ) (d : Device) (entry : List ℕ) : Type 0 where
  pub value : r ≡ handed_of d (length entry)
  pub room : exit ≡ handed_room d entry

-- ---- the self-powered flag

abbrev pub with_powered : Bool → Device → Device
with_powered on d = record d { live = with_powered_live on d.live }

-- unchanged where it is refused
unfoldable pub powered_of : Device → Bool → Device
powered_of d on = cond (eqb (unfit_device d) 0) (with_powered on d) d

pub record Setting (r : Result ⊤ Refusal) (exit : Device) (d : Device) (on : Bool) : Type 0 where
  pub value : r ≡ unless (unfit_device d) tt
  pub device : exit ≡ powered_of d on
