-- Document 01, "What must change shape": a poll that changes the device in place is a step by value, put back where it came from.
use Rattle.std.specs.Prelude.{ℕ, List, Result}
use Rattle.common.specs.declared.Refusal.{Refusal}
use Rattle.events.specs.declared.Event.{Event}
use Rattle.device.specs.declared.Device.{Device}
use Rattle.device.specs.declared.Polled.{Polled}
use Rattle.device.specs.declared.Stepped.{Stepped}
use Rattle.device.specs.Device.{Stepping}

-- a device and what was said, as a step returns them
abbrev pub stepped : Device → Result Polled Refusal → Stepped
stepped d p = record { device = d; said = p }

-- what is said, the device and the room at exit; the device, the book, the event, the packet and the room at entry
abbrev pub Polling : Result Polled Refusal → Device → List ℕ → Device → List ℕ → Event → List ℕ → List ℕ → Type 0
Polling r after exit d book e s entry = Stepping (stepped after r) exit d book e s entry
