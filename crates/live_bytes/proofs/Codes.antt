-- Each code is at most the highest, and a number up to it is the code of what it names. Assumes nothing.
use Prim.Native.Nat.{ℕ, zero, suc, ◌≤◌}
use mathlib.Core.Bool.{true}
use mathlib.Core.Path.{◌≡◌, refl}
use native.Mathlib.Omega.{arith}
use borrow.Author.Tests.{leb-true}
use lib.Dec.{leb}
use Rattle.control_pipe.specs.declared.Stage.{Stage}
use Rattle.control_pipe.specs.declared.Stage.TheVariants.{Idle, DataIn, DataInZlp, DataInLast, CompleteIn, StatusOut, CompleteOut, DataOut, StatusIn, Error}
use Rattle.control.specs.declared.Direction.{Direction}
use Rattle.control.specs.declared.Direction.TheVariants.{Out, In}
use Rattle.control.specs.declared.RequestType.{RequestType}
use Rattle.control.specs.declared.RequestType.TheVariants.{Standard, Class, Vendor, Reserved as ReservedType}
use Rattle.control.specs.declared.Recipient.{Recipient}
use Rattle.control.specs.declared.Recipient.TheVariants.{Device, Interface, Endpoint, Other, Reserved}
use Rattle.control_pipe.specs.declared.Source.{Source}
use Rattle.control_pipe.specs.declared.Source.TheVariants.{Buffer, Book}
use Rattle.requests.specs.declared.State.{State}
use Rattle.requests.specs.declared.State.TheVariants.{Default, Addressed, Configured, Suspend}
use Rattle.control.specs.Codes.{direction_code, direction_of_code, type_code, type_of_code, recipient_code, recipient_of_code}
use Rattle.control_pipe.specs.Codes.{stage_code, stage_of, source_code, source_of}
use Rattle.requests.specs.Codes.{state_code, state_of}

-- a number above all codes
over : {A : Type 0} (m n : ℕ) → m ≤ n → leb (suc n) m ≡ true → A
over m n l e = absurd (let k : suc n ≤ m = leb-true (suc n) m e in omega (arith, l, k))

pub stage-coded : (x : Stage) → leb (stage_code x) 9 ≡ true
stage-coded Idle = refl
stage-coded DataIn = refl
stage-coded DataInZlp = refl
stage-coded DataInLast = refl
stage-coded CompleteIn = refl
stage-coded StatusOut = refl
stage-coded CompleteOut = refl
stage-coded DataOut = refl
stage-coded StatusIn = refl
stage-coded Error = refl

pub stage-back : (n : ℕ) → leb n 9 ≡ true → stage_code (stage_of n) ≡ n
stage-back zero e = refl
stage-back (suc zero) e = refl
stage-back (suc (suc zero)) e = refl
stage-back (suc (suc (suc zero))) e = refl
stage-back (suc (suc (suc (suc zero)))) e = refl
stage-back (suc (suc (suc (suc (suc zero))))) e = refl
stage-back (suc (suc (suc (suc (suc (suc zero)))))) e = refl
stage-back (suc (suc (suc (suc (suc (suc (suc zero))))))) e = refl
stage-back (suc (suc (suc (suc (suc (suc (suc (suc zero)))))))) e = refl
stage-back (suc (suc (suc (suc (suc (suc (suc (suc (suc zero))))))))) e = refl
stage-back (suc (suc (suc (suc (suc (suc (suc (suc (suc (suc n)))))))))) e = over 9 (suc (suc (suc (suc (suc (suc (suc (suc (suc n))))))))) (omega arith) e

pub direction-coded : (x : Direction) → leb (direction_code x) 1 ≡ true
direction-coded Out = refl
direction-coded In = refl

pub direction-back : (n : ℕ) → leb n 1 ≡ true → direction_code (direction_of_code n) ≡ n
direction-back zero e = refl
direction-back (suc zero) e = refl
direction-back (suc (suc n)) e = over 1 (suc n) (omega arith) e

pub type-coded : (x : RequestType) → leb (type_code x) 3 ≡ true
type-coded Standard = refl
type-coded Class = refl
type-coded Vendor = refl
type-coded ReservedType = refl

pub type-back : (n : ℕ) → leb n 3 ≡ true → type_code (type_of_code n) ≡ n
type-back zero e = refl
type-back (suc zero) e = refl
type-back (suc (suc zero)) e = refl
type-back (suc (suc (suc zero))) e = refl
type-back (suc (suc (suc (suc n)))) e = over 3 (suc (suc (suc n))) (omega arith) e

pub recipient-coded : (x : Recipient) → leb (recipient_code x) 4 ≡ true
recipient-coded Device = refl
recipient-coded Interface = refl
recipient-coded Endpoint = refl
recipient-coded Other = refl
recipient-coded Reserved = refl

pub recipient-back : (n : ℕ) → leb n 4 ≡ true → recipient_code (recipient_of_code n) ≡ n
recipient-back zero e = refl
recipient-back (suc zero) e = refl
recipient-back (suc (suc zero)) e = refl
recipient-back (suc (suc (suc zero))) e = refl
recipient-back (suc (suc (suc (suc zero)))) e = refl
recipient-back (suc (suc (suc (suc (suc n))))) e = over 4 (suc (suc (suc (suc n)))) (omega arith) e

pub source-coded : (x : Source) → leb (source_code x) 1 ≡ true
source-coded Buffer = refl
source-coded Book = refl

pub source-back : (n : ℕ) → leb n 1 ≡ true → source_code (source_of n) ≡ n
source-back zero e = refl
source-back (suc zero) e = refl
source-back (suc (suc n)) e = over 1 (suc n) (omega arith) e

pub state-coded : (x : State) → leb (state_code x) 3 ≡ true
state-coded Default = refl
state-coded Addressed = refl
state-coded Configured = refl
state-coded Suspend = refl

pub state-back : (n : ℕ) → leb n 3 ≡ true → state_code (state_of n) ≡ n
state-back zero e = refl
state-back (suc zero) e = refl
state-back (suc (suc zero)) e = refl
state-back (suc (suc (suc zero))) e = refl
state-back (suc (suc (suc (suc n)))) e = over 3 (suc (suc (suc n))) (omega arith) e
