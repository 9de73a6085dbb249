-- What is written of an entry is read back, and how long it is. Assumes nothing.
use Prim.Native.Nat.{ℕ}
use mathlib.Core.Path.{◌≡◌, refl}
use native.Mathlib.Omega.{arith}
use lib.ListN.{length}
use Rattle.plan.specs.declared.Interface.{Interface}
use Rattle.plan.specs.declared.Endpoint.{Endpoint}
use Rattle.plan.specs.Codes.{kind_back}
use Rattle.record_bytes.specs.Codes.{word_bytes}
use Rattle.record_bytes.specs.Layout.{interface_size, endpoint_size, word_size, interface_bytes, endpoint_bytes, interface_of, endpoint_of, word_of}

pub word-back : (n : ℕ) → word_of (word_bytes n) ≡ n
word-back n = omega arith

pub word-length : (n : ℕ) → length (word_bytes n) ≡ word_size
word-length n = refl

pub interface-back : (i : Interface) → interface_of (interface_bytes i) ≡ i
interface-back i = refl

pub interface-length : (i : Interface) → length (interface_bytes i) ≡ interface_size
interface-length i = refl

pub endpoint-back : (e : Endpoint) → endpoint_of (endpoint_bytes e) ≡ e
endpoint-back e = rw (kind_back e.kind)

pub endpoint-length : (e : Endpoint) → length (endpoint_bytes e) ≡ endpoint_size
endpoint-length e = refl
