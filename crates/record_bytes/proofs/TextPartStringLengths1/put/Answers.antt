use native.Mathlib.Omega.{arith}
use Prim.Native.Nat.{◌<◌}
use lib.ListN.{length}
use Rattle.record_bytes.proofs.Walks.{stood}
use Rattle.record_bytes.proofs.TextPartStringLengths1.put.Goals as goal

pub returns-clause-bytes : goal.returns-clause-bytes
returns-clause-bytes c =
    let a = c.args in
    let l : a.at < length a.dst.now = omega arith in
    stood a.dst.now a.at a.self.now.len l
