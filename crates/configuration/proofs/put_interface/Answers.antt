use Rattle.configuration.proofs.put_interface.Goals as goal
use Rattle.std.proofs.Common.{arith}
use Rattle.configuration.proofs.Laws.{owned-most, length-set, set-added}

pub overflow_cast-owned : goal.overflow_cast-owned
overflow_cast-owned c =
    let a = c.args in
    omega (arith, c.count_owned-owned.ensures, owned-most a.number a.endpoints.now)

pub append-behind-requires : goal.append-behind-requires
append-behind-requires c =
    let a = c.args in
    rw c.interface_bytes.ensures (omega (arith, length-set a.endpoints.now a.number a.interface.now))

pub put_endpoints-requires : goal.put_endpoints-requires
put_endpoints-requires c =
    let a = c.args in
    let n = c.append-behind.ensures.next in
    omega (arith, rw c.interface_bytes.ensures at n, c.append-behind.auto.buf, length-set a.endpoints.now a.number a.interface.now)

pub returns : goal.returns
returns c =
    let a = c.args in
    let b = c.append-behind.ensures in
    set-added a.endpoints.now a.number a.interface.now c.requires.room
    (rw (← c.count_owned-owned.ensures) (rw c.interface_bytes.ensures at b.buffer))
    (rw (rw c.interface_bytes.ensures at b.next) at c.put_endpoints.ensures)
