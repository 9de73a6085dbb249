use Rattle.std.proofs.Common.{◌≡◌, ℕ, ◌/◌, ◌%◌, ◌<◌, ◌^◌, Bool, true, false, cond, refl, arith, rules}
use mir.Val.{bool_byte}
use Rattle.stream.proofs.top.Goals as goal

high : (n : ℕ) → n < 2 ^ 16 → n / 256 % 256 ≡ n / 256
high n l = omega arith

flag : (b : Bool) → bool_byte b ≡ cond b 1 0
flag true = refl
flag false = refl

pub returns : goal.returns
returns c =
    let m = c.args.polled.now.masks in
    let s : m.setup < 2 ^ 16 = search rules in
    let o : m.out < 2 ^ 16 = search rules in
    let d : m.done < 2 ^ 16 = search rules in
    rw (c.code.ensures, c.to_le_bytes.ensures, c.to_le_bytes-2.ensures, c.to_le_bytes-3.ensures, c.action_bytes.ensures, c.action_bytes-2.ensures, c.action_bytes-3.ensures, c.action_bytes-4.ensures, c.action_bytes-5.ensures, high m.setup s, high m.out o, high m.done d, flag c.args.polled.now.answer)
