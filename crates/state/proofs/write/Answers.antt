use Rattle.std.proofs.Common.{◌≡◌, length, sym, ◌∙◌, rules, arith, length-take-le}
use Rattle.state.proofs.Laws.{wrote-all}
use Rattle.state.proofs.write.Goals as goal

pub returns : goal.returns
returns c =
    let d = c.args.device.now in
    let k = rw c.copy_from_slice.ensures.after at c.keep.ensures.state in
    let l : length c.write.result ≡ 833 = search rules in
    wrote-all d c.args.s.now c.if-s-ne-STATE.false c.write.ensures l c.keep.ensures.long k

pub slice_bounds-copy_from_slice-end-2 : goal.slice_bounds-copy_from_slice-end-2
slice_bounds-copy_from_slice-end-2 c = sym (length-take-le 833 c.args.s.now (omega (arith, c.if-s-ne-STATE.false)))

pub copy_from_slice-requires : goal.copy_from_slice-requires
copy_from_slice-requires c = let l : length c.write.result ≡ 833 = search rules in length-take-le 833 c.args.s.now (omega (arith, c.if-s-ne-STATE.false)) ∙ sym l
