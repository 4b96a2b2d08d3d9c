-- Each term takes at most half of the numbers that the limbs hold, so nothing is carried out.
use native.Mathlib.Omega.{arith}
use Prim.Native.Nat.{◌-◌, ◌*◌, ◌^◌}
use borrow.Rule.Slice.PartMut.{same_len_mid}
use lib.ListN.{length}
use Rattle.limbs.specs.Value.{value}
use Rattle.starts.proofs.Start.{term_small, sum_done}
use Rattle.starts.proofs.lay_sum.Goals as goal

pub returns : goal.returns
returns c =
    let p = c.args in
    let l = c.lay-n.new.limbs in
    let n = c.lay-n.result in
    let k = same_len_mid n (length l - n) l c.clear.new.limbs c.clear.auto.limbs in
    sum_done l c.clear.new.limbs n (value c.add_term.new.limbs) c.add_term.result (p.x * 2 ^ p.s) (p.y * 2 ^ p.t) (omega arith) c.lay-n.ensures.0 c.clear.ensures k c.add_term.ensures (term_small p.x p.s (length l) c.ranges.x.fits (omega arith)) (term_small p.y p.t (length l) c.ranges.y.fits (omega arith))
