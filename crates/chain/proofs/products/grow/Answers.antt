-- The carry out of the first n limbs takes no limb, one or two, the top one not 0.
use native.Mathlib.Omega.{arith}
use Rattle.limbs.proofs.Value.{front_stays}
use Rattle.chain.proofs.Product.{grow_none, grow_one, grow_two}
use Rattle.chain.proofs.products.grow.Goals as goal

pub returns-then-carry-eq0 : goal.returns-then-carry-eq0
returns-then-carry-eq0 c =
    (grow_none c.args.limbs.now c.times_add-carry.new.limbs c.args.n _ c.times_add-carry.result c.times_add-carry.auto.limbs c.times_add-carry.ensures (omega arith) c.if-carry-eq0.true, omega arith, omega arith, λ h. absurd (omega arith), front_stays c.args.limbs.now c.times_add-carry.new.limbs c.args.n c.args.n (omega arith) c.times_add-carry.auto.limbs (omega arith))

pub returns-then-carry-lt4294967296 : goal.returns-then-carry-lt4294967296
returns-then-carry-lt4294967296 c =
    let g = grow_one c.args.limbs.now c.times_add-carry.new.limbs c.args.n _ c.times_add-carry.result c.times_add-carry.auto.limbs c.times_add-carry.ensures _ (omega arith) c.low.ensures c.if-carry-eq0.false c.if-carry-lt4294967296.true in
    (g.0, omega arith, omega arith, λ h. g.1, g.2)

pub returns : goal.returns
returns c =
    let g = grow_two c.args.limbs.now c.times_add-carry.new.limbs c.args.n _ c.times_add-carry.result c.times_add-carry.auto.limbs c.times_add-carry.ensures _ _ c.requires c.low.ensures c.high.ensures (omega arith) in
    (g.0, omega arith, omega arith, λ h. g.1, g.2)
