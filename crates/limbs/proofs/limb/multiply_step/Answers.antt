-- The two columns of the product, and the carry by its halves.
use Prim.Native.Nat.{◌+◌, ◌*◌, ◌/◌, ◌%◌, ◌^◌, ◌<◌}
use native.Mathlib.Omega.{arith}
use Rattle.limbs.proofs.Steps.{product_fits, carry_fits, multiplied}
use Rattle.limbs.proofs.limb.multiply_step.Goals as goal

-- the whole carry fits, and so does each part of it
fits : (c : goal.After-low) → c.wide-w.result * (c.args.m / 4294967296) + c.args.carry / 4294967296
    + (c.wide-w.result * (c.args.m % 4294967296) + c.args.carry % 4294967296) / 4294967296 < 2 ^ 64
fits c = carry_fits _ _ _ (omega arith) c.ranges.m.fits c.ranges.carry.fits

pub returns : goal.returns
returns c =
    let w = c.wide-w.result in
    let a = c.args in
    rw (c.low.ensures, ← c.wide-w.ensures.0) (multiplied w a.m a.carry)

pub overflow_mul-upper : goal.overflow_mul-upper
overflow_mul-upper c = omega (arith, product_fits c.wide-w.result (c.args.m / 4294967296) 0 (omega arith) (omega arith) (omega arith))

pub overflow_mul-sum : goal.overflow_mul-sum
overflow_mul-sum c = omega (arith, product_fits c.wide-w.result (c.args.m % 4294967296) 0 (omega arith) (omega arith) (omega arith))

pub overflow_add-sum : goal.overflow_add-sum
overflow_add-sum c = record { fits = product_fits _ _ _ (omega arith) (omega arith) (omega arith) }

pub overflow_add-result : goal.overflow_add-result
overflow_add-result c = omega (arith, fits c)

pub overflow_add-result-2 : goal.overflow_add-result-2
overflow_add-result-2 c = record { fits = fits c }
