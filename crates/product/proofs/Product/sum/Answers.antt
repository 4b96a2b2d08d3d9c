-- Both over the deeper power of two.
use native.Mathlib.Omega.{arith}
use Rattle.product.proofs.Starts.{start_sum}
use Rattle.product.proofs.Product.sum.Goals as goal

pub returns : goal.returns
returns c =
    let p = c.dyadic_of-p in
    let q = c.dyadic_of-q in
    (start_sum c.args.a c.args.b _ p.result.depth _ q.result.depth c.larger-depth.result _ (omega arith) (omega arith) p.ensures.0 q.ensures.0 c.sum-count.ensures.0, omega arith, omega arith, c.sum-count.auto.limbs)
