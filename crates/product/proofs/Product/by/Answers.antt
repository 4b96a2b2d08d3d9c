-- The loop's invariant: the product so far times the quantities that are left is the whole product.
use native.Mathlib.Omega.{arith}
use lib.Pow.{pow_pos}
use Rattle.product.specs.Held.{held}
use Rattle.product.proofs.Limbs.{each_at, product_again, product_done}
use Rattle.product.proofs.Product.by.Goals as goal

pub dyadic_of-q-requires : goal.dyadic_of-q-requires
dyadic_of-q-requires c = each_at _ c.loop-x.x-index _ c.requires.3 (omega arith)

pub loop-x-preserved : goal.loop-x-preserved
loop-x-preserved c =
    let v = c.loop-x.invariant in
    (omega arith, omega arith, omega arith, product_again _ (held c.args.self.now) (held c.loop-x.self) _ _ _ _ c.loop-x.x-index _ (omega arith) (pow_pos c.loop-x.self.depth) v.3 c.dyadic_of-q.ensures.0 c.times.ensures.0)

pub returns : goal.returns
returns c =
    let v = c.loop-x.invariant in
    (product_done _ (held c.args.self.now) (held c.loop-x.self) c.loop-x.x-index (omega arith) (omega arith) v.3, omega arith, omega arith, omega arith)
