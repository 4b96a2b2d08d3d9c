-- 2 ^ depth less the significand.
use native.Mathlib.Omega.{arith}
use Rattle.product.proofs.Limbs.{up_to_largest}
use Rattle.product.proofs.Starts.{complement_fits, start_remainder}
use Rattle.product.proofs.Product.one_less.Goals as goal

pub dyadic_of-q-requires : goal.dyadic_of-q-requires
dyadic_of-q-requires c = up_to_largest _ 1 c.requires.1 (omega arith)

pub complement-count-requires : goal.complement-count-requires
complement-count-requires c =
    (omega arith, complement_fits _ _ c.dyadic_of-q.result.depth c.requires.1 c.dyadic_of-q.ensures.0)

pub returns : goal.returns
returns c =
    let q = c.dyadic_of-q in
    (start_remainder c.args.x q.result.significand _ q.result.depth c.requires.1 q.ensures.0 c.complement-count.ensures.0, omega arith, omega arith, c.complement-count.auto.limbs)
