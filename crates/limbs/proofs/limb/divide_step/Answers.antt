-- The quotient fits a limb because the remainder above is below the divisor.
use native.Mathlib.Omega.{arith}
use Rattle.limbs.proofs.Steps.{quotient_fits, divided}
use Rattle.limbs.proofs.limb.divide_step.Goals as goal

pub returns : goal.returns
returns c = divided _ _ _ _ _ _ c.wide.ensures.0 c.wide-2.ensures.0 c.wide-w.ensures.0 c.requires

pub overflow_cast-result : goal.overflow_cast-result
overflow_cast-result c = record { fits = quotient_fits _ _ _ (omega arith) (omega arith) }

pub overflow_cast-result-2 : goal.overflow_cast-result-2
overflow_cast-result-2 c = omega (arith, (returns c).1)
