-- A shift is the quotient by 2 ^ s, and the mask its remainder.
use mathlib.Core.Path.{◌∙◌}
use native.Mathlib.Omega.{arith}
use Rattle.limbs.proofs.Steps.{shift_fits, shifted}
use Rattle.limbs.proofs.limb.shift_step.Goals as goal

pub returns : goal.returns
returns c =
    shifted _ _ _ _ _ _ c.wide.ensures.0 c.wide-2.ensures.0 (c.wide-p.ensures.0 ∙ c.power.ensures)

pub overflow_cast-result-2 : goal.overflow_cast-result-2
overflow_cast-result-2 c = record { fits = shift_fits _ _ _ (omega arith) (omega arith) }

pub overflow_cast-result-3 : goal.overflow_cast-result-3
overflow_cast-result-3 c = omega (arith, (returns c).1)
