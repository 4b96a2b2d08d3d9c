-- The loop's invariant: the limbs below the index and the carry are the product of those at entry, and `more`.
use mathlib.Core.Path.{◌∙◌}
use native.Mathlib.Omega.{arith}
use Rattle.natural.proofs.Carry.{start, carried_again}
use Rattle.natural.proofs.arithmetic.times_add.Goals as goal

pub loop-x-init : goal.loop-x-init
loop-x-init c = start _ _ _ _ (omega arith)

pub loop-x-preserved : goal.loop-x-preserved
loop-x-preserved c = carried_again c.loop-x.carry _ _ 0 _ c.loop-x.invariant (omega arith) (c.multiply_step-s.ensures ∙ omega arith) (omega arith)
