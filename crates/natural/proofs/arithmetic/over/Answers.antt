-- The loop's invariant: the limbs from i on and r are the quotient and the remainder of those at entry.
use native.Mathlib.Omega.{arith}
use Rattle.natural.proofs.Division.{divided_start, divided_again}
use Rattle.natural.proofs.arithmetic.over.Goals as goal

pub loop-i-init : goal.loop-i-init
loop-i-init g c = divided_start _ _ c.requires

pub loop-i-preserved : goal.loop-i-preserved
loop-i-preserved g c = divided_again _ _ _ c.loop-i.invariant (omega arith) c.step-s.ensures
