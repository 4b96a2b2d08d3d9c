-- The loop's invariant: the limbs from i on and r are the quotient and the remainder of those at entry.
use Rattle.natural.proofs.Division.{Divided}
use Rattle.natural.proofs.arithmetic.over.Given as goal

abbrev pub invariant-loop-i : goal.invariant-loop-i
invariant-loop-i g l = Divided l.limbs l.initial.limbs (g.D.Divisor.by l.d) l.i l.r
