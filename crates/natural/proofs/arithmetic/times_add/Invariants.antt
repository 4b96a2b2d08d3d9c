-- The loop's invariant: the limbs below the index and the carry are the product of those at entry, and `more`.
use Rattle.natural.proofs.Carry.{Carried}
use Rattle.natural.proofs.arithmetic.times_add.Given as goal

abbrev pub invariant-loop-x : goal.invariant-loop-x
invariant-loop-x l = Carried l.limbs l.initial.limbs l.m l.x-index l.carry l.more
