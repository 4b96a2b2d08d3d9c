-- The value of the digits that are left, behind those before.
use Rattle.std.proofs.Common.{◌≡◌, drop}
use Rattle.cases.specs.Numbers.{value_from, value_in}
use Rattle.cases.proofs.numbers.value_of.Given as goal

abbrev pub invariant-loop-b : goal.invariant-loop-b
invariant-loop-b l = value_from l.base l.x (drop l.b-index l.digits) ≡ value_in l.base l.digits
