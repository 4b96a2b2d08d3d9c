-- The definition.
use Rattle.kinds.specs.Case.{not_number}
use Rattle.scenario.specs.Faults.{add_faults}
use Rattle.scenario.proofs.quantities.Faults.with.Goals as goal

pub returns : goal.returns
unfolding not_number add_faults
returns c = rw c.is_unsigned_finite.ensures
