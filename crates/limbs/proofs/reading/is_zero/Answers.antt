-- The number is 0 where no limb is in use.
use Rattle.limbs.proofs.Held.{zero_unused}
use Rattle.limbs.proofs.reading.is_zero.Goals as goal

pub returns : goal.returns
returns c = zero_unused _ c.in_use.result c.in_use.ensures
