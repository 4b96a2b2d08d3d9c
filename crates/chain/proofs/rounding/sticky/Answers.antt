-- Each limb is below 2 ^ 32.
use Rattle.std.proofs.Common.{rules}
use Rattle.limbs.proofs.Value.{value_bound}
use Rattle.chain.proofs.rounding.sticky.Goals as goal

pub returns : goal.returns
returns c = (search rules, value_bound _ (λ i. (c.type_inv.limbs i).fits))
