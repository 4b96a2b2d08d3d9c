-- Zeros are the number 0.
use mathlib.Core.Path.{ap, ◌∙◌}
use Rattle.limbs.specs.Value.{value}
use Rattle.starts.proofs.Start.{value_zeros}
use Rattle.starts.proofs.clear.Goals as goal

pub returns : goal.returns
returns c = ap value (c.fill.ensures.after (λ y e. e)) ∙ value_zeros _
