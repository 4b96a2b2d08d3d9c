-- Of toilets: what the equation returns is the case's.
use mathlib.Core.Path.{◌∙◌}
use Rattle.equations.specs.Equations.{emitted}
use Rattle.equations.specs.Ranges.{InRange}
use Rattle.emission.proofs.emissions_of.Goals as goal

pub returns-in-Toilets : goal.returns-in-Toilets
unfolding InRange emitted
returns-in-Toilets c = rw c.in-Toilets.is (c.only_water-in-Toilets.ensures.0 ∙ c.toilets.ensures, c.only_water-in-Toilets.ensures.1, c.only_water-in-Toilets.ensures.2)
