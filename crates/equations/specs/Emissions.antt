-- The emissions of a case as the code has them.
use Rattle.std.specs.Prelude.{◌≡◌}
use Rattle.scenario.specs.declared.Case.{Case}
use Rattle.scenario.specs.declared.Head.{Head}
use Rattle.product.specs.Ratio.{rounded_up}
use Rattle.equations.specs.Equations.{to_water, to_air, to_soil, micrograms}
use Rattle.equations.specs.declared.Emissions.{Emissions}

-- e are those of case k: each in micrograms, rounded up
abbrev pub EmissionsOf : Case → Head → Emissions → Type 0
EmissionsOf k h e =
    (e.water ≡ rounded_up (micrograms (to_water k h)))
    × (e.air ≡ rounded_up (micrograms (to_air k h)))
    × (e.soil ≡ rounded_up (micrograms (to_soil k h)))
