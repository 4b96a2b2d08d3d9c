-- By the usage on site: nothing, or the parts to water and to air.
use mathlib.Core.Path.{sym, ◌∙◌}
use borrow.Author.Rules.{rules}
use Rattle.kinds.proofs.UsageTable.{usage_small}
use Rattle.equations.specs.Equations.{emitted}
use Rattle.equations.specs.Ranges.{Within, InRange}
use Rattle.equations.proofs.Chains.{no_equation}
use Rattle.equations.proofs.plastics.Goals as goal

pub plastics_part-requires : goal.plastics_part-requires
unfolding InRange Within
plastics_part-requires c =
    let p = c.requires in
    let air = p.1.1.0 in
    let water = p.1.1.1.0 in
    (usage_small _ _ _ (sym c.usage_of.ensures ∙ c.in-Some.is), p.0, (p.1.0, (search rules, tt)))

pub plastics_part-requires-in-Some : goal.plastics_part-requires-in-Some
unfolding InRange Within
plastics_part-requires-in-Some c =
    let p = c.requires in
    let air = p.1.1.0 in
    let water = p.1.1.1.0 in
    (usage_small _ _ _ (sym c.usage_of.ensures ∙ c.in-Some.is), p.0, (p.1.0, (search rules, tt)))

pub returns-in-None : goal.returns-in-None
unfolding emitted
returns-in-None c = rw (← c.usage_of.ensures, c.in-None.is) (no_equation, no_equation, no_equation)

pub returns-in-Some : goal.returns-in-Some
unfolding emitted
returns-in-Some c =
    rw (← c.usage_of.ensures, c.in-Some.is) (c.plastics_part.ensures, c.plastics_part-in-Some.ensures, no_equation)
