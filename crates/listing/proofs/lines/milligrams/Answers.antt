-- std's quotient rounded up is the definition's.
use mathlib.Core.Path.{◌∙◌}
use Rattle.listing.proofs.Columns.{milligrams_are}
use Rattle.listing.proofs.lines.milligrams.Goals as goal

pub returns : goal.returns
returns c = c.div_ceil.ensures ∙ milligrams_are _
