-- Each column is read where the record has it.
use mathlib.Core.Path.{◌∙◌}
use Rattle.listing.proofs.Columns.{columns_read}
use Rattle.listing.proofs.lines.columns_of.Goals as goal

pub returns : goal.returns
returns c =
    columns_read _ _ c.figures_at-figures.ensures c.at.ensures (c.from.ensures ∙ c.at-2.ensures) (c.from-2.ensures ∙ c.at-3.ensures) (c.from-3.ensures ∙ c.at-4.ensures) c.milligrams.ensures c.milligrams-2.ensures c.milligrams-3.ensures c.milligrams-4.ensures
