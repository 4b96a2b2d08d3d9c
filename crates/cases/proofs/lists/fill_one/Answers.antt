-- The case of which the dossier number alone is not fixed, and its figures.
use mathlib.Core.Path.{ap, ◌∙◌}
use Rattle.records.specs.Buffer.{written}
use Rattle.cases.proofs.CallLaws.{grown_case}
use Rattle.cases.proofs.lists.fill_one.Goals as goal

pub returns : goal.returns
returns c =
    c.put_line.ensures ∙ ap (written _ _) (grown_case _ c.put.ensures)
