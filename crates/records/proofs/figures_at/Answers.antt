-- Four reads, at the places where a record has its figures.
use native.Mathlib.Omega.{arith}
use Rattle.std.proofs.lemmas.Grind.{common_steps}
use Rattle.records.proofs.RecordLaws.{line_figures}
use Rattle.records.proofs.figures_at.Goals as goal

pub returns : goal.returns
returns c = rw line_figures (grind (arith, common_steps))
