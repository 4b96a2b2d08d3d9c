-- The figures of a record stand from byte 64 on.
use mathlib.Core.Path.{sym, ◌∙◌}
use native.Mathlib.Omega.{arith}
use Rattle.records.proofs.WorstScan.{one_of_four, figure_read}
use Rattle.records.proofs.search.figure_at.Goals as goal

pub returns : goal.returns
returns c =
    let m = one_of_four c.args.compartment in
    rw c.number.ensures at c.at.ensures ∙ sym (figure_read _ _ _ _ (omega arith) m.0 m.1)
