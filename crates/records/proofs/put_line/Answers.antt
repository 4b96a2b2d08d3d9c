-- The case, its figures and the trailer, each behind the one before.
use borrow.Author.Rules.{rules}
use Rattle.records.proofs.Writing.{line_written}
use Rattle.records.proofs.put_line.Goals as goal

pub returns : goal.returns
returns c =
    line_written _ _ c.args.case.now c.args.figures (search rules) (search rules) c.requires.0 c.put_bytes.ensures c.put_figures.ensures c.put_trailer.ensures
