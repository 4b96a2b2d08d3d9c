-- The record's case and figures are those of its line.
use Rattle.cases.proofs.CallLaws.{record_put}
use Rattle.cases.proofs.lists.record.Goals as goal

pub returns : goal.returns
returns c =
    let same = (rw c.unwrap-case.ensures at c.as_array.ensures.cases).same in
    record_put _ _ _ c.if-used-gt682.false c.if-archive-n.false c.figures_at.ensures (rw same at c.put_line.ensures)
