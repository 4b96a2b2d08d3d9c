-- Each field by one read.
use Rattle.scenario.specs.Decoding.{head_of}
use Rattle.scenario.proofs.fields.head_at.Goals as goal

pub returns : goal.returns
unfolding head_of
returns c = rw (c.at-2.ensures, c.at.ensures)
