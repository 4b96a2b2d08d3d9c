-- The invariant: the lines from record k on are left.
use Rattle.listing.proofs.Sinks.{all_left, first_fits, others_left, none_left}
use Rattle.listing.proofs.RecordLines.{lines_step, lines_end}
use Rattle.listing.proofs.lines.put_lines.Goals as goal

pub loop-k-init : goal.loop-k-init
loop-k-init g c = all_left g.met.S.Sink.laws _ _ c.requires.room

pub put_line-requires-clause-room : goal.put_line-requires-clause-room
put_line-requires-clause-room g c = first_fits g.met.S.Sink.laws c.loop-k.invariant _ _ (lines_step _ _ _ c.loop-k-test.true c.index-records-k.is)

pub loop-k-preserved : goal.loop-k-preserved
loop-k-preserved g c = others_left g.met.S.Sink.laws c.loop-k.invariant _ _ (lines_step _ _ _ c.loop-k-test.true c.index-records-k.is) c.put_line.ensures

pub returns : goal.returns
returns g c = none_left g.met.S.Sink.laws c.loop-k.invariant (lines_end _ _ c.loop-k-test.false)
