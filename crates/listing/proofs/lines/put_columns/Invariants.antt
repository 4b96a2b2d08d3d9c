-- The invariant: the columns from the next on are left.
use lib.ListN.{drop}
use Rattle.listing.specs.Listing.{columns_text}
use Rattle.listing.proofs.Sinks.{Left}
use Rattle.listing.proofs.lines.put_columns.Given as goal

abbrev pub invariant-loop-column : goal.invariant-loop-column
invariant-loop-column g l = Left g.S.Sink.after g.S.Sink.takes l.initial.to l.to (columns_text l.columns) (columns_text (drop l.column-index l.columns))
