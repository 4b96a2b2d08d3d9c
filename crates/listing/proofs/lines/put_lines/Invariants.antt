-- The invariant: the lines from record k on are left.
use mathlib.Core.List.{map}
use lib.ListN.{drop}
use Rattle.records.specs.Layout.{line_of}
use Rattle.listing.specs.Listing.{lines_text}
use Rattle.listing.proofs.Sinks.{Left}
use Rattle.listing.proofs.lines.put_lines.Given as goal

abbrev pub invariant-loop-k : goal.invariant-loop-k
invariant-loop-k g l =
    let lines = map line_of l.records in
    Left g.S.Sink.after g.S.Sink.takes l.initial.to l.to (lines_text 0 lines) (lines_text l.k (drop l.k lines))
