-- The length that is needed decides.
use Rattle.listing.proofs.Whole.{listed_written, listed_needs}
use Rattle.listing.proofs.print.Goals as goal

pub returns-then-out-needed : goal.returns-then-out-needed
returns-then-out-needed c = listed_needs _ _ c.listing_length-needed.ensures c.if-out-needed.true

pub returns : goal.returns
returns c =
    listed_written _ _ c.listing_length-needed.ensures c.if-out-needed.false c.write_at_start.ensures.1
