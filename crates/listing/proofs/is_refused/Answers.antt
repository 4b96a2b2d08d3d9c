-- The two tests are those of the definition.
use Rattle.listing.specs.Listing.{refused}
use Rattle.listing.proofs.is_refused.Goals as goal

pub returns : goal.returns
unfolding refused
returns c = rw c.is_broken.ensures
