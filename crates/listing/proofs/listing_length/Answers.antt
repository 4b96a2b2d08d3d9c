-- Every listing can be counted.
use native.Mathlib.Omega.{arith}
use Rattle.listing.proofs.Whole.{listing_at_most}
use Rattle.listing.proofs.listing_length.Goals as goal

pub put_listing-requires : goal.put_listing-requires
put_listing-requires c = omega (arith, listing_at_most c.args.archive.now (λ i. (c.type_inv.archive i).fits))
