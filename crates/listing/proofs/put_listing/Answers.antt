-- The listing by cases: the refusal, or the header and the lines behind it.
use mathlib.Core.Path.{refl, sym}
use native.Mathlib.Omega.{arith}
use Rattle.listing.specs.Listing.{codes, header, refusal}
use Rattle.listing.proofs.Sinks.{all_left, first_fits, others_left, last_fits, all_put}
use Rattle.listing.proofs.Whole.{listing_refused, listing_records}
use Rattle.listing.proofs.put_listing.Goals as goal

pub put-requires : goal.put-requires
unfolding codes refusal
put-requires g c =
    let w = g.met.S.Sink.laws in
    last_fits w (all_left w c.args.to.now _ c.requires) (listing_refused _ (sym c.if-is_refused.ensures))

pub returns-then-is_refused : goal.returns-then-is_refused
unfolding codes refusal
returns-then-is_refused g c =
    let w = g.met.S.Sink.laws in
    all_put w (all_left w c.args.to.now _ c.requires) (listing_refused _ (sym c.if-is_refused.ensures)) c.put.ensures

pub put-requires-2 : goal.put-requires-2
unfolding codes header
put-requires-2 g c =
    let w = g.met.S.Sink.laws in
    first_fits w (all_left w c.args.to.now _ c.requires) header _ (listing_records _ (sym c.if-is_refused.ensures) refl)

pub put_lines-requires : goal.put_lines-requires
unfolding codes header
put_lines-requires g c =
    let w = g.met.S.Sink.laws in
    let lines = listing_records _ (sym c.if-is_refused.ensures) c.as_chunks.ensures.front in
    (omega arith, (omega arith, (others_left w (all_left w c.args.to.now _ c.requires) header _ lines c.put-2.ensures).room))

pub returns : goal.returns
unfolding codes header
returns g c =
    let w = g.met.S.Sink.laws in
    let lines = listing_records _ (sym c.if-is_refused.ensures) c.as_chunks.ensures.front in
    all_put w (others_left w (all_left w c.args.to.now _ c.requires) header _ lines c.put-2.ensures) refl c.put_lines.ensures
