-- The buffer is lent from its start.
use mathlib.Core.Path.{refl}
use borrow.Author.Rules.{rules}
use Rattle.listing.proofs.Sinks.{written_from_start}
use Rattle.listing.proofs.write_at_start.Goals as goal

pub returns : goal.returns
returns c =
    let w = written_from_start _ c.put_listing.ensures refl in
    (w.at_is, search (rules, w.same_reference, w.bytes_are))
