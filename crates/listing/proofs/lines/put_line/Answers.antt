-- The number, and the columns behind it.
use mathlib.Core.Path.{refl}
use Rattle.listing.proofs.Sinks.{all_left, first_fits, others_left, all_put}
use Rattle.listing.proofs.RecordLines.{line_is}
use Rattle.listing.proofs.lines.put_line.Goals as goal

pub put_decimal-requires : goal.put_decimal-requires
put_decimal-requires g c =
    let w = g.met.S.Sink.laws in
    first_fits w (all_left w _ _ c.requires.room) _ _ (line_is _ _ refl)

pub put_columns-requires : goal.put_columns-requires
put_columns-requires g c =
    let w = g.met.S.Sink.laws in
    (others_left w (all_left w _ _ c.requires.room) _ _ (line_is _ _ c.columns_of.ensures) c.put_decimal.ensures).room

pub returns : goal.returns
returns g c =
    let w = g.met.S.Sink.laws in
    all_put w (others_left w (all_left w _ _ c.requires.room) _ _ (line_is _ _ c.columns_of.ensures) c.put_decimal.ensures) refl c.put_columns.ensures
