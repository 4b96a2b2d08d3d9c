-- The invariant: the columns from the next on are left.
use mathlib.Core.Path.{refl}
use mathlib.Core.List.{[], ◌∷◌}
use Rattle.listing.specs.Listing.{space}
use Rattle.listing.proofs.Sinks.{all_left, first_fits, others_left, last_fits, all_put}
use Rattle.listing.proofs.Columns.{columns_step, columns_end}
use Rattle.listing.proofs.lines.put_columns.Goals as goal

pub loop-column-init : goal.loop-column-init
loop-column-init g c = all_left g.met.S.Sink.laws _ _ c.requires

pub put-requires : goal.put-requires
put-requires g c = first_fits g.met.S.Sink.laws c.loop-column.invariant (space ∷ []) _ (columns_step _ _ c.loop-column-test.true)

pub put_decimal-requires : goal.put_decimal-requires
put_decimal-requires g c =
    let w = g.met.S.Sink.laws in
    first_fits w (others_left w c.loop-column.invariant (space ∷ []) _ (columns_step _ _ c.loop-column-test.true) c.put.ensures) _ _ refl

pub loop-column-preserved : goal.loop-column-preserved
loop-column-preserved g c =
    let w = g.met.S.Sink.laws in
    others_left w (others_left w c.loop-column.invariant (space ∷ []) _ (columns_step _ _ c.loop-column-test.true) c.put.ensures) _ _ refl c.put_decimal.ensures

pub put-requires-2 : goal.put-requires-2
put-requires-2 g c = last_fits g.met.S.Sink.laws c.loop-column.invariant (columns_end _ _ c.loop-column-test.false)

pub returns : goal.returns
returns g c = all_put g.met.S.Sink.laws c.loop-column.invariant (columns_end _ _ c.loop-column-test.false) c.put-2.ensures
