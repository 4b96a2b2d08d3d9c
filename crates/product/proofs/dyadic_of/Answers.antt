-- By the pattern's significand and shift, which is at most 1074 for a quantity within the limits.
use Rattle.product.proofs.Limbs.{shift_at_most, dyadic}
use Rattle.product.proofs.dyadic_of.Goals as goal

pub overflow_sub-result : goal.overflow_sub-result
overflow_sub-result c =
    shift_at_most c.args.x _ _ c.requires c.pattern_of.ensures c.parts_of-p.ensures.parts.1

pub returns : goal.returns
returns c =
    dyadic c.args.x _ _ c.requires c.pattern_of.ensures c.parts_of-p.ensures.parts.1 _ c.parts_of-p.ensures.exact
