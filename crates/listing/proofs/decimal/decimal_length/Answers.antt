-- The invariant: the divisions made and the digits that are left are the digits of x.
use mathlib.Core.Path.{ap}
use native.Mathlib.Omega.{arith}
use lib.ListN.{length}
use Rattle.listing.proofs.DecimalText.{decimal_last, length_more, decimal_some, decimal_at_most}
use Rattle.listing.proofs.decimal.decimal_length.Goals as goal

pub returns-then-rest-eq0 : goal.returns-then-rest-eq0
returns-then-rest-eq0 c = let l = c.loop-n in omega (arith, ap length (decimal_last l.rest (omega arith)))

pub loop-n-preserved : goal.loop-n-preserved
loop-n-preserved c = let l = c.loop-n in omega (arith, length_more l.rest (omega arith))

pub returns : goal.returns
returns c = omega (arith, decimal_some c.loop-n.rest, decimal_at_most 19 c.args.x (omega arith))
