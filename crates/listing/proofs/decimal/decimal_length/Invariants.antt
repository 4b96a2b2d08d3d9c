-- The invariant: the divisions made and the digits that are left are the digits of x.
use mathlib.Core.Path.{◌≡◌}
use Prim.Native.Nat.{◌+◌}
use lib.ListN.{length}
use Rattle.listing.specs.Decimal.{decimal}
use Rattle.listing.proofs.decimal.decimal_length.Given as goal

abbrev pub invariant-loop-n : goal.invariant-loop-n
invariant-loop-n l = l.n + length (decimal l.rest) ≡ 1 + length (decimal l.x)
