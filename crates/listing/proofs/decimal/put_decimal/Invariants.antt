-- The invariant: the digits that are left, over the bytes as they are, make the number that is asked.
use mathlib.Core.Path.{◌≡◌}
use Prim.Native.Nat.{◌+◌}
use lib.ListN.{length}
use Rattle.octets.specs.Bytes.{splice}
use Rattle.listing.specs.Decimal.{decimal}
use Rattle.listing.proofs.decimal.put_decimal.Given as goal

abbrev pub invariant-loop-place : goal.invariant-loop-place
invariant-loop-place l =
    (l.place ≡ l.at + length (decimal l.rest)) × (length l.out ≡ length l.initial.out) × (splice l.out l.at (decimal l.rest) ≡ splice l.initial.out l.at (decimal l.x))
