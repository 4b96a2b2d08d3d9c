-- The sum of kind 5 at the points of paper 01, by computation: `sum_over_lem` (1 + 2 ^ -52), `sum_tie` (1 + 2 ^ -53, a tie that goes to 1),
-- `sum_under` (1 + 2 ^ -54); that of kind 8, which is added once: `two_tie` (1 + 2 ^ -53), `two_over` (1 and the next number above 2 ^ -53). `points` says
-- that the patterns are those of the numbers.
-- The same within whole cases is in `Edges`.
use mathlib.Core.Path.{◌≡◌, refl}
use mathlib.Core.Bool.{true, false}
use mathlib.Core.List.{[], ◌∷◌, map}
use Prim.Native.Nat.{◌+◌, ◌*◌, ◌^◌}
use lib.Ieee.{binary64, of_bits, add, le}
use Rattle.binary64.specs.Quantity.{whole}
use Rattle.kinds.specs.Case.{sum_from, sum_within}
use Rattle.kinds.specs.Builder.{unit, three_quarters, quarter, two_to_minus_52, two_to_minus_53, two_to_minus_54}

-- over 2 ^ 1074
pub points : map whole (unit ∷ three_quarters ∷ quarter ∷ two_to_minus_52 ∷ two_to_minus_53 ∷ (two_to_minus_53 + 1) ∷ two_to_minus_54 ∷ [])
    ≡ 2 ^ 1074 ∷ 3 * 2 ^ 1072 ∷ 2 ^ 1072 ∷ 2 ^ 1022 ∷ 2 ^ 1021 ∷ (2 ^ 1021 + 2 ^ 969) ∷ 2 ^ 1020 ∷ []
unfolding whole
points = refl

pub sum_over_lem : sum_within (map (of_bits binary64) (three_quarters ∷ quarter ∷ two_to_minus_52 ∷ [])) ≡ false
unfolding sum_within sum_from add le of_bits
sum_over_lem = refl

pub sum_tie : sum_within (map (of_bits binary64) (three_quarters ∷ quarter ∷ two_to_minus_53 ∷ [])) ≡ true
unfolding sum_within sum_from add le of_bits
sum_tie = refl

pub sum_under : sum_within (map (of_bits binary64) (three_quarters ∷ quarter ∷ two_to_minus_54 ∷ [])) ≡ true
unfolding sum_within sum_from add le of_bits
sum_under = refl

pub two_tie : sum_within (map (of_bits binary64) (unit ∷ two_to_minus_53 ∷ [])) ≡ true
unfolding sum_within sum_from add le of_bits
two_tie = refl

pub two_over : sum_within (map (of_bits binary64) (unit ∷ (two_to_minus_53 + 1) ∷ [])) ≡ false
unfolding sum_within sum_from add le of_bits
two_over = refl
