-- `edges_hold`: each edge that paper 01 prints, and of kind 8's sum, has its refusal, by computation on the bytes of the whole case.
-- `told_hold`: each refusal from 1 to 11 and 31 has its number, and of two neighbours the first is told. Further cases run in the program `cases`.
-- That each end of what a kind allows is allowed, and nothing beyond, is `accepted_exactly`, in `Ranges`.
use mathlib.Core.Path.{◌≡◌, refl}
use mathlib.Core.List.{List, map}
use lib.Ieee.{of_bits, add, le}
use Rattle.octets.specs.Bytes.{bytes_of, number_at}
use Rattle.binary64.specs.Pattern.{is_unsigned_finite}
use Rattle.binary64.specs.Quantity.{whole}
use Rattle.kinds.specs.Polymers.{polymers, usages_of, usage_at}
use Rattle.kinds.specs.Case.{kind_at, not_sixty_four, kind_unknown, row_unknown, route_not_allowed, user_not_allowed, usage_missing, count_not_allowed, not_number, not_zero_bytes, over_limit, sum_from, sum_within, summed_of, sum_over, refusal_of}
use Rattle.kinds.specs.Builder.{case_bytes}
use Rattle.kinds.specs.Edges.{Edge, edges, told}

abbrev pub Hold : List Edge → Type 0
Hold es = map (λ (e : Edge). refusal_of e.case) es ≡ map (λ (e : Edge). e.refusal) es

computed : Hold edges × Hold told
unfolding case_bytes bytes_of number_at kind_at not_sixty_four kind_unknown row_unknown route_not_allowed user_not_allowed usage_missing usage_at usages_of polymers count_not_allowed not_number is_unsigned_finite not_zero_bytes over_limit whole sum_over summed_of sum_within sum_from add le of_bits refusal_of
computed = (refl, refl)

pub edges_hold : Hold edges
edges_hold = computed.0

pub told_hold : Hold told
told_hold = computed.1
