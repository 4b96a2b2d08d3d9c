-- `worked_examples`: what paper 01 prints of P1 to P10 holds of the equations and the ranges, by one computed test over the whole table.
-- `second_route`: kinds 1 to 3 by the separated rain sewer, which none of them takes, likewise.
use mathlib.Core.Path.{◌≡◌, refl}
use mathlib.Core.Bool.{Bool, true, ◌&&◌}
use mathlib.Core.List.{List}
use Prim.Native.Nat.{ℕ}
use lib.Dec.{eqb}
use lib.Ieee.{add, le, of_bits, to_bits}
use lib.ListN.{get_or}
use borrow.Author.Tests.{eqb-true}
use Rattle.octets.specs.Bytes.{bytes_of, number_of, number_at}
use Rattle.binary64.specs.Pattern.{is_unsigned_finite}
use Rattle.binary64.specs.Quantity.{whole_at, whole}
use Rattle.octets.proofs.Bools.{both, every}
use Rattle.kinds.specs.Polymers.{polymers, usages_of, usage_at}
use Rattle.kinds.specs.Case.{kinds, kind_at, not_sixty_four, kind_unknown, row_unknown, route_not_allowed, user_not_allowed, usage_missing, count_not_allowed, not_number, not_zero_bytes, over_limit, sum_from, sum_within, summed_of, sum_over, refusal_of}
use Rattle.scenario.specs.Decoding.{case_with, case_of_patterns, head_of}
use Rattle.kinds.specs.Builder.{case_bytes}
use Rattle.product.specs.Ratio.{Ratio}
use Rattle.product.specs.Chain.{chain}
use Rattle.equations.specs.Rows.{cities, city_at, hygienes, hygiene_at}
use Rattle.equations.specs.Equations.{total, emitted}
use Rattle.equations.specs.RowExamples.{nothing, All}
use Rattle.equations.proofs.Examples.{same, same_by_test, all_by_test}
use Rattle.emission.specs.Figures.{exact_values}
use Rattle.emission.specs.WorkedExamples.{Expected, refused, exact, Example, examples, second_routes, Gives, Holds}

-- ── what an example says, as a test

abbrev same_at : List Ratio → List Ratio → ℕ → Bool
same_at ps qs i = same (get_or ps i nothing) (get_or qs i nothing)

gives : List ℕ → Expected → Bool
gives b (refused n) = eqb (refusal_of b) n
gives b (exact ps) = let v = exact_values b in eqb (refusal_of b) 0 && (same_at v ps 0 && (same_at v ps 1 && (same_at v ps 2 && same_at v ps 3)))

given : (b : List ℕ) (x : Expected) → gives b x ≡ true → Gives b x
unfolding Gives gives
given b (refused n) e = eqb-true (refusal_of b) n e
given b (exact ps) e =
    let v = exact_values b in
    let r = both (eqb (refusal_of b) 0) (same_at v ps 0 && (same_at v ps 1 && (same_at v ps 2 && same_at v ps 3))) e in
    let x = both (same_at v ps 0) (same_at v ps 1 && (same_at v ps 2 && same_at v ps 3)) r.1 in
    let y = both (same_at v ps 1) (same_at v ps 2 && same_at v ps 3) x.1 in
    let z = both (same_at v ps 2) (same_at v ps 3) y.1 in
    (eqb-true (refusal_of b) 0 r.0, same_by_test _ _ x.0, same_by_test _ _ y.0, same_by_test _ _ z.0, same_by_test _ _ z.1)

holds : Example → Bool
unfolding gives
holds e = gives e.case e.expected

by_test : (es : List Example) → every holds es ≡ true → All Holds es
unfolding Holds holds
by_test = all_by_test holds Holds (λ e. given e.case e.expected)

-- ── the tables

computed : (every holds examples ≡ true) × (every holds second_routes ≡ true)
unfolding every holds gives same examples second_routes case_bytes bytes_of exact_values emitted chain total cities city_at hygienes hygiene_at case_of_patterns case_with head_of number_at number_of refusal_of not_sixty_four kind_unknown row_unknown route_not_allowed user_not_allowed usage_missing usage_at usages_of polymers count_not_allowed not_number not_zero_bytes over_limit sum_from sum_within summed_of sum_over kinds kind_at is_unsigned_finite whole whole_at add le of_bits to_bits
computed = (refl, refl)

pub worked_examples : All Holds examples
worked_examples = by_test examples computed.0

pub second_route : All Holds second_routes
second_route = by_test second_routes computed.1
