-- No lower number of an exact value is 0.
--   positive_emitted    of the emissions of a case in range
--   lower_not_zero      of the four exact values of a case without refusal
use mathlib.Core.Path.{◌≡◌, refl}
use mathlib.Core.Bool.{Bool, true, ◌&&◌}
use mathlib.Core.List.{List, [], ◌∷◌}
use Prim.Native.Nat.{ℕ, ◌-◌, ◌≤◌, ◌<◌}
use native.Mathlib.Omega.{arith}
use lib.Dec.{leb}
use lib.ListN.{get_or}
use lib.Ieee.{Float}
use borrow.Author.Tests.{leb-true}
use Rattle.kinds.specs.Case.{refusal_of}
use Rattle.kinds.specs.Polymers.{usage_at}
use Rattle.scenario.specs.Decoding.{case_of, head_of}
use Rattle.scenario.specs.declared.Case.{Case}
use Rattle.scenario.specs.declared.Case.TheVariants.{Measured, Unknown, Application, Sanitary, Formulation, Hygiene, Toilets, Plastics}
use Rattle.scenario.specs.declared.Head.{Head}
use Rattle.octets.proofs.Bools.{both, every, every_at}
use Rattle.product.specs.Ratio.{◌over◌}
use Rattle.equations.specs.Rows.{cities, no_city, city_at, hygienes, no_hygiene, hygiene_at}
use Rattle.product.specs.Chain.{Factor, number, quantity}
use Rattle.equations.specs.Equations.{emitted, measured_at, unknown_at, application, application_at, formulation, consumption_at, plastics_at, to_water, to_air, to_soil}
use Rattle.emission.specs.Figures.{exact_values}
use Rattle.equations.specs.Ranges.{InRange}
use Rattle.equations.specs.Constants.{numbers}
use Rattle.equations.proofs.Chains.{AllPositive, emission_positive}
use Rattle.equations.proofs.Tables.{older_positive}
use Rattle.emission.proofs.InRanges.{in_range}
use Rattle.emission.proofs.Cases.{by_row, with_loss, with_usage, OfAll, alone, each_value}

-- ── the rows of the paper: one computed test over each table

positive : List (List Factor) → Bool
positive [] = true
positive (l ∷ ls) = leb 1 (numbers l).lower && positive ls

all_positive : (ls : List (List Factor)) → positive ls ≡ true → AllPositive ls
unfolding AllPositive positive
all_positive [] e = tt
all_positive (l ∷ ls) e = let t = both (leb 1 (numbers l).lower) (positive ls) e in (leb-true 1 (numbers l).lower t.0, all_positive ls t.1)

measured_rows : (a b c : Float) (row : ℕ) → AllPositive (measured_at a b c (city_at row))
unfolding positive every cities city_at numbers
measured_rows a b c row = all_positive (measured_at a b c (city_at row)) (every_at (λ r. positive (measured_at a b c r)) (no_city ∷ cities) no_city refl refl row)

unknown_rows : (a c : Float) (row : ℕ) → AllPositive (unknown_at a c (city_at row))
unfolding positive every cities city_at numbers
unknown_rows a c row = all_positive (unknown_at a c (city_at row)) (every_at (λ r. positive (unknown_at a c r)) (no_city ∷ cities) no_city refl refl row)

application_rows : (a : Float) (n row : ℕ) → AllPositive (application_at a (number n 100) (city_at row))
unfolding positive every cities city_at numbers
application_rows a n row = all_positive (application_at a (number n 100) (city_at row)) (every_at (λ r. positive (application_at a (number n 100) r)) (no_city ∷ cities) no_city refl refl row)

consumption_rows : (a b : Float) (row : ℕ) → AllPositive (consumption_at a b (hygiene_at row))
unfolding positive every hygienes hygiene_at numbers
consumption_rows a b row = all_positive (consumption_at a b (hygiene_at row)) (every_at (λ r. positive (consumption_at a b r)) (no_hygiene ∷ hygienes) no_hygiene refl refl row)

-- ── each kind

by_formulation : (a b x : Float) (t : ℕ) → 1 ≤ t → AllPositive (formulation a b x t)
unfolding AllPositive numbers
by_formulation a b x t h = (omega arith, tt)

positive_emitted : (k : Case) (h : Head) → InRange k h → OfAll AllPositive (emitted k h)
unfolding InRange emitted AllPositive numbers
positive_emitted (Measured a b c s) h r =
    alone (by_row AllPositive h.row _ _ (λ z. let l = r.1 z in (omega arith, (older_positive h.count (h.count - 30) (omega arith) (omega arith), tt))) (measured_rows a b c h.row))
positive_emitted (Unknown a c s) h r = alone (by_row AllPositive h.row _ _ (λ z. let l = r.1 z in (omega arith, tt)) (unknown_rows a c h.row))
positive_emitted (Application a s) h r =
    alone (by_row AllPositive h.row _ _ (λ z. with_loss AllPositive h.user (λ B. application a (quantity s.area) (quantity s.volume) (quantity s.density) B h.count) (omega arith, tt) (omega arith, tt))
    (with_loss AllPositive h.user (λ B. application_at a B (city_at h.row)) (application_rows a 3 h.row) (application_rows a 5 h.row)))
positive_emitted (Sanitary a b c) h r = let d = by_row (λ t. 1 ≤ t) h.row h.count 260 r.0 (omega arith) in alone (omega arith, tt)
positive_emitted (Formulation a b c d e) h r = (by_formulation a b c h.count r.0, by_formulation a b d h.count r.0, by_formulation a b e h.count r.0)
positive_emitted (Hygiene a b g m s) h r = alone (by_row AllPositive h.row _ _ (λ z. (omega arith, tt)) (consumption_rows a b h.row))
positive_emitted (Toilets a b c d e) h r = alone (omega arith, tt)
positive_emitted (Plastics a b c) h r =
    let t = r.0 in
    let to : (x : Float) → AllPositive (plastics_at (usage_at h.row h.user) a x h.count) =
    (λ x. with_usage AllPositive h.row h.user a x h.count tt (λ q l. (omega arith, tt))) in
    (to c, to b, tt)

-- ── the four exact values

pub lower_not_zero : (b : List ℕ) → refusal_of b ≡ 0 → (i : ℕ) → i < 4 → 0 < (get_or (exact_values b) i (0 over 1)).lower
lower_not_zero b none =
    let k = case_of b in
    let h = head_of b in
    let p = positive_emitted k h (in_range b none) in
    each_value (λ p. 0 < p.lower) b (omega arith) (emission_positive (to_water k h) p.0, emission_positive (to_air k h) p.1, emission_positive (to_soil k h) p.2)
