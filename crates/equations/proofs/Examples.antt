-- `row_examples_lem`: each case worked by pencil has its values by the equations, by one computed test over the whole table; so a number, a row or a user
-- that is wrong in definition and program alike is refused.
-- For a table of examples: `same`, `same_by_test` (equal in value, as a test), `all_by_test` (each entry, by a test of the whole table).
use mathlib.Core.Path.{◌≡◌, refl}
use mathlib.Core.Bool.{Bool, true, ◌&&◌}
use mathlib.Core.List.{List, [], ◌∷◌}
use Prim.Native.Nat.{◌*◌}
use lib.Dec.{eqb}
use lib.Ieee.{add, le, of_bits, to_bits}
use borrow.Author.Tests.{eqb-true}
use Rattle.octets.specs.Bytes.{bytes_of, number_of, number_at}
use Rattle.binary64.specs.Pattern.{is_unsigned_finite}
use Rattle.binary64.specs.Quantity.{whole_at, whole}
use Rattle.octets.proofs.Bools.{both, every}
use Rattle.kinds.specs.Polymers.{polymers, usages_of, usage_at}
use Rattle.kinds.specs.Case.{kinds, kind_at, not_sixty_four, kind_unknown, row_unknown, route_not_allowed, user_not_allowed, usage_missing, count_not_allowed, not_number, not_zero_bytes, over_limit, sum_from, sum_within, summed_of, sum_over, refusal_of}
use Rattle.scenario.specs.Decoding.{case_with, case_of_patterns, case_of, head_of}
use Rattle.kinds.specs.Builder.{case_bytes}
use Rattle.product.specs.Ratio.{Ratio, Same}
use Rattle.product.specs.Chain.{chain}
use Rattle.equations.specs.Rows.{cities, city_at, hygienes, hygiene_at}
use Rattle.equations.specs.Equations.{total, emitted, to_water, to_air, to_soil, micrograms}
use Rattle.equations.specs.RowExamples.{RowExample, row_examples, Worked, All}

-- ── examples by a test

unfoldable pub same : Ratio → Ratio → Bool
same p q = eqb (p.upper * q.lower) (q.upper * p.lower)

pub same_by_test : (p q : Ratio) → same p q ≡ true → Same p q
unfolding same
same_by_test p q e = eqb-true (p.upper * q.lower) (q.upper * p.lower) e

pub all_by_test : {A : Type 0} (test : A → Bool) (P : A → Type 0) → ((x : A) → test x ≡ true → P x) → (xs : List A) → every test xs ≡ true → All P xs
unfolding All every
all_by_test test P h [] t = tt
all_by_test test P h (x ∷ xs) t = let p = both (test x) (every test xs) t in (h x p.0, all_by_test test P h xs p.1)

-- ── the cases of each row

worked : RowExample → Bool
unfolding same
worked e =
    let k = case_of e.case in
    let h = head_of e.case in
    eqb (refusal_of e.case) 0 && (same (micrograms (to_water k h)) e.water && (same (micrograms (to_air k h)) e.air && same (micrograms (to_soil k h)) e.soil))

worked_by_test : (e : RowExample) → worked e ≡ true → Worked e
unfolding Worked worked
worked_by_test e t =
    let k = case_of e.case in
    let h = head_of e.case in
    let w = same (micrograms (to_water k h)) e.water in
    let a = same (micrograms (to_air k h)) e.air in
    let s = same (micrograms (to_soil k h)) e.soil in
    let p = both (eqb (refusal_of e.case) 0) (w && (a && s)) t in
    let q = both w (a && s) p.1 in
    let r = both a s q.1 in
    (eqb-true (refusal_of e.case) 0 p.0, same_by_test _ _ q.0, same_by_test _ _ r.0, same_by_test _ _ r.1)

pub row_examples_lem : All Worked row_examples
unfolding every worked same row_examples case_bytes bytes_of emitted chain total cities city_at hygienes hygiene_at case_of_patterns case_with head_of number_at number_of refusal_of not_sixty_four kind_unknown row_unknown route_not_allowed user_not_allowed usage_missing usage_at usages_of polymers count_not_allowed not_number not_zero_bytes over_limit sum_from sum_within summed_of sum_over kinds kind_at is_unsigned_finite whole whole_at add le of_bits to_bits
row_examples_lem = all_by_test worked Worked worked_by_test row_examples refl
