-- Laws of decimal digits.
--   value_snoc, value_from_lem                       values of digit lists
--   digits_step                                  `digits` by one division
use mathlib.Core.Path.{◌≡◌, refl, ap, ◌∙◌}
use mathlib.Core.Bool.{cond}
use mathlib.Core.List.{List, [], ◌∷◌, ◌++◌}
use Prim.Native.Nat.{ℕ, zero, suc, ◌+◌, ◌*◌, ◌/◌, ◌%◌, ◌≤◌, ◌<◌}
use native.Mathlib.Omega.{arith}
use borrow.Author.Tests.{lt-ltb, le-ltb}
use lib.Dec.{ltb}
use Rattle.listing.specs.Decimal.{value_after, digits_within, digits}

-- ── values

pub value_snoc : (v : ℕ) (ds : List ℕ) (d : ℕ) → value_after v (ds ++ (d ∷ [])) ≡ 10 * value_after v ds + d
unfolding value_after
value_snoc v [] d = refl
value_snoc v (e ∷ ds) d = value_snoc (10 * v + e) ds d

-- digits behind others only raise the value
pub value_from_lem : (v : ℕ) (ds : List ℕ) → v ≤ value_after v ds
unfolding value_after
value_from_lem v [] = omega arith
value_from_lem v (d ∷ ds) = omega (arith, value_from_lem (10 * v + d) ds)

-- ── digits by one division

-- more divisions than are needed change nothing
within_same : (j k n : ℕ) → n ≤ j → n ≤ k → digits_within j n ≡ digits_within k n
unfolding digits_within
within_same zero zero n p q = refl
within_same zero (suc k) n p q = rw (lt-ltb n 10 (omega arith))
within_same (suc j) zero n p q = rw (lt-ltb n 10 (omega arith))
within_same (suc j) (suc k) n p q =
    ap (λ (l : List ℕ). cond (ltb n 10) (n ∷ []) (l ++ (n % 10 ∷ []))) (within_same j k (n / 10) (omega arith) (omega arith))

pub digits_step : (n : ℕ) → digits n ≡ cond (ltb n 10) (n ∷ []) (digits (n / 10) ++ (n % 10 ∷ []))
unfolding digits_within digits
digits_step n =
    within_same n (suc n) n (omega arith) (omega arith)
    ∙ ap (λ (l : List ℕ). cond (ltb n 10) (n ∷ []) (l ++ (n % 10 ∷ []))) (within_same n (n / 10) (n / 10) (omega arith) (omega arith))

pub digits_last : (n : ℕ) → n < 10 → digits n ≡ n ∷ []
digits_last n h = digits_step n ∙ rw (lt-ltb n 10 h)

pub digits_more : (n : ℕ) → 10 ≤ n → digits n ≡ digits (n / 10) ++ (n % 10 ∷ [])
digits_more n h = digits_step n ∙ rw (le-ltb n 10 h)

-- a further digit behind a number that is not 0
pub digits_snoc : (n d : ℕ) → 1 ≤ n → d < 10 → digits (10 * n + d) ≡ digits n ++ (d ∷ [])
digits_snoc n d h g =
    let q : (10 * n + d) / 10 ≡ n = omega arith in
    let r : (10 * n + d) % 10 ≡ d = omega arith in
    digits_more (10 * n + d) (omega arith) ∙ rw (q, r)
