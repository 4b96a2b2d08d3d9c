-- The quantities in plain numbers: what passes refusals 8 to 11 is exactly what Ranges allows.
--   numbers_exactly, quantities_exactly, sum_exactly    8; 9 and 10; 11
-- A pattern's exact value and its order are in crate binary64.
use mathlib.Core.Path.{◌≡◌, refl}
use mathlib.Core.Bool.{Bool, true, false, not}
use mathlib.Core.List.{List, [], ◌∷◌, map}
use Prim.Native.Nat.{ℕ, ◌*◌, ◌<◌}
use native.Mathlib.Omega.{arith}
use lib.Dec.{eqb}
use lib.Ieee.{Float}
use lib.ListN.{get_or}
use borrow.Author.Tests.{not-false, leb-true, le-leb, eqb-true, eqb-false, eq-eqb}
use Rattle.binary64.specs.Quantity.{one}
use Rattle.binary64.proofs.Exact.{unsigned_finite_exactly}
use Rattle.kinds.specs.Case.{row_of, pattern_at, of_six, quantity_of, exact_of, Listing, unlisted, up_to, own_up_to, kind_at, listing_at, not_number, any_not_number, not_zero_bytes, any_not_zero_bytes, over_limit, any_over_limit, sum_within, summed_of, sum_over}
use Rattle.kinds.specs.Ranges.{Number, OwnUpTo, IsKind, allowed_by}
use Rattle.kinds.proofs.Six.{none_of_six, six_then, each_finite}
use Rattle.kinds.proofs.FieldRanges.{Passes, passes, Says, SumSays, by_table}

-- ── numbers

pub numbers_exactly : (p : ℕ → ℕ) → Passes (any_not_number p) ((i : ℕ) → i < 6 → Number (p i))
unfolding not_number
numbers_exactly p = (
  λ e i h. (unsigned_finite_exactly (p i)).0 (each_finite p e i h),
  λ n. six_then (λ i. not_number (p i)) (λ i h. passes ((unsigned_finite_exactly (p i)).1 (n i h))),
)

-- ── quantities

abbrev Obeys : Bool → Listing → ℕ → Type 0
Obeys own l p = (not_zero_bytes own l p ≡ false) × (over_limit own l p ≡ false)

says_exactly : (row : ℕ) (l : Listing) (p : ℕ) → (Obeys (eqb row 0) l p → Says row l p) × (Says row l p → Obeys (eqb row 0) l p)
unfolding not_zero_bytes over_limit
says_exactly row unlisted p = (λ o. eqb-true p 0 (not-false (eqb p 0) o.0), λ h. (passes (eq-eqb p 0 h), refl))
says_exactly row (up_to n) p = (λ o. leb-true (exact_of p) (n * one) (not-false _ o.1), λ h. (refl, passes (le-leb (exact_of p) (n * one) h)))
says_exactly row (own_up_to n) p = go (eqb row 0) refl
  where
    go : (z : Bool) → eqb row 0 ≡ z → (Obeys z (own_up_to n) p → OwnUpTo row n p) × (OwnUpTo row n p → Obeys z (own_up_to n) p)
    go true e =
        let own = eqb-true row 0 e in
        (λ o. (λ z. leb-true (exact_of p) (n * one) (not-false _ o.1), λ other. absurd (other own)), λ h. (refl, passes (le-leb (exact_of p) (n * one) (h.0 own))))
    go false e =
        let other = eqb-false row 0 e in
        (λ o. (λ own. absurd (other own), λ z. eqb-true p 0 (not-false (eqb p 0) o.0)), λ h. (passes (eq-eqb p 0 (h.1 other)), refl))

-- ── the sum

of_summed : (is : List ℕ) (xs : List Float) → Passes (not (sum_within (map (λ (i : ℕ). get_or xs i (quantity_of 0)) is))) (SumSays is xs)
unfolding sum_within
of_summed [] xs = (λ e. tt, λ h. refl)
of_summed (i ∷ is) xs = (not-false _, passes)

-- ── by kind

module _ (b : List ℕ) (k : ℕ) (h : IsKind k) where
  pub quantities_exactly : (any_not_zero_bytes k (row_of b) (pattern_at b) ≡ false → any_over_limit k (row_of b) (pattern_at b) ≡ false → (allowed_by k b).quantities)
      × ((allowed_by k b).quantities → (any_not_zero_bytes k (row_of b) (pattern_at b) ≡ false) × (any_over_limit k (row_of b) (pattern_at b) ≡ false))
  quantities_exactly =
      rw (by_table b k h) (
        λ z o. (keeps z o 0 (omega arith), keeps z o 1 (omega arith), keeps z o 2 (omega arith), keeps z o 3 (omega arith), keeps z o 4 (omega arith), keeps z o 5 (omega arith)),
        λ s. (
          rw ((kept 0 s.0).0, (kept 1 s.1).0, (kept 2 s.2).0, (kept 3 s.3).0, (kept 4 s.4).0, (kept 5 s.5).0),
          rw ((kept 0 s.0).1, (kept 1 s.1).1, (kept 2 s.2).1, (kept 3 s.3).1, (kept 4 s.4).1, (kept 5 s.5).1),
        ),
      )
    where
      keeps : any_not_zero_bytes k (row_of b) (pattern_at b) ≡ false → any_over_limit k (row_of b) (pattern_at b) ≡ false → (i : ℕ) → i < 6 → Says (row_of b) (listing_at k i) (pattern_at b i)
      keeps z o i m =
          (says_exactly (row_of b) (listing_at k i) (pattern_at b i)).0 (
            none_of_six (λ j. not_zero_bytes (eqb (row_of b) 0) (listing_at k j) (pattern_at b j)) z i m,
            none_of_six (λ j. over_limit (eqb (row_of b) 0) (listing_at k j) (pattern_at b j)) o i m,
          )

      kept : (i : ℕ) → Says (row_of b) (listing_at k i) (pattern_at b i) → Obeys (eqb (row_of b) 0) (listing_at k i) (pattern_at b i)
      kept i = (says_exactly (row_of b) (listing_at k i) (pattern_at b i)).1

  pub sum_exactly : Passes (sum_over k (pattern_at b)) (allowed_by k b).sum
  unfolding sum_over summed_of
  sum_exactly = rw (by_table b k h) (of_summed (kind_at k).summed (of_six (λ i. quantity_of (pattern_at b i))))
