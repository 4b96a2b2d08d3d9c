-- `digits n` is the decimal of n, `digits_are`, and nothing else is, `digits_only`.
use mathlib.Core.Path.{◌≡◌, refl, sym, ap, ◌∙◌, subst}
use mathlib.Core.Bool.{Bool, true, false}
use mathlib.Core.List.{List, [], ◌∷◌, ◌++◌}
use Prim.Native.Nat.{ℕ, zero, suc, ◌+◌, ◌*◌, ◌-◌, ◌/◌, ◌%◌, ◌≤◌, ◌<◌}
use native.Mathlib.Omega.{arith}
use borrow.Author.Tests.{ltb-true, ltb-false}
use lib.Dec.{ltb}
use lib.ListN.{length, get_or, take, get_or-append}
use lib.Seq.{take-suc, take-length, get_or-take, length-take-le}
use Rattle.listing.specs.Decimal.{value_after, value_of, IsDecimal, digits}
use Rattle.listing.proofs.Digits.{digits_last, digits_more, digits_snoc, value_from_lem, value_snoc}

-- the first of some digits, behind which another stands, is still the first
first_snoc : (ds : List ℕ) (d : ℕ) → 1 ≤ length ds → get_or (ds ++ (d ∷ [])) 0 0 ≡ get_or ds 0 0
first_snoc ds d h = get_or-append ds (d ∷ []) 0 0 h

below_snoc : (ds : List ℕ) (d : ℕ) → ((i : ℕ) → i < length ds → get_or ds i 0 < 10) → d < 10
    → (i : ℕ) → i < length (ds ++ (d ∷ [])) → get_or (ds ++ (d ∷ [])) i 0 < 10
below_snoc [] d b h zero g = h
below_snoc [] d b h (suc i) g = absurd (omega arith)
below_snoc (e ∷ ds) d b h zero g = b zero (omega arith)
below_snoc (e ∷ ds) d b h (suc i) g = below_snoc ds d (λ j l. b (suc j) (omega arith)) h i (omega arith)

-- digits that are a decimal are not none
pub some : (n : ℕ) (ds : List ℕ) → IsDecimal n ds → 1 ≤ length ds
some n [] g = absurd (omega (arith, ap length (g.no_leading_zero refl)))
some n (d ∷ ds) g = omega arith

-- A first digit that is not 0 makes the value not 0.
positive : (ds : List ℕ) → 1 ≤ get_or ds 0 0 → 1 ≤ value_of ds
unfolding value_after
positive [] h = absurd (omega arith)
positive (d ∷ ds) h = omega (arith, value_from_lem (10 * 0 + d) ds)

are_snoc : (n : ℕ) (ds : List ℕ) → 10 ≤ n → IsDecimal (n / 10) ds → IsDecimal n (ds ++ (n % 10 ∷ []))
unfolding value_after
are_snoc n ds h g = record {
  below_ten = below_snoc ds (n % 10) g.below_ten (omega arith);
  no_leading_zero = λ z.
      let e : ds ≡ 0 ∷ [] = g.no_leading_zero (sym (first_snoc ds (n % 10) (some (n / 10) ds g)) ∙ z) in
      let v : n / 10 ≡ 0 = sym g.value_is ∙ ap value_of e in
      absurd (omega arith);
  value_is = value_snoc 0 ds (n % 10) ∙ (rw g.value_is (omega arith));
}

are_last : (n : ℕ) → n < 10 → IsDecimal n (n ∷ [])
unfolding value_after
are_last n h = record {
  below_ten = below_snoc [] n (λ i g. absurd (omega arith)) h;
  no_leading_zero = λ z. ap (λ (m : ℕ). m ∷ []) z;
  value_is = omega arith;
}

are_by : (n : ℕ) (p : Bool) → ltb n 10 ≡ p → ((10 ≤ n) → IsDecimal (n / 10) (digits (n / 10))) → IsDecimal n (digits n)
are_by n true e f = let h : n < 10 = ltb-true n 10 e in subst (IsDecimal n) (sym (digits_last n h)) (are_last n h)
are_by n false e f =
    let h : 10 ≤ n = ltb-false n 10 e in
    subst (IsDecimal n) (sym (digits_more n h)) (are_snoc n (digits (n / 10)) h (f h))

are_within : (k n : ℕ) → n ≤ k → IsDecimal n (digits n)
are_within zero n h = are_by n (ltb n 10) refl (λ g. absurd (omega arith))
are_within (suc k) n h = are_by n (ltb n 10) refl (λ g. are_within k (n / 10) (omega arith))

pub digits_are : (n : ℕ) → IsDecimal n (digits n)
digits_are n = are_within n n (omega arith)

-- all but the last digit
front_is : (k n : ℕ) (ds : List ℕ) → length ds ≡ suc (suc k) → IsDecimal n ds → IsDecimal (value_of (take (suc k) ds)) (take (suc k) ds)
front_is k n ds l g =
    let t : length (take (suc k) ds) ≡ suc k = length-take-le (suc k) ds (omega arith) in
    record {
      below_ten = λ i h. rw (get_or-take (suc k) ds i 0 (omega arith)) (g.below_ten i (omega arith));
      no_leading_zero = λ z.
          let e : ds ≡ 0 ∷ [] = g.no_leading_zero (sym (get_or-take (suc k) ds 0 0 (omega arith)) ∙ z) in
          absurd (omega (arith, ap length e));
      value_is = refl;
    }

first_not_zero : (k n : ℕ) (ds : List ℕ) → length ds ≡ suc (suc k) → IsDecimal n ds → (p : ℕ) → get_or ds 0 0 ≡ p → 1 ≤ p
first_not_zero k n ds l g zero e = absurd (omega (arith, ap length (g.no_leading_zero e)))
first_not_zero k n ds l g (suc p) e = omega arith

only_long : (k n : ℕ) (ds : List ℕ) → length ds ≡ suc k → IsDecimal n ds → ds ≡ digits n
unfolding value_after
only_long zero n [] l g = absurd (omega arith)
only_long zero n (d ∷ []) l g =
    let v : d ≡ n = sym (omega arith) ∙ g.value_is in
    let b : d < 10 = g.below_ten 0 (omega arith) in
    sym (digits_last d b) ∙ ap digits v
only_long zero n (d ∷ e ∷ ds) l g = absurd (omega arith)
only_long (suc k) n ds l g =
    let es = take (suc k) ds in
    let d = get_or ds (suc k) 0 in
    let s : ds ≡ es ++ (d ∷ []) = sym (take-length ds) ∙ ap (λ (m : ℕ). take m ds) l ∙ take-suc ds (suc k) 0 (omega arith) in
    let f : IsDecimal (value_of es) es = front_is k n ds l g in
    let z : 1 ≤ get_or ds 0 0 = first_not_zero k n ds l g (get_or ds 0 0) refl in
    let p : 1 ≤ value_of es = positive es (rw (get_or-take (suc k) ds 0 0 (omega arith)) z) in
    let v : 10 * value_of es + d ≡ n = sym (value_snoc 0 es d) ∙ ap value_of (sym s) ∙ g.value_is in
    let i : es ≡ digits (value_of es) = only_long k (value_of es) es (length-take-le (suc k) ds (omega arith)) f in
    s ∙ ap (λ (m : List ℕ). m ++ (d ∷ [])) i ∙ sym (digits_snoc (value_of es) d p (g.below_ten (suc k) (omega arith))) ∙ ap digits v

pub digits_only : (n : ℕ) (ds : List ℕ) → IsDecimal n ds → ds ≡ digits n
digits_only n ds g = only_long (length ds - 1) n ds (omega (arith, some n ds g)) g
