-- Laws on `ceiling`; d and d' are not 0.
--   ceiling_of                                      by quotient and remainder
--   ceiling_not_below, ceiling_less_than_one_above  what it is: no quotient is above it, and it is less than one above the quotient
--   ceiling_at_most, ceiling_zero                   a bound on it; when it is 0
--   ceiling_monotone, ceiling_same                  of two fractions, by multiplying across
-- What `round_up` does is in crate chain, RoundedUp.
use mathlib.Core.Path.{◌≡◌, sym, ap, ◌∙◌}
use Prim.Native.Nat.{ℕ, zero, suc, ◌+◌, ◌-◌, ◌*◌, ◌/◌, ◌%◌, ◌≤◌, ◌<◌, min}
use native.Mathlib.Nat.{div-add-mod', mod-lt, le_antisymm, le_of_eq, le_of_mul-le-mul_right, lt_of_mul-lt-mul_right, mul-le-mul_right}
use native.Mathlib.Omega.{arith}
use lib.Arith.{digits_div}
use Rattle.natural.specs.Ceiling.{ceiling}

pub ceiling_of : (N D Q R : ℕ) → N ≡ Q * D + R → R < D → ceiling N D ≡ Q + min 1 R
unfolding ceiling
ceiling_of N D Q zero e h =
    let s : N + (D - 1) ≡ Q * D + (D - 1) = omega arith in
    ap (λ (n : ℕ). n / D) s ∙ digits_div Q {m = D} {r = D - 1} (omega arith) ∙ omega arith
ceiling_of N D Q (suc r) e h =
    let s : N + (D - 1) ≡ (Q + 1) * D + r = omega arith in
    ap (λ (n : ℕ). n / D) s ∙ digits_div (Q + 1) {m = D} {r = r} (omega arith) ∙ omega arith

bounds : (N D Q R : ℕ) → N ≡ Q * D + R → R < D → (N ≤ ceiling N D * D) × (ceiling N D * D < N + D)
bounds N D Q zero e h =
    let c : ceiling N D * D ≡ (Q + 0) * D = ap (λ (n : ℕ). n * D) (ceiling_of N D Q 0 e h) in
    (omega arith, omega arith)
bounds N D Q (suc r) e h =
    let c : ceiling N D * D ≡ (Q + 1) * D = ap (λ (n : ℕ). n * D) (ceiling_of N D Q (suc r) e h ∙ omega arith) in
    (omega arith, omega arith)

both : (n d : ℕ) → 0 < d → (n ≤ ceiling n d * d) × (ceiling n d * d < n + d)
both n d h = bounds n d (n / d) (n % d) (sym (div-add-mod' n d)) (mod-lt n h)

pub ceiling_not_below : (n d : ℕ) → 0 < d → n ≤ ceiling n d * d
ceiling_not_below n d h = (both n d h).0

pub ceiling_less_than_one_above : (n d : ℕ) → 0 < d → ceiling n d * d < n + d
ceiling_less_than_one_above n d h = (both n d h).1

pub ceiling_at_most : (n d b : ℕ) → 0 < d → n ≤ b * d → ceiling n d ≤ b
ceiling_at_most n d b h e =
    let s : ceiling n d * d < (b + 1) * d = omega (arith, (both n d h).1) in
    let t : ceiling n d < b + 1 = lt_of_mul-lt-mul_right d s in
    omega arith

pub ceiling_zero : (n d : ℕ) → 0 < d → (ceiling n d ≡ 0 → n ≡ 0) × (n ≡ 0 → ceiling n d ≡ 0)
ceiling_zero n d h = (
  λ z. let c : ceiling n d * d ≡ 0 * d = ap (λ (k : ℕ). k * d) z in omega (arith, (both n d h).0),
  λ z. let c : ceiling n d ≤ 0 = ceiling_at_most n d 0 h (omega arith) in omega arith,
)

pub ceiling_monotone : (n d n' d' : ℕ) → 0 < d → 0 < d' → n * d' ≤ n' * d → ceiling n d ≤ ceiling n' d'
ceiling_monotone n d n' d' h h' e =
    let b : n' * d ≤ ceiling n' d' * d' * d = mul-le-mul_right {m = n'} {n = ceiling n' d' * d'} d (both n' d' h').0 in
    let s : n * d' ≤ ceiling n' d' * d * d' = omega arith in
    ceiling_at_most n d (ceiling n' d') h (le_of_mul-le-mul_right s h')

pub ceiling_same : (n d n' d' : ℕ) → 0 < d → 0 < d' → n * d' ≡ n' * d → ceiling n d ≡ ceiling n' d'
ceiling_same n d n' d' h h' e = le_antisymm (ceiling_monotone n d n' d' h h' (le_of_eq e)) (ceiling_monotone n' d' n d h' h (le_of_eq (sym e)))
