-- What the definition means, by exact values: `load_is_least`, `load_is_unique`; `load_adds` (at most one part in 2 ^ 52).
-- `load_exact`: a figure up to 2 ^ 53 is its own load. `load_finite`, `load_quantity`: below infinity, so a quantity. `load_read`: the bytes hold the pattern.
-- By the library of IEEE 754, of every binary64, is in `Smallest`; in whole micrograms in `Micrograms`.
use mathlib.Core.Path.{◌≡◌, refl, sym, ap, ◌∙◌}
use mathlib.Core.Bool.{true}
use mathlib.Core.Logic.{⊎_elim}
use Prim.Native.Nat.{ℕ, zero, suc, ◌+◌, ◌-◌, ◌*◌, ◌^◌, ◌≤◌, ◌<◌, zero-le}
use native.Mathlib.Nat.{eq-or-lt_of_le, le_antisymm, not-le_of_lt, lt_of_not-le, mod-eq_of_lt, mul-le-mul_right, mul-lt-mul_of_pos_right}
use native.Mathlib.Omega.{arith}
use lib.Pow.{pow_pos, pow-add}
use lib.Ieee.{size, span, climb}
use Rattle.natural.specs.Ceiling.{ceiling}
use Rattle.octets.specs.Bytes.{number_of}
use Rattle.octets.proofs.Numbers.{number_of_bytes_of}
use Rattle.binary64.specs.Pattern.{is_unsigned_finite}
use Rattle.binary64.specs.Quantity.{whole_at, whole, one}
use Rattle.binary64.proofs.Exact.{unsigned_finite_exactly, whole_zero}
use Rattle.binary64.proofs.Order.{whole_increasing, whole_monotone}
use Rattle.load.specs.Load.{IsLoad, digits, significand, load_pattern, load_bytes}
use Rattle.load.proofs.Shifted.{zeros_before, shifted, Shifted, shifted_facts, few_digits, Rounded, rounded_facts}
use Rattle.load.proofs.Value.{unit, value_on, value_of_figure, value_of_load, pattern_is}

-- ── a figure that is not 0

module _ (n : ℕ) (p : 0 < n) (h : n < 2 ^ 64) where
  s : Shifted n
  s = shifted_facts n p h

  r : Rounded n
  r = rounded_facts n s

  value_is : whole (load_pattern n) ≡ significand n * 2 ^ 11 * unit n
  value_is = value_of_load n p s r

  -- nothing was rounded
  unrounded : shifted n ≡ significand n * 2 ^ 11 → whole (load_pattern n) ≡ n * one
  unrounded e = value_is ∙ ap (λ (k : ℕ). k * unit n) (sym e) ∙ sym (value_of_figure n s)

  not_below : n * one ≤ whole (load_pattern n)
  not_below = rw (value_of_figure n s, value_is) (mul-le-mul_right (unit n) r.not_below)

  -- the pattern before has a significand less by 1, which is below the figure if there was something to round
  least : (c : ℕ) → c < load_pattern n → whole c < n * one
  least c l = ⊎_elim exact rounded (eq-or-lt_of_le r.not_below)
    where
      exact : shifted n ≡ significand n * 2 ^ 11 → whole c < n * one
      exact e = rw (unrounded e) at (whole_increasing c (load_pattern n) l)

      rounded : shifted n < significand n * 2 ^ 11 → whole c < n * one
      rounded g =
          let m = significand n - 1 in
          let v = value_on n m s (omega (arith, s.top)) (omega (arith, r.high)) in
          let a : m * 2 ^ 11 * unit n < shifted n * unit n = mul-lt-mul_of_pos_right (omega (arith, r.near)) (pow_pos (1074 - zeros_before n)) in
          let b : whole c ≤ whole ((1021 + digits n) * 2 ^ 52 + m) = whole_monotone c ((1021 + digits n) * 2 ^ 52 + m) (omega (arith, pattern_is n p)) in
          rw (value_of_figure n s) (omega arith)

  adds : (whole (load_pattern n) - n * one) * 2 ^ 52 ≤ n * one
  adds =
      let g = significand n * 2 ^ 11 - shifted n in
      let e : significand n * 2 ^ 11 * unit n ≡ (shifted n + g) * unit n = ap (λ (k : ℕ). k * unit n) (omega (arith, r.not_below)) in
      let f : g * 2 ^ 52 * unit n ≤ shifted n * unit n = mul-le-mul_right (unit n) (omega (arith, s.top, r.near)) in
      rw (value_of_figure n s, value_is) (omega arith)

  -- a figure below 2 ^ 53 was shifted by 11 digits or more, so the last 11 are zeros
  short : n < 2 ^ 53 → shifted n ≡ significand n * 2 ^ 11
  short g =
      let z = zeros_before n in
      let e : z ≡ (z - 11) + 11 = omega (arith, few_digits n p g) in
      let m : shifted n ≡ n * (2 ^ (z - 11) * 2 ^ 11) = ap (λ (k : ℕ). n * k) (ap (λ (k : ℕ). 2 ^ k) e ∙ pow-add 2 (z - 11) 11) in
      omega (arith, r.not_below, r.near)

-- ── any figure

pub load_is_least : (n : ℕ) → n < 2 ^ 64 → IsLoad n (load_pattern n)
unfolding load_pattern
load_is_least zero h = record { not_below = zero-le; least = λ c l. absurd (omega (arith, l)) }
load_is_least (suc n) h = record { not_below = not_below (suc n) (omega arith) h; least = least (suc n) (omega arith) h }

-- of two loads neither is before the other
pub load_is_unique : {n b c : ℕ} → IsLoad n b → IsLoad n c → b ≡ c
load_is_unique {n} {b} {c} p q = le_antisymm (first c b q p) (first b c p q)
  where
    first : (b c : ℕ) → IsLoad n b → IsLoad n c → c ≤ b
    first b c p q = let l : c < suc b = lt_of_not-le (λ (g : suc b ≤ c). not-le_of_lt (q.least b g) p.not_below) in omega arith

pub load_adds : (n : ℕ) → n < 2 ^ 64 → (whole (load_pattern n) - n * one) * 2 ^ 52 ≤ n * one
unfolding load_pattern
load_adds zero h = rw whole_zero zero-le
load_adds (suc n) h = adds (suc n) (omega arith) h

pub load_exact : (n : ℕ) → n ≤ 2 ^ 53 → whole (load_pattern n) ≡ n * one
unfolding load_pattern size span climb ceiling whole whole_at
load_exact zero h = refl
load_exact (suc n) h =
    ⊎_elim
    (λ (e : suc n ≡ 2 ^ 53). rw e refl)
    (λ (l : suc n < 2 ^ 53). unrounded (suc n) (omega arith) (omega arith) (short (suc n) (omega arith) (omega arith) l))
    (eq-or-lt_of_le h)

-- ── the pattern and its bytes

-- at most that of 2 ^ 64
pub load_finite : (n : ℕ) → n < 2 ^ 64 → load_pattern n ≤ 1087 * 2 ^ 52
unfolding load_pattern
load_finite zero h = omega arith
load_finite (suc n) h = omega (arith, pattern_is (suc n) (omega arith), (r (suc n) (omega arith) h).high, (s (suc n) (omega arith) h).rest)

pub load_quantity : (n : ℕ) → n < 2 ^ 64 → is_unsigned_finite (load_pattern n) ≡ true
load_quantity n h = (unsigned_finite_exactly (load_pattern n)).1 (omega (arith, load_finite n h))

pub load_read : (n : ℕ) → n < 2 ^ 64 → number_of (load_bytes n) ≡ load_pattern n
unfolding load_bytes
load_read n h = number_of_bytes_of 8 (load_pattern n) ∙ mod-eq_of_lt (omega (arith, load_finite n h))
