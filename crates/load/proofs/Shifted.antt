-- A figure that is not 0, shifted until its first digit is the 64th: `Shifted`, `shifted_facts`; `shifts`, the same for the search.
-- `few_digits`: of a figure below 2 ^ 53.
-- Its significand: `Rounded`, `rounded_facts`, `significand_code` (as the code works it out).
use mathlib.Core.Path.{◌≡◌, sym, ap, ◌∙◌, subst}
use Prim.Native.Nat.{ℕ, suc, ◌+◌, ◌-◌, ◌*◌, ◌/◌, ◌%◌, ◌^◌, ◌≤◌, ◌<◌}
use native.Mathlib.Nat.{lt_of_not-le, mod-eq_of_lt, mul-le-mul_right}
use native.Mathlib.Omega.{arith}
use lib.Pow.{pow-add, pow_mono, pow_pos, shl_lt}
use lib.Count.{count_leading_zeros, leading_top}
use lib.Ieee.Digits.{size-lt, size-le}
use Rattle.natural.specs.Ceiling.{ceiling}
use Rattle.natural.proofs.Ceiling.{ceiling_same}
use Rattle.load.specs.Load.{digits, significand}

-- how many of 64 digits stand before the first that is 1, and the number with that digit brought to the front
abbrev pub zeros_before : ℕ → ℕ
zeros_before n = count_leading_zeros 64 n

abbrev pub shifted : ℕ → ℕ
shifted n = n * 2 ^ zeros_before n

pub record Shifted (n : ℕ) : Type 0 where
  pub few : zeros_before n < 64
  pub rest : zeros_before n + digits n ≡ 64
  pub top : 2 ^ 63 ≤ shifted n
  pub fits : shifted n < 2 ^ 64
  pub none_lost : shifted n % 2 ^ 64 ≡ shifted n

pub shifted_facts : (n : ℕ) → 0 < n → n < 2 ^ 64 → Shifted n
shifted_facts n p h =
    let t = leading_top 64 n p h in
    let z = zeros_before n in
    let low : t.0 + z ≡ 63 = omega (arith, t.1) in
    let high : suc t.0 + z ≡ 64 = omega (arith, t.1) in
    let below : shifted n < 2 ^ 64 = subst (λ (k : ℕ). n * 2 ^ z < 2 ^ k) high (shl_lt {a = n} (suc t.0) z t.3) in
    let a : digits n ≤ suc t.0 = size-le n (suc t.0) t.3 in
    let b : t.0 < digits n = lt_of_not-le (λ (g : digits n ≤ t.0). let m : 2 ^ digits n ≤ 2 ^ t.0 = pow_mono g in omega (arith, t.2, size-lt n)) in
    record {
      few = omega (arith, t.1);
      rest = omega (arith, t.1);
      top = subst (λ (k : ℕ). 2 ^ k ≤ n * 2 ^ z) low (rw (pow-add 2 t.0 z) (mul-le-mul_right (2 ^ z) t.2));
      fits = below;
      none_lost = mod-eq_of_lt below;
    }

pub few_zeros : (n : ℕ) → 0 < n → n < 2 ^ 64 → count_leading_zeros 64 n < 64
few_zeros n p h = (shifted_facts n p h).few

pub top_set : (n : ℕ) → 0 < n → n < 2 ^ 64 → 2 ^ 63 ≤ n * 2 ^ count_leading_zeros 64 n
top_set n p h = (shifted_facts n p h).top

pub none_over : (n : ℕ) → 0 < n → n < 2 ^ 64 → n * 2 ^ count_leading_zeros 64 n < 2 ^ 64
none_over n p h = (shifted_facts n p h).fits

pub no_digit_lost : (n : ℕ) → 0 < n → n < 2 ^ 64 → n * 2 ^ count_leading_zeros 64 n % 2 ^ 64 ≡ n * 2 ^ count_leading_zeros 64 n
no_digit_lost n p h = (shifted_facts n p h).none_lost

pub ruleset shifts = (few_zeros, top_set, none_over, no_digit_lost)

pub few_digits : (n : ℕ) → 0 < n → n < 2 ^ 53 → 11 ≤ zeros_before n
few_digits n p h =
    let t = leading_top 64 n p (omega arith) in
    let j : t.0 < 53 = lt_of_not-le (λ (g : 53 ≤ t.0). let m : 2 ^ 53 ≤ 2 ^ t.0 = pow_mono g in omega (arith, t.2)) in
    omega (arith, t.1)

-- ── the significand

-- the first 53 digits of 64, rounded up: n * 2 ^ 53 over 2 ^ digits n is shifted n over 2 ^ 11
of_shifted : (n : ℕ) → Shifted n → significand n ≡ ceiling (shifted n) (2 ^ 11)
of_shifted n s =
    let z = zeros_before n in
    let e = s.rest in
    let p : 2 ^ z * 2 ^ digits n ≡ 2 ^ 64 = sym (pow-add 2 z (digits n)) ∙ ap (λ (k : ℕ). 2 ^ k) e in
    let q : n * (2 ^ z * 2 ^ digits n) ≡ n * 2 ^ 64 = ap (λ (k : ℕ). n * k) p in
    ceiling_same (n * 2 ^ 53) (2 ^ digits n) (shifted n) (2 ^ 11) (pow_pos (digits n)) (omega arith) (omega arith)

-- it has 53 digits, or is 2 ^ 53; it is above the shifted figure by less than 2 ^ 11
pub record Rounded (n : ℕ) : Type 0 where
  pub low : 2 ^ 52 ≤ significand n
  pub high : significand n ≤ 2 ^ 53
  pub not_below : shifted n ≤ significand n * 2 ^ 11
  pub near : significand n * 2 ^ 11 < shifted n + 2 ^ 11

pub rounded_facts : (n : ℕ) → Shifted n → Rounded n
unfolding ceiling
rounded_facts n s = let e = of_shifted n s in record { low = omega arith; high = omega arith; not_below = omega arith; near = omega arith }

pub significand_code : (n : ℕ) → Shifted n → (shifted n - 1) / 2 ^ 11 + 1 ≡ significand n
unfolding ceiling
significand_code n s = let e = of_shifted n s in omega arith
