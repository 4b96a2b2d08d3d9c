-- Laws of a pattern's exact value.
-- `unsigned_finite_exactly`: which patterns have one, in plain numbers. `exact_value`: `whole` over 2 ^ 1074 is the value that the library of IEEE 754 gives the pattern.
-- `not_nan_bits`, `not_nan`: none is a NaN. `pattern_back`: the f64 of a pattern has that pattern. `whole_zero`.
-- `whole_parts`, `shift_small`: significand and shift.
-- The order of values is in `Order`.
use mathlib.Core.Path.{◌≡◌, refl, sym, ap, ◌∙◌}
use Prim.Native.Nat.{ℕ, zero, suc, ◌+◌, ◌-◌, ◌*◌, ◌/◌, ◌%◌, ◌^◌, ◌≤◌, ◌<◌}
use mathlib.Core.Bool.{Bool, true, false, not, cond}
use native.Mathlib.Nat.{mod-eq_of_lt, mul-one}
use native.Mathlib.Omega.{arith}
use lib.Dec.{T, eqb}
use lib.Ieee.{Float, nan, inf, fin, binary64, of_fields, of_bits, to_bits, nan_bits, is_nan}
use lib.Ieee.Bits.{nan_bits_above, to_bits-of_bits}
use lib.Ieee.Exact.{HasValue, odd_sign}
use borrow.Author.Tests.{lt-leb, le-ltb, eq-eqb, ne_eqb, eqb-true, eqb-false, not-true}
use Rattle.binary64.specs.Pattern.{sign_of, exponent_of, fraction_of, is_unsigned_finite}
use Rattle.binary64.specs.Quantity.{whole_at, whole, significand_of, shift_of}
use Rattle.octets.proofs.Bools.{both}

-- the patterns below that of infinity
pub unsigned_finite_exactly : (b : ℕ) → (is_unsigned_finite b ≡ true → b < 2047 * 2 ^ 52) × (b < 2047 * 2 ^ 52 → is_unsigned_finite b ≡ true)
unfolding is_unsigned_finite
unsigned_finite_exactly b = (
  λ e.
      let p = both (eqb (sign_of b) 0) (not (eqb (exponent_of b) 2047)) e in
      let s : sign_of b ≡ 0 = eqb-true (sign_of b) 0 p.0 in
      let x : exponent_of b ≡ 2047 → ⊥ = eqb-false (exponent_of b) 2047 (not-true (eqb (exponent_of b) 2047) p.1) in
      omega arith,
  λ h. rw (eq-eqb (sign_of b) 0 (omega arith), ne_eqb (exponent_of b) 2047 (λ (x : exponent_of b ≡ 2047). omega arith)),
)

fields : (x t : ℕ) → x < 2047 → HasValue (of_fields binary64 false x t) false (whole_at x t) (2 ^ 1074)
unfolding of_fields whole_at
fields zero t h = rw mul-one at (odd_sign 53 false t 0 1074)
fields (suc x) t h = rw (ne_eqb (suc x) 2047 (λ (e : suc x ≡ 2047). omega arith)) (odd_sign 53 false (2 ^ 52 + t) x 1074)

pub exact_value : (b : ℕ) → b < 2047 * 2 ^ 52 → HasValue (of_bits binary64 b) false (whole b) (2 ^ 1074)
unfolding of_bits whole
exact_value b h =
    let small : b < 2 ^ 63 = omega arith in
    let top : b / 2 ^ 52 < 2047 = omega arith in
    rw (lt-leb (2 ^ 63) b small, mod-eq_of_lt small) (fields (b / 2 ^ 52) (b % 2 ^ 52) top)

pub not_nan_bits : (b : ℕ) → b < 2047 * 2 ^ 52 → T (not (nan_bits binary64 b))
not_nan_bits b h =
    let small : b < 2 ^ 63 = omega arith in
    rw (nan_bits_above binary64 b, mod-eq_of_lt small, le-ltb (2047 * 2 ^ 52) b (omega arith)) tt

-- what has a value is no NaN
valued : (x : Float) (s : Bool) (a c : ℕ) → HasValue x s a c → T (not (is_nan x))
unfolding is_nan
valued nan s a c h = absurd h
valued (inf t) s a c h = tt
valued (fin t m e) s a c h = tt

pub not_nan : (b : ℕ) → b < 2047 * 2 ^ 52 → T (not (is_nan (of_bits binary64 b)))
not_nan b h = valued (of_bits binary64 b) false (whole b) (2 ^ 1074) (exact_value b h)

pub pattern_back : (b : ℕ) → b < 2047 * 2 ^ 52 → to_bits binary64 (of_bits binary64 b) ≡ b
pattern_back b h = to_bits-of_bits binary64 b (omega arith) (not_nan b h)

pub whole_zero : whole 0 ≡ 0
unfolding whole
whole_zero = refl

at_parts : (x t : ℕ) → whole_at x t ≡ cond (eqb x 0) t (2 ^ 52 + t) * 2 ^ (x - 1)
unfolding whole_at
at_parts zero t = sym (mul-one t)
at_parts (suc x) t = let e : suc x - 1 ≡ x = omega arith in rw (ne_eqb (suc x) 0 (λ (z : suc x ≡ 0). omega arith), e)

pub whole_parts : (b : ℕ) → b < 2 ^ 63 → whole b ≡ significand_of b * 2 ^ shift_of b
unfolding whole whole_at
whole_parts b h = go (eqb b 0) refl
  where
    go : (z : Bool) → eqb b 0 ≡ z → whole_at (b / 2 ^ 52) (fraction_of b) ≡ significand_of b * 2 ^ cond z 1074 (exponent_of b - 1)
    go true e = rw (eqb-true b 0 e) refl
    go false e =
        let f : b / 2 ^ 52 ≡ exponent_of b = omega arith in
        ap (λ (x : ℕ). whole_at x (fraction_of b)) f ∙ at_parts (exponent_of b) (fraction_of b)

pub shift_small : (b : ℕ) → shift_of b ≤ 2046
shift_small b = go (eqb b 0)
  where
    go : (z : Bool) → cond z 1074 (exponent_of b - 1) ≤ 2046
    go true = omega arith
    go false = omega arith
