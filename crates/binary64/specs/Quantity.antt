-- The exact value of a pattern: a whole number over 2 ^ 1074.
use Rattle.std.specs.Prelude.{ℕ, zero, suc, ◌+◌, ◌-◌, ◌*◌, ◌/◌, ◌^◌, cond, eqb}
use Rattle.binary64.specs.Pattern.{exponent_of, fraction_of}

-- 1 over 2 ^ 1074: the number n is n * one
abbrev pub one : ℕ
one = 2 ^ 1074

-- of an exponent field and a fraction: subnormal where the field is 0, otherwise with the hidden bit
unfoldable pub whole_at : ℕ → ℕ → ℕ
whole_at zero t = t
whole_at (suc x) t = (2 ^ 52 + t) * 2 ^ x

-- The exact value over 2 ^ 1074 of a pattern with no sign bit and an exponent field below 2047.
-- It is defined at every pattern, strictly increasing, so that laws of order need no condition.
unfoldable pub whole : ℕ → ℕ
unfolding whole_at
whole b = whole_at (b / 2 ^ 52) (fraction_of b)

-- A significand below 2 ^ 53 and a shift, whose product whole is: significand_of b * 2 ^ shift_of b.
abbrev pub significand_of : ℕ → ℕ
significand_of b = cond (eqb (exponent_of b) 0) (fraction_of b) (2 ^ 52 + fraction_of b)

-- Zero is 0 * 2 ^ 1074, so that 1 less zero has no digit behind the point.
abbrev pub shift_of : ℕ → ℕ
shift_of b = cond (eqb b 0) 1074 (exponent_of b - 1)
