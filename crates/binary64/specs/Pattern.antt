-- A binary64 pattern, as a 64-bit number, taken apart: sign bit, exponent field, fraction (IEEE 754, 3.4).
use Rattle.std.specs.Prelude.{ℕ, ◌/◌, ◌%◌, ◌^◌, Bool, not, ◌&&◌, eqb}

abbrev pub sign_of : ℕ → ℕ
sign_of b = b / 2 ^ 63

abbrev pub exponent_of : ℕ → ℕ
exponent_of b = b / 2 ^ 52 % 2 ^ 11

abbrev pub fraction_of : ℕ → ℕ
fraction_of b = b % 2 ^ 52

-- No sign bit, and an exponent field that is not 2047: a number from 0 on, and not minus zero.
unfoldable pub is_unsigned_finite : ℕ → Bool
is_unsigned_finite b = eqb (sign_of b) 0 && not (eqb (exponent_of b) 2047)
