-- The load of a figure, as the fate model reads it: the smallest binary64 that is not below the figure, in micrograms.
-- Request No. 1: "for any 64-bit figure, the smallest binary64 that is not below it, as eight little-endian bytes, all zero for 0".
use Rattle.std.specs.Prelude.{false, cond, List, ℕ, ◌+◌, ◌-◌, ◌*◌, ◌^◌, ◌≤◌, ◌<◌, T, eqb, pos, Float}
use Rattle.std.specs.Float.{fin, binary64}
use Rattle.std.specs.Float.Ieee.{size, of_bits, le}
use Rattle.natural.specs.Ceiling.{ceiling}
use Rattle.octets.specs.Bytes.{bytes_of}
use Rattle.binary64.specs.Quantity.{whole, one}

-- ── what a load is, by exact values over 2 ^ 1074

-- The pattern's value is not below the figure, and that of each pattern before it is. `load_is_least` says it of `load_pattern`, `load_is_unique` that it holds of no other.
pub record IsLoad (figure pattern : ℕ) : Type 0 where
  pub not_below : figure * one ≤ whole pattern
  pub least : (before : ℕ) → before < pattern → whole before < figure * one

-- ── what it is among every binary64, by the library of IEEE 754

-- a whole number as it is
abbrev pub exactly : ℕ → Float
exactly n = fin false n (pos 0)

-- It is at least the figure, and at most any that is at least the figure. Each pattern is compared: with a sign bit, of an infinity, of a NaN too.
pub record IsSmallest (figure pattern : ℕ) : Type 0 where
  pub at_least : T (le (exactly figure) (of_bits binary64 pattern))
  pub smallest : (other : ℕ) → T (le (exactly figure) (of_bits binary64 other)) → T (le (of_bits binary64 pattern) (of_bits binary64 other))

-- ── what the contracts say of a load: both, and at most one part in 2 ^ 52 above the figure

pub record LoadWithin (figure pattern : ℕ) : Type 0 where
  pub is_load : IsLoad figure pattern
  pub is_smallest : IsSmallest figure pattern
  pub adds : (whole pattern - figure * one) * 2 ^ 52 ≤ figure * one

-- ── which pattern that is, and its bytes

-- how many binary digits a figure has: none for 0, at most 64
abbrev pub digits : ℕ → ℕ
digits n = size n

-- 53 digits of one that is not 0, rounded up: from 2 ^ 52 to 2 ^ 53
abbrev pub significand : ℕ → ℕ
significand n = ceiling (n * 2 ^ 53) (2 ^ digits n)

-- The first digit of a significand counts 1 in the exponent field: 2 ^ 0, with one digit, has 1023 there and 2 ^ 52 for its significand.
-- A significand that was rounded up to 2 ^ 53 counts 2, and leaves a fraction of 0.
unfoldable pub load_pattern : ℕ → ℕ
load_pattern n = cond (eqb n 0) 0 ((1021 + digits n) * 2 ^ 52 + significand n)

unfoldable pub load_bytes : ℕ → List ℕ
load_bytes n = bytes_of 8 (load_pattern n)
