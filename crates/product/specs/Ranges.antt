-- What is asked of a quantity before it is multiplied.
use Rattle.std.specs.Prelude.{not, List, [], ◌∷◌, ℕ, ◌*◌, ◌≤◌, T, Float}
use Rattle.std.specs.Float.{binary64}
use Rattle.std.specs.Float.Ieee.{to_bits, is_nan}
use Rattle.binary64.specs.Quantity.{whole, one}

-- a quantity that is a number, from 0 to n
pub record UpTo (n : ℕ) (x : Float) : Type 0 where
  pub number : T (not (is_nan x))
  pub most : whole (to_bits binary64 x) ≤ n * one

-- each up to the largest limit of all
abbrev pub largest : ℕ
largest = 1000000

unfoldable pub Each : List Float → Type 0
Each [] = Unit {0}
Each (x ∷ xs) = UpTo largest x × Each xs
