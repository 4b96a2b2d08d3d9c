-- Chains of factors, which an equation is written in, and their exact values.
use Rattle.std.specs.Prelude.{List, [], ◌∷◌, ℕ, Float}
use Rattle.product.specs.Ratio.{Ratio, ◌over◌, ◌·◌, one_less, exactly}

-- a number of the paper, n over d; a quantity of the case; 1 less a quantity
pub data Factor : Type 0 where
  number : ℕ → ℕ → Factor
  quantity : Float → Factor
  less : Float → Factor

-- the exact value of a factor, and of a chain of factors
abbrev pub factor : Factor → Ratio
factor (number n d) = n over d
factor (quantity x) = exactly x
factor (less x) = one_less (exactly x)

unfoldable pub chain : List Factor → Ratio
chain [] = 1 over 1
chain (f ∷ fs) = factor f · chain fs
