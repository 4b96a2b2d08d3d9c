-- Laws of chains of factors.
--   pull, chain_append      a factor brought to the front; two chains in one
--   quantities_positive     the lower number of a chain of quantities is not 0
use mathlib.Core.Path.{◌≡◌, refl, sym, ap, ◌∙◌}
use mathlib.Core.List.{List, [], ◌∷◌, ◌++◌, map}
use Prim.Native.Nat.{◌<◌}
use native.Mathlib.Nat.{mul-pos}
use native.Mathlib.Omega.{arith}
use lib.Pow.{pow_pos}
use lib.Ieee.{Float}
use Rattle.product.specs.Ratio.{Ratio, ◌over◌, ◌·◌}
use Rattle.product.specs.Chain.{Factor, quantity, factor, chain}
use Rattle.product.proofs.Ratios.{times_assoc, times_swap, times_comm, times_one}

pub pull : (l : List Factor) (f : Factor) (m : List Factor) → chain (l ++ f ∷ m) ≡ chain (f ∷ l ++ m)
unfolding chain
pull [] f m = refl
pull (g ∷ l) f m = ap (λ (r : Ratio). factor g · r) (pull l f m) ∙ times_swap (factor g) (factor f) (chain (l ++ m))

pub chain_append : (l m : List Factor) → chain l · chain m ≡ chain (l ++ m)
unfolding chain
chain_append [] m = times_comm (1 over 1) (chain m) ∙ times_one (chain m)
chain_append (f ∷ l) m = sym (times_assoc (factor f) (chain l) (chain m)) ∙ ap (λ (r : Ratio). factor f · r) (chain_append l m)

pub quantities_positive : (xs : List Float) → 0 < (chain (map quantity xs)).lower
unfolding chain
quantities_positive [] = omega arith
quantities_positive (x ∷ xs) = mul-pos (pow_pos 1074) (quantities_positive xs)
