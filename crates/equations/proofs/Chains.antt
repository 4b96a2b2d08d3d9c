-- Laws of chains of factors as the paper prints them.
--   others                            a chain's factors other than its numbers, in order
--   gather                            a chain is its numbers times its other factors
--   others_positive, chain_positive   a chain's lower number is not 0, where that of its numbers is not
--   one_term, two_terms               kilograms to micrograms, of an equation with one chain and with two
--   no_equation                       without a chain the figure is 0
--   AllPositive, emission_positive    an equation's lower number is not 0
-- What the code multiplies is in Multiplied, the constants of the rows in Tables.
use mathlib.Core.Path.{◌≡◌, refl, sym, ap, ◌∙◌}
use mathlib.Core.List.{List, [], ◌∷◌}
use Prim.Native.Nat.{◌<◌}
use native.Mathlib.Nat.{mul-pos}
use native.Mathlib.Omega.{arith}
use lib.Pow.{pow_pos}
use Rattle.product.specs.Ratio.{Ratio, ◌over◌, ◌·◌, ◌⊕◌, one_less, exactly, Same, rounded_up}
use Rattle.product.specs.Chain.{Factor, number, quantity, less, chain}
use Rattle.equations.specs.Equations.{total, microgram, micrograms}
use Rattle.equations.specs.Constants.{numbers}
use Rattle.product.proofs.Ratios.{same_of, times_assoc, times_swap, plus_zero, distributes_left, rounded_nothing}

-- ── a chain's factors other than its numbers

unfoldable pub others : List Factor → List Factor
others [] = []
others (number n d ∷ l) = others l
others (quantity x ∷ l) = quantity x ∷ others l
others (less x ∷ l) = less x ∷ others l

pub gather : (l : List Factor) → chain l ≡ numbers l · chain (others l)
unfolding chain numbers others
gather [] = refl
gather (number n d ∷ l) = ap (λ (r : Ratio). (n over d) · r) (gather l) ∙ times_assoc (n over d) (numbers l) (chain (others l))
gather (quantity x ∷ l) = ap (λ (r : Ratio). exactly x · r) (gather l) ∙ times_swap (exactly x) (numbers l) (chain (others l))
gather (less x ∷ l) = ap (λ (r : Ratio). one_less (exactly x) · r) (gather l) ∙ times_swap (one_less (exactly x)) (numbers l) (chain (others l))

-- ── lower numbers

pub others_positive : (l : List Factor) → 0 < (chain (others l)).lower
unfolding chain others
others_positive [] = omega arith
others_positive (number n d ∷ l) = others_positive l
others_positive (quantity x ∷ l) = mul-pos (pow_pos 1074) (others_positive l)
others_positive (less x ∷ l) = mul-pos (pow_pos 1074) (others_positive l)

pub chain_positive : (l : List Factor) → 0 < (numbers l).lower → 0 < (chain l).lower
chain_positive l h = rw (gather l) (mul-pos h (others_positive l))

-- ── kilograms to micrograms

pub one_term : (l : List Factor) → micrograms (l ∷ []) ≡ microgram · numbers l · chain (others l)
unfolding total
one_term l = ap (λ (r : Ratio). microgram · r) (plus_zero (chain l) ∙ gather l) ∙ times_assoc microgram (numbers l) (chain (others l))

pub two_terms : (l m : List Factor) → Same (microgram · numbers l · chain (others l) ⊕ microgram · numbers m · chain (others m)) (micrograms (l ∷ m ∷ []))
unfolding total
two_terms l m =
    let p = numbers l · chain (others l) in
    let q = numbers m · chain (others m) in
    same_of (λ j. sym (times_assoc microgram (numbers l) (chain (others l))) j ⊕ sym (times_assoc microgram (numbers m) (chain (others m))) j)
    (λ j. microgram · (gather l j ⊕ (plus_zero (chain m) ∙ gather m) j))
    (sym (distributes_left p q microgram))

pub no_equation : 0 ≡ rounded_up (micrograms [])
unfolding total
no_equation = sym (rounded_nothing 1 (omega arith))

-- ── an emission's lower number

unfoldable pub AllPositive : List (List Factor) → Type 0
AllPositive [] = Unit {0}
AllPositive (l ∷ ls) = (0 < (numbers l).lower) × AllPositive ls

total_positive : (ls : List (List Factor)) → AllPositive ls → 0 < (total ls).lower
unfolding total AllPositive
total_positive [] h = omega arith
total_positive (l ∷ ls) h = mul-pos (chain_positive l h.0) (total_positive ls h.1)

pub emission_positive : (ls : List (List Factor)) → AllPositive ls → 0 < (micrograms ls).lower
emission_positive ls h = mul-pos (omega arith) (total_positive ls h)
