-- The chain with 1 less the disintegrated fraction brought to the front; D is T with row 0, otherwise 260.
use mathlib.Core.Path.{refl, sym}
use mathlib.Core.List.{List, [], ◌∷◌}
use Prim.Native.Nat.{ℕ, ◌≤◌}
use native.Mathlib.Omega.{arith}
use Rattle.product.specs.Chain.{quantity, less}
use Rattle.equations.specs.Equations.{sanitary, emitted}
use Rattle.equations.specs.Ranges.{Within, InRange}
use Rattle.equations.specs.Constants.{numbers}
use Rattle.product.proofs.Chains.{pull}
use Rattle.equations.proofs.Chains.{others}
use Rattle.equations.proofs.Multiplied.{term, product_of, remainder_at_most, counted, figure, small, within_each}
use Rattle.equations.proofs.sanitary.Goals as goal

-- tonnage, to water
abbrev limits : List ℕ
limits = 1000000 ∷ 1 ∷ []

pub remainder_up-requires : goal.remainder_up-requires
unfolding InRange Within small
remainder_up-requires c =
    let w = c.requires.1 in
    let h : 1 ≤ c.count_or.result = rw c.count_or.ensures (counted (λ (n : ℕ). 1 ≤ n) _ _ _ c.requires.0 (omega arith)) in
    (omega arith, omega arith, w.0, within_each _ limits refl w.1)

pub returns : goal.returns
unfolding InRange Within emitted numbers others product_of
returns c =
    let a = c.args in
    let h : 1 ≤ c.count_or.result = rw c.count_or.ensures (counted (λ (n : ℕ). 1 ≤ n) _ _ _ c.requires.0 (omega arith)) in
    rw (← c.count_or.ensures)
    (figure (term (sanitary a.tonnage a.disintegrated a.water c.count_or.result)) _ _ _ _ _ c.remainder_up.ensures
    (sym (pull (quantity a.tonnage ∷ []) (less a.disintegrated) (quantity a.water ∷ []))) (omega arith) (omega arith) (omega arith) (remainder_at_most _ (a.tonnage ∷ a.water ∷ []) limits c.requires.1.1) (omega arith))
