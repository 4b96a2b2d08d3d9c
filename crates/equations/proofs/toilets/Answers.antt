-- The chain with 1 less the disintegrated fraction brought to the front; N is T with row 0, otherwise 1.
use mathlib.Core.Path.{refl, sym}
use mathlib.Core.List.{List, [], ◌∷◌}
use Prim.Native.Nat.{ℕ, ◌≤◌}
use native.Mathlib.Omega.{arith}
use Rattle.product.specs.Chain.{quantity, less}
use Rattle.equations.specs.Equations.{toilets, emitted}
use Rattle.equations.specs.Ranges.{Within, InRange}
use Rattle.equations.specs.Constants.{numbers}
use Rattle.product.proofs.Chains.{pull}
use Rattle.equations.proofs.Chains.{others}
use Rattle.equations.proofs.Multiplied.{term, product_of, remainder_at_most, counted, figure, small, within_each}
use Rattle.equations.proofs.toilets.Goals as goal

-- dose, density, active, to the plant
abbrev limits : List ℕ
limits = 1 ∷ 5 ∷ 1 ∷ 1 ∷ []

pub overflow_mul-emptied : goal.overflow_mul-emptied
unfolding InRange
overflow_mul-emptied c =
    let h : c.from-emptied.result ≤ 100 = rw (c.from-emptied.ensures, c.count_or.ensures) (counted (λ (n : ℕ). n ≤ 100) c.args.head.row c.args.head.count 1 (λ _. c.requires.0) (omega arith)) in
    record { fits = omega arith }

pub remainder_up-requires : goal.remainder_up-requires
unfolding InRange Within small
remainder_up-requires c =
    let w = c.requires.1 in
    (omega arith, omega arith, w.0, within_each _ limits refl w.1)

pub returns : goal.returns
unfolding InRange Within emitted numbers others product_of
returns c =
    let a = c.args in
    let h : c.from-emptied.result ≤ 100 = rw (c.from-emptied.ensures, c.count_or.ensures) (counted (λ (n : ℕ). n ≤ 100) c.args.head.row c.args.head.count 1 (λ _. c.requires.0) (omega arith)) in
    rw (← c.count_or.ensures, ← c.from-emptied.ensures)
    (figure (term (toilets a.dose a.active a.density a.disintegrated a.plant c.from-emptied.result)) _ _ _ _ _ c.remainder_up.ensures
    (sym (pull (quantity a.dose ∷ quantity a.density ∷ quantity a.active ∷ []) (less a.disintegrated) (quantity a.plant ∷ []))) (omega arith) (omega arith) (omega arith) (remainder_at_most _ (a.dose ∷ a.density ∷ a.active ∷ a.plant ∷ []) limits c.requires.1.1) (omega arith))
