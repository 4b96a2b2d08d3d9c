-- The tonnage and the main source, which the compartments share, then each compartment's fraction.
use mathlib.Core.Path.{◌≡◌, refl, ap}
use mathlib.Core.List.{List, [], ◌∷◌}
use Prim.Native.Nat.{ℕ, ◌≤◌}
use native.Mathlib.Omega.{arith}
use lib.Ieee.{Float}
use lib.ListN.{get_or}
use Rattle.product.specs.Ratio.{◌over◌, ◌·◌, rounded_up, rounded_u64}
use Rattle.product.specs.Chain.{quantity, chain}
use Rattle.product.specs.Ranges.{UpTo}
use Rattle.equations.specs.Equations.{formulation, emitted, micrograms}
use Rattle.equations.specs.Ranges.{Within, InRange}
use Rattle.equations.specs.Constants.{numbers}
use Rattle.equations.proofs.Chains.{others}
use Rattle.equations.proofs.Multiplied.{small, within_each, term, product_of, chain_at_most, figure}
use Rattle.equations.proofs.formulation.Goals as goal

-- tonnage, main source, compartment
abbrev limits : List ℕ
limits = 1000000 ∷ 1 ∷ 1 ∷ []

pub three_up-requires : goal.three_up-requires
unfolding InRange Within small
three_up-requires c =
    let w = c.requires.1 in
    (omega arith, c.requires.0, within_each _ (1000000 ∷ 1 ∷ []) refl (w.0, (w.1.0, tt)), within_each _ (1 ∷ 1 ∷ 1 ∷ []) refl w.1.1)

-- one compartment
to : (a b x : Float) (t r : ℕ) → 1 ≤ t → UpTo 1000000 a → UpTo 1 b → UpTo 1 x
    → r ≡ rounded_u64 (1000000000000 over t · chain (quantity a ∷ quantity b ∷ quantity x ∷ [])) → r ≡ rounded_up (micrograms (formulation a b x t))
unfolding Within numbers others product_of
to a b x t r h ua ub ux e =
    figure (term (formulation a b x t)) _ _ _ 1000000 _ e refl h (omega arith) (omega arith) (chain_at_most (a ∷ b ∷ x ∷ []) limits (ua, (ub, (ux, tt)))) (omega arith)

pub returns : goal.returns
unfolding InRange Within emitted
returns c =
    let a = c.args in
    let w = c.requires.1 in
    let e = c.three_up.ensures in (
      to a.tonnage a.source a.water a.head.count _ c.requires.0 w.0 w.1.0 w.1.1.0 (ap (λ (l : List ℕ). get_or l 0 0) e),
      to a.tonnage a.source a.air a.head.count _ c.requires.0 w.0 w.1.0 w.1.1.1.0 (ap (λ (l : List ℕ). get_or l 1 0) e),
      to a.tonnage a.source a.soil a.head.count _ c.requires.0 w.0 w.1.0 w.1.1.1.1.0 (ap (λ (l : List ℕ). get_or l 2 0) e),
    )
