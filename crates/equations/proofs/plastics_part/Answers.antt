-- The active part and the compartment's, with the usage in the constant.
use mathlib.Core.Path.{refl}
use mathlib.Core.List.{List, [], ◌∷◌}
use Prim.Native.Nat.{ℕ}
use native.Mathlib.Omega.{arith}
use Rattle.equations.specs.Equations.{plastics}
use Rattle.equations.specs.Constants.{numbers}
use Rattle.equations.proofs.Chains.{others}
use Rattle.equations.proofs.Multiplied.{small, within_each, term, product_of, chain_at_most, figure}
use Rattle.equations.proofs.plastics_part.Goals as goal

abbrev limits : List ℕ
limits = 1 ∷ 1 ∷ []

pub product_up-requires : goal.product_up-requires
unfolding small
product_up-requires c =
    let t = c.requires.1 in
    (omega arith, omega arith, within_each _ limits refl c.requires.2)

pub returns : goal.returns
unfolding numbers others product_of
returns c =
    let a = c.args in
    let h = c.requires.0 in
    let t = c.requires.1 in
    rw (← c.from.ensures)
    (figure (term (plastics c.from.result a.active a.part a.days)) _ _ _ _ _ c.product_up.ensures refl (omega arith) (omega arith) (omega arith) (chain_at_most (a.active ∷ a.part ∷ []) limits c.requires.2) (omega arith))
