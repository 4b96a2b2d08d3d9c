-- Row 0: the chain with the case's own quantities; otherwise the row's constant, by the table.
use mathlib.Core.Path.{refl}
use mathlib.Core.List.{List, [], ◌∷◌}
use Prim.Native.Nat.{ℕ}
use native.Mathlib.Omega.{arith}
use borrow.Author.Tests.{eq-eqb, ne_eqb}
use Rattle.equations.specs.Rows.{city_at}
use Rattle.product.specs.Chain.{quantity}
use Rattle.equations.specs.Equations.{unknown, unknown_at, emitted}
use Rattle.equations.specs.Ranges.{Within, InRange}
use Rattle.equations.specs.Constants.{numbers}
use Rattle.equations.proofs.Chains.{others}
use Rattle.equations.proofs.Multiplied.{term, product_of, chain_at_most, figure, small, within_each}
use Rattle.equations.proofs.Tables.{figure_at}
use Rattle.equations.proofs.unknown.Goals as goal

-- with row 0: share, area, volume, density, active
abbrev limits : List ℕ
limits = 1 ∷ 1000 ∷ 100 ∷ 5000 ∷ 1 ∷ []

pub product_up-requires : goal.product_up-requires
unfolding InRange small
product_up-requires c =
    let h = c.requires.1 c.if-head-eq0.true in
    (omega arith, omega arith, within_each _ limits refl c.requires.2)

pub returns-then-head-eq0 : goal.returns-then-head-eq0
unfolding InRange emitted numbers others product_of
returns-then-head-eq0 c =
    let a = c.args in
    let e = c.if-head-eq0.true in
    let h = c.requires.1 e in
    let l = term (unknown a.active a.share (quantity a.site.area) (quantity a.site.volume) (quantity a.site.density) a.head.count) in
    rw (eq-eqb a.head.row 0 e)
    (figure l _ _ _ _ _ c.product_up.ensures refl (omega arith) (omega arith) (omega arith) (chain_at_most _ limits c.requires.2) (omega arith))

pub product_up-requires-2 : goal.product_up-requires-2
unfolding InRange Within small
product_up-requires-2 c =
    let w = c.requires.2 in
    (omega arith, omega arith, within_each _ (1 ∷ 1 ∷ []) refl (w.0, (w.1.1.1.1.0, tt)))

pub returns : goal.returns
unfolding InRange Within emitted others product_of
returns c =
    let a = c.args in
    let n = c.if-head-eq0.false in
    let w = c.requires.2 in
    let h = c.requires.0 in
    rw (ne_eqb a.head.row 0 n)
    (figure_at (λ row. term (unknown_at a.active a.share (city_at row))) _ _ a.head.row _ _ _ _ c.product_up-2.ensures (c.unknown_constants.ensures a.active a.share) c.of_row.ensures (omega arith) (omega (arith, c.unknown_constants.type_inv)) refl (omega arith) (chain_at_most (a.share ∷ a.active ∷ []) (1 ∷ 1 ∷ []) (w.0, (w.1.1.1.1.0, tt))) (omega arith))
