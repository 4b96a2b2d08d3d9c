-- Row 0: the chain with the case's own quantities; otherwise the row's constant, by the table; both times the hundredths lost.
use mathlib.Core.Path.{refl}
use mathlib.Core.List.{List, [], ◌∷◌}
use Prim.Native.Nat.{ℕ, ◌*◌, ◌≤◌}
use native.Mathlib.Omega.{arith}
use borrow.Author.Tests.{eq-eqb, ne_eqb}
use native.Mathlib.Nat.{mul-le-mul_right}
use Rattle.product.specs.Chain.{number, quantity}
use Rattle.equations.specs.Equations.{application, emitted}
use Rattle.equations.specs.Ranges.{Within, InRange}
use Rattle.equations.specs.Constants.{numbers}
use Rattle.equations.proofs.Chains.{others}
use Rattle.equations.proofs.Multiplied.{term, product_of, chain_at_most, figure, small, within_each}
use Rattle.equations.proofs.Tables.{constant_small, lost_fits, figure_lost}
use Rattle.equations.proofs.application.Goals as goal

-- with row 0: area, volume, density, active
abbrev limits : List ℕ
limits = 1000 ∷ 100 ∷ 5000 ∷ 1 ∷ []

pub overflow_mul-lost-then-head-eq0 : goal.overflow_mul-lost-then-head-eq0
unfolding InRange
overflow_mul-lost-then-head-eq0 c =
    let t = c.requires.1 in
    let p : c.hundredths-lost.result * c.from.result ≤ 5 * c.from.result = mul-le-mul_right _ c.hundredths-lost.ensures.1 in
    record { fits = omega arith }

pub product_up-requires : goal.product_up-requires
unfolding InRange small
product_up-requires c = (omega arith, omega arith, within_each _ limits refl c.requires.2)

pub returns-then-head-eq0 : goal.returns-then-head-eq0
unfolding InRange emitted numbers others product_of
returns-then-head-eq0 c =
    let a = c.args in
    let t = c.requires.1 in
    let p : c.hundredths-lost.result * c.from.result ≤ 5 * c.from.result = mul-le-mul_right _ c.hundredths-lost.ensures.1 in
    let l = term (application a.active (quantity a.site.area) (quantity a.site.volume) (quantity a.site.density) (number c.hundredths-lost.result 100) c.from.result) in
    rw (eq-eqb a.head.row 0 c.if-head-eq0.true, ← c.hundredths-lost.ensures.0, ← c.from.ensures)
    (figure l _ _ _ _ _ c.product_up.ensures refl (omega arith) (omega arith) (omega arith) (chain_at_most _ limits c.requires.2) (omega arith))

pub overflow_mul-lost-2 : goal.overflow_mul-lost-2
unfolding InRange
overflow_mul-lost-2 c =
    let n = c.if-head-eq0.false in
    let h = c.requires.0 in
    let e = c.application_constants.ensures c.args.active in
    let m = constant_small _ 1 _ e c.args.head.row _ c.of_row.ensures (omega arith) (omega (arith, c.application_constants.type_inv)) in
    record { fits = lost_fits _ _ c.hundredths-lost.ensures.1 m }

pub product_up-requires-2 : goal.product_up-requires-2
unfolding InRange Within small
product_up-requires-2 c =
    let w = c.requires.2 in
    (omega arith, omega arith, within_each _ (1 ∷ []) refl w.1.1.1)

pub returns : goal.returns
unfolding InRange Within emitted product_of
returns c =
    let a = c.args in
    let n = c.if-head-eq0.false in
    let h = c.requires.0 in
    rw (ne_eqb a.head.row 0 n, ← c.hundredths-lost.ensures.0)
    (figure_lost a.active _ _ a.head.row _ _ _ c.product_up-2.ensures (c.application_constants.ensures a.active) c.of_row.ensures
    (omega arith) (omega (arith, c.application_constants.type_inv)) c.hundredths-lost.ensures.1 refl (chain_at_most (a.active ∷ []) (1 ∷ []) c.requires.2.1.1.1))
