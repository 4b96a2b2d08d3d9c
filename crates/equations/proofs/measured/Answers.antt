-- Both terms share the houses and the area: with row 0 the case's own, otherwise the row's constant, by the table.
use mathlib.Core.Path.{refl, sym}
use mathlib.Core.List.{List, [], ◌∷◌}
use Prim.Native.Nat.{ℕ, ◌-◌}
use native.Mathlib.Omega.{arith}
use borrow.Author.Tests.{eq-eqb, ne_eqb}
use lib.Pow.{pow_pos}
use Rattle.equations.specs.Rows.{city_at}
use Rattle.product.specs.Ratio.{exactly}
use Rattle.product.specs.Chain.{Factor, quantity, chain}
use Rattle.equations.specs.Equations.{measured, measured_at, emitted}
use Rattle.equations.specs.Ranges.{Within, InRange}
use Rattle.equations.specs.Constants.{numbers}
use Rattle.product.proofs.Chains.{pull, quantities_positive}
use Rattle.equations.proofs.Chains.{others}
use Rattle.equations.proofs.Multiplied.{term, next, product_of, sum_at_most, figure_sum, small, within_each}
use Rattle.product.proofs.Limbs.{up_to_largest}
use Rattle.equations.proofs.Tables.{older_positive, older_same, figure_sum_at}
use Rattle.equations.proofs.measured.Goals as goal

pub sum_up-requires : goal.sum_up-requires
unfolding InRange Within small
sum_up-requires c =
    let w = c.requires.2 in
    let h = c.requires.1 c.if-head-eq0.true in
    (omega arith, omega arith, up_to_largest _ 100 w.0 (omega arith), up_to_largest _ 100 w.1.0 (omega arith), within_each _ (1 ∷ 1000 ∷ []) refl w.1.1)

pub returns-then-head-eq0 : goal.returns-then-head-eq0
unfolding InRange Within emitted numbers others chain product_of
returns-then-head-eq0 c =
    let a = c.args in
    let w = c.requires.2 in
    let e = c.if-head-eq0.true in
    let h = c.requires.1 e in
    let t = a.head.count in
    let m = measured a.early a.late a.share (quantity a.site.area) t in
    let xs = a.share ∷ a.site.area ∷ [] in
    rw (eq-eqb a.head.row 0 e)
    (figure_sum (term m) (next m) (quantity a.share ∷ quantity a.site.area ∷ []) (exactly a.early) (exactly a.late) _ _ 200000 _ c.sum_up.ensures
    (sym (pull (quantity a.share ∷ []) (quantity a.early) (quantity a.site.area ∷ []))) (sym (pull (quantity a.share ∷ []) (quantity a.late) (quantity a.site.area ∷ [])))
    (omega arith) (pow_pos 1074) (pow_pos 1074) (quantities_positive xs) (omega arith) (older_positive t (t - 30) (omega arith) (omega arith)) (omega arith) (older_same _ t (t - 30) refl)
    (sum_at_most a.early a.late 100 100 xs (1 ∷ 1000 ∷ []) w.0 w.1.0 w.1.1) (omega arith))

pub sum_up-requires-2 : goal.sum_up-requires-2
unfolding InRange Within small
sum_up-requires-2 c =
    let w = c.requires.2 in
    (omega arith, omega arith, up_to_largest _ 100 w.0 (omega arith), up_to_largest _ 100 w.1.0 (omega arith), within_each _ (1 ∷ []) refl (w.1.1.0, tt))

pub returns : goal.returns
unfolding InRange Within emitted others chain product_of
returns c =
    let a = c.args in
    let w = c.requires.2 in
    let n = c.if-head-eq0.false in
    let h = c.requires.0 in
    let m : ℕ → List (List Factor) = (λ row. measured_at a.early a.late a.share (city_at row)) in
    rw (ne_eqb a.head.row 0 n)
    (figure_sum_at (λ row. term (m row)) (λ row. next (m row)) (quantity a.share ∷ []) (exactly a.early) (exactly a.late) _ a.head.row _ _ 200 _ c.sum_up-2.ensures
    (c.measured_constants.ensures a.early a.late a.share) c.of_row.ensures (omega arith) (omega (arith, c.measured_constants.type_inv))
    (sym (pull (quantity a.share ∷ []) (quantity a.early) [])) (sym (pull (quantity a.share ∷ []) (quantity a.late) []))
    (omega arith) (pow_pos 1074) (pow_pos 1074) (quantities_positive (a.share ∷ []))
    (sum_at_most a.early a.late 100 100 (a.share ∷ []) (1 ∷ []) w.0 w.1.0 (w.1.1.0, tt)) (omega arith))
