-- Refusals 8 to 10 by the faults, and where none holds 11 by the sum: one list after another.
use mathlib.Core.Path.{◌≡◌, refl, ◌∙◌}
use mathlib.Core.Bool.{Bool, true, not}
use mathlib.Core.List.{List, [], ◌∷◌}
use Prim.Native.Nat.{ℕ, ◌<◌}
use native.Mathlib.Omega.{arith}
use lib.Ieee.{Float}
use borrow.Author.Tests.{eqb-false}
use Rattle.std.proofs.iter.Serving.{serving}
use Rattle.std.proofs.lemmas.Grind.{common_steps}
use Rattle.std.proofs.lemmas.Result.{err_from_is_err_and}
use Rattle.binary64.specs.Pattern.{is_unsigned_finite}
use Rattle.kinds.specs.Refusal.{◌when◌}
use Rattle.kinds.specs.Number.{number}
use Rattle.kinds.specs.Case.{of_six, quantity_of, sum_within, summed_of, sum_over}
use Rattle.kinds.specs.Patterns.{at}
use Rattle.kinds.proofs.Numbers.{number_not_zero}
use Rattle.kinds.proofs.Refusals.{first_of_some, first_of_none}
use Rattle.kinds.proofs.Six.{each_finite}
use Rattle.scenario.specs.Faults.{told_of}
use Rattle.scenario.proofs.Faults.{told_first, faults_numbers}
use Rattle.scenario.proofs.quantities.quantities_of.Goals as goal

pub returns-in_err-told-clause-refusal : goal.returns-in_err-told-clause-refusal
returns-in_err-told-clause-refusal c =
    let s = c.args in
    let r = c.in_err-told.field-0.0 in
    let e = err_from_is_err_and c.from_residual.result c.from_residual.ensures.1 in
    let f = c.faults_of.result in
    rw (e.1, e.2)
    (first_of_some (told_of f) ((11 when sum_over s.kind (at s.p.now)) ∷ []) (number r) refl c.in_err-told.ensures (eqb-false (number r) 0 (number_not_zero r))
    ∙ told_first s.kind s.row (at s.p.now) f c.faults_of.ensures)

pub from_fn-quantities-requires : goal.from_fn-quantities-requires
from_fn-quantities-requires c =
    let numbers : (i : ℕ) → i < 6 → is_unsigned_finite (at c.args.p.now i) ≡ true =
    each_finite (at c.args.p.now) (faults_numbers c.args.kind c.args.row (at c.args.p.now) c.faults_of.ensures c.in_ok-told.ensures) in
    grind (serving, arith, numbers)

-- by the sum of the quantities q
summed : (k : ℕ) (p : ℕ → ℕ) (q : List Float) (t : Bool) → t ≡ not (sum_within (summed_of k q)) → q ≡ of_six (λ i. quantity_of (p i)) → sum_over k p ≡ t
unfolding sum_over
summed k p q t e h = rw (e, h)

pub returns-then-sum_over-clause-refusal : goal.returns-then-sum_over-clause-refusal
returns-then-sum_over-clause-refusal c =
    let s = c.args in
    let q : c.from_fn-quantities.result ≡ of_six (λ i. quantity_of (at s.p.now i)) = grind (arith, common_steps) in
    let f = c.faults_of.result in
    first_of_none (told_of f) ((11 when sum_over s.kind (at s.p.now)) ∷ []) 0 11 refl c.in_ok-told.ensures refl
    (rw (summed s.kind (at s.p.now) c.from_fn-quantities.result _ c.sum_over.ensures q, c.if-sum_over.true))
    ∙ told_first s.kind s.row (at s.p.now) f c.faults_of.ensures

pub returns-clause-refusal : goal.returns-clause-refusal
returns-clause-refusal c =
    let s = c.args in
    let q : c.from_fn-quantities.result ≡ of_six (λ i. quantity_of (at s.p.now i)) = grind (arith, common_steps) in
    let f = c.faults_of.result in
    first_of_none (told_of f) ((11 when sum_over s.kind (at s.p.now)) ∷ []) 0 0 refl c.in_ok-told.ensures refl
    (rw (summed s.kind (at s.p.now) c.from_fn-quantities.result _ c.sum_over.ensures q, c.if-sum_over.false))
    ∙ told_first s.kind s.row (at s.p.now) f c.faults_of.ensures
