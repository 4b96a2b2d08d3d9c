-- By length: refused with 1, or by the refusals of the head and then of the quantities; with none, accepted.
use mathlib.Core.Path.{sym, ap, ◌∙◌}
use Rattle.std.proofs.Common.{Err}
use Rattle.std.proofs.lemmas.Result.{err_from_is_err_and}
use Rattle.kinds.specs.Number.{number}
use Rattle.kinds.specs.declared.refusal.Refusal.TheVariants.{NotSixtyFour}
use Rattle.scenario.specs.Decoding.{case_of_patterns}
use Rattle.kinds.proofs.Refusals.{refusal_of_length}
use Rattle.scenario.proofs.Decoding.{refused_by_head, by_quantities, decoded_accepted, decoded_refused}
use Rattle.scenario.proofs.Said.{decoded_said}
use Rattle.scenario.proofs.decode.Goals as goal

pub returns-in_default : goal.returns-in_default
returns-in_default c =
    let b = c.args.case.now in
    decoded_said b (sym (decoded_refused b NotSixtyFour (refusal_of_length b c.in_default.ensures.cases)))

pub returns-in_err-head_refusal : goal.returns-in_err-head_refusal
returns-in_err-head_refusal c =
    let b = c.args.case.now in
    let w = c.in-Some.ensures.cases in
    let r = c.in_err-head_refusal.field-0.0 in
    let e = err_from_is_err_and c.from_residual.result c.from_residual.ensures.1 in
    let told = rw w.same at c.in_err-head_refusal.ensures in
    decoded_said b (e.1 ∙ ap Err e.2 ∙ sym (decoded_refused b r (refused_by_head b c.head_at-head.result w.long (rw w.same at c.head_at-head.ensures) r told)))

pub returns-in_err-quantities : goal.returns-in_err-quantities
returns-in_err-quantities c =
    let b = c.args.case.now in
    let w = c.in-Some.ensures.cases in
    let r = c.in_err-quantities.field-0.0 in
    let e = err_from_is_err_and c.from_residual-in_err-quantities.result c.from_residual-in_err-quantities.ensures.1 in
    let none = rw w.same at c.in_ok-head_refusal.ensures in
    let told = rw w.same at c.in_err-quantities.ensures.refusal in
    decoded_said b (e.1 ∙ ap Err e.2 ∙ sym (decoded_refused b r (by_quantities b c.head_at-head.result w.long (rw w.same at c.head_at-head.ensures)
    c.patterns_at-patterns.result (number r) (rw w.same at c.patterns_at-patterns.ensures) none told)))

pub returns : goal.returns
unfolding case_of_patterns
returns c =
    let b = c.args.case.now in
    let w = c.in-Some.ensures.cases in
    let head = rw w.same at c.head_at-head.ensures in
    let patterns = rw w.same at c.patterns_at-patterns.ensures in
    let none = rw w.same at c.in_ok-head_refusal.ensures in
    let none_of_six = rw w.same at c.in_ok-quantities.ensures.refusal in
    let z = by_quantities b c.head_at-head.result w.long head c.patterns_at-patterns.result 0 patterns none none_of_six in
    decoded_said b (rw (c.case_with.ensures, c.in_ok-quantities.ensures.value, head, patterns, w.same) (sym (decoded_accepted b z)))
