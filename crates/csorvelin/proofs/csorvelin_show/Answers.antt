-- The place is where show takes its part; a number that is not refused is below n, so the offset fits.
use mathlib.Core.Path.{refl, sym, ◌∙◌}
use native.Mathlib.Omega.{arith}
use Rattle.archive.specs.Archive.{show_part}
use Rattle.archive.proofs.AnswerLaws.{beside}
use Rattle.archive.proofs.Accepted.{shown_facts}
use Rattle.csorvelin.specs.Place.{start_shown, length_shown}
use Rattle.csorvelin.proofs.csorvelin_show.Goals as goal

pub returns-in-Err : goal.returns-in-Err
unfolding show_part start_shown length_shown
returns-in-Err c =
    let e = c.in-Err.ensures in
    let r = c.in-Err.refusal in
    (c.number.ensures ∙ e, sym (beside r _ _ e), sym (beside r _ _ e), sym (beside r _ _ e))

pub overflow_mul-start : goal.overflow_mul-start
overflow_mul-start c = let s = shown_facts _ _ _ (sym c.in_default.ensures) in record { fits = omega arith }

pub returns : goal.returns
unfolding show_part start_shown length_shown
returns c = rw (sym c.in_default.ensures) (refl, refl, refl, refl)
