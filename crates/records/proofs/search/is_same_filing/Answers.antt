-- The same filing by its two numbers; where the dossiers differ, the heads are not compared.
use mathlib.Core.Path.{sym, ◌∙◌}
use borrow.Author.Rules.{rules}
use borrow.Author.Tests.{eq-eqb, ne_eqb}
use Rattle.records.proofs.SameFiling.{same_numbers}
use Rattle.records.proofs.search.is_same_filing.Goals as goal

pub returns-then-at : goal.returns-then-at
returns-then-at c =
    let same = same_numbers c.args.filed.now c.args.case.now c.fits-filed c.fits-case (search rules) (search rules) in
    rw (c.at-then-at.ensures, c.at-then-at-2.ensures) (rw (eq-eqb _ _ (sym c.at.ensures ∙ c.if-at.true ∙ c.at-2.ensures)) at same)

pub returns-else-at : goal.returns-else-at
returns-else-at c =
    let same = same_numbers c.args.filed.now c.args.case.now c.fits-filed c.fits-case (search rules) (search rules) in
    let other = ne_eqb _ _ (λ h. c.if-at.false (c.at.ensures ∙ h ∙ sym c.at-2.ensures)) in
    rw (c.at.ensures, c.at-2.ensures, other) (rw other at same)
