-- A refusal writes nothing; without one the line is written behind the records that are there.
use mathlib.Core.Path.{sym}
use native.Mathlib.Omega.{arith}
use Rattle.kinds.specs.Number.{number}
use Rattle.archive.proofs.AnswerLaws.{has_number, handed_on}
use Rattle.archive.proofs.Cases.{case_size_lem}
use Rattle.archive.proofs.Refusals.{case_refused, behind_case}
use Rattle.archive.proofs.Accepted.{free_facts, file_refused, file_accepted}
use Rattle.archive.proofs.file.Goals as goal

pub returns-in_err-figures : goal.returns-in_err-figures
returns-in_err-figures c =
    let r = c.in_err-figures.field-0.0 in
    rw (handed_on _ r c.from_residual.ensures.1) (file_refused _ _ _ r (case_refused _ _ _ (number r) c.in_err-figures.ensures.0 (has_number r)))

pub unwrap-case-requires : goal.unwrap-case-requires
unwrap-case-requires c = c.as_array.ensures.variant.1 (case_size_lem _ (sym c.in_ok-figures.ensures.0))

pub returns-in_err-n : goal.returns-in_err-n
returns-in_err-n c =
    let r = c.in_err-n.field-0.0 in
    let same = (rw c.unwrap-case.ensures at c.as_array.ensures.cases).same in
    rw (handed_on _ r c.from_residual-in_err-n.ensures.1) (file_refused _ _ _ r (behind_case _ _ c.in_ok-figures.ensures.0 same c.in_err-n.ensures.refusal))

pub put_line-requires : goal.put_line-requires
put_line-requires c =
    let same = (rw c.unwrap-case.ensures at c.as_array.ensures.cases).same in
    let h = free_facts _ _ _ (sym (behind_case _ _ c.in_ok-figures.ensures.0 same c.in_ok-n.ensures.refusal)) in
    let e = c.in_ok-n.ensures.number in
    (omega (arith, h.length_is, h.room), omega (arith, h.fewer))

pub overflow_add-used : goal.overflow_add-used
overflow_add-used c =
    let same = (rw c.unwrap-case.ensures at c.as_array.ensures.cases).same in
    let h = free_facts _ _ _ (sym (behind_case _ _ c.in_ok-figures.ensures.0 same c.in_ok-n.ensures.refusal)) in
    record { fits = omega (arith, h.length_is, h.fewer) }

pub returns : goal.returns
returns c =
    let same = (rw c.unwrap-case.ensures at c.as_array.ensures.cases).same in
    let z = behind_case _ _ c.in_ok-figures.ensures.0 same c.in_ok-n.ensures.refusal in
    file_accepted _ _ _ (sym z) c.in_ok-n.ensures.number same c.in_ok-figures.ensures.1 c.put_line.ensures
