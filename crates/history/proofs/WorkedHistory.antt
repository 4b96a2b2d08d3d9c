-- By computation: `worked_history_lem`, the ledger's answers to the calls of the table are those that it prints; `worked_fed`, the figures
-- that it feeds are those of the cases, with route 2, air, soil, a value rounded up and a value of zero among them; `worked_archive_lem`, the archive
-- of the lines that the ledger then has, in plain bytes; `demand3` says that the buffer holds it.
use mathlib.Core.Path.{◌≡◌, refl}
use mathlib.Core.List.{[], map}
use Prim.Native.Nat.{ℕ}
use native.Mathlib.Omega.{arith}
use lib.Ieee.{of_bits, to_bits, add, le}
use Rattle.octets.specs.Bytes.{bytes_of, number_of, number_at}
use Rattle.binary64.specs.Pattern.{is_unsigned_finite}
use Rattle.binary64.specs.Quantity.{whole_at, whole}
use Rattle.kinds.specs.Polymers.{polymers, usages_of, usage_at}
use Rattle.kinds.specs.Case.{kinds, kind_at, not_sixty_four, kind_unknown, row_unknown, route_not_allowed, user_not_allowed, usage_missing, count_not_allowed, not_number, not_zero_bytes, over_limit, sum_from, sum_within, summed_of, sum_over, refusal_of}
use Rattle.scenario.specs.Decoding.{case_with, case_of_patterns, head_of}
use Rattle.kinds.specs.Builder.{case_bytes}
use Rattle.natural.specs.Ceiling.{ceiling}
use Rattle.product.specs.Chain.{chain}
use Rattle.equations.specs.Rows.{cities, city_at, hygienes, hygiene_at}
use Rattle.equations.specs.Equations.{total, emitted}
use Rattle.emission.specs.Figures.{exact_values, figures_of}
use Rattle.records.specs.Layout.{figure_bytes, record_of, records, trailer, archive_of, record_size, edition}
use Rattle.records.specs.Lines.{same_filing, held, figure, worst_by, worst_of}
use Rattle.archive.specs.Conditions.{full}
use Rattle.history.specs.Ledger.{judged_file, answer, after, answers, lines}
use Rattle.history.specs.History.{AllFed}
use Rattle.history.specs.WorkedHistory.{Told, worked_history, worked_archive}

pub worked_history_lem : answers 496 [] (map (λ (t : Told). t.call) worked_history) ≡ map (λ (t : Told). t.answer) worked_history
unfolding worked_history answers answer after judged_file same_filing held full figure worst_by worst_of figure_bytes record_of case_bytes bytes_of number_of number_at kinds kind_at not_sixty_four kind_unknown row_unknown route_not_allowed user_not_allowed usage_missing usage_at usages_of polymers count_not_allowed not_number is_unsigned_finite not_zero_bytes over_limit whole whole_at sum_over summed_of sum_within sum_from add le of_bits
worked_history_lem = refl

infixr 1 ◌and◌
◌and◌ : {A B : Type 0} → A → B → A × B
a and b = (a, b)

-- also of the cases that are refused, whose figures are zeros; of what is no case any figures are fed
pub worked_fed : AllFed (map (λ (t : Told). t.call) worked_history)
unfolding worked_history case_bytes bytes_of figures_of exact_values emitted chain total cities city_at hygienes hygiene_at case_of_patterns case_with head_of number_at number_of refusal_of not_sixty_four kind_unknown row_unknown route_not_allowed user_not_allowed usage_missing usage_at usages_of polymers count_not_allowed not_number not_zero_bytes over_limit sum_from sum_within summed_of sum_over kinds kind_at is_unsigned_finite whole whole_at add le of_bits to_bits ceiling
worked_fed =
    tt and tt and tt and tt
    and (λ e. refl)
    and (λ e. (let z : ◌≡◌ {A = ℕ} 1 0 = e.case_within in absurd (omega (arith, z))))
    and (λ e. refl) and (λ e. refl) and (λ e. refl) and (λ e. refl) and (λ e. refl) and (λ e. refl) and (λ e. refl) and (λ e. refl) and (λ e. refl) and (λ e. refl)
    and tt and tt and tt and tt and tt and tt and tt and tt and tt
    and (λ e. refl) and (λ e. refl) and (λ e. refl)
    and tt and tt and tt
    and (λ e. refl) and (λ e. refl)
    and tt and tt
    and tt

pub worked_archive_lem : archive_of record_size edition (lines 496 [] (map (λ (t : Told). t.call) worked_history)) ≡ worked_archive
unfolding worked_history lines after judged_file same_filing held full figure_bytes record_of records trailer archive_of case_bytes bytes_of number_of number_at kinds kind_at not_sixty_four kind_unknown row_unknown route_not_allowed user_not_allowed usage_missing usage_at usages_of polymers count_not_allowed not_number is_unsigned_finite not_zero_bytes over_limit whole whole_at sum_over summed_of sum_within sum_from add le of_bits
worked_archive_lem = refl
