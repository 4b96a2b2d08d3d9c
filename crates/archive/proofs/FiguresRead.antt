-- What `figures_of` tells of bytes, in plain numbers: 96 of them are a record, with the numbers at 64, 72, 80 and 88 as its figures (`a_record`), any other number of
-- them is none, with zeros (`no_record`). Of what show lends: the figures of the record of that number, and none beside a refusal (`shown_record`, `shown_no_record`).
use mathlib.Core.Path.{◌≡◌, refl, ◌∙◌}
use mathlib.Core.Bool.{true, false}
use mathlib.Core.List.{List, [], ◌∷◌}
use Prim.Native.Nat.{ℕ, ◌+◌, ◌*◌}
use native.Mathlib.Omega.{arith}
use borrow.Author.Tests.{eq-eqb, ne_eqb}
use lib.ListN.{length, drop, length-drop}
use lib.Seq.{length-take-le}
use Rattle.octets.specs.Bytes.{number_at}
use Rattle.records.specs.Layout.{bytes_at}
use Rattle.records.proofs.RecordLaws.{line_figures, number_part}
use Rattle.archive.specs.Archive.{show_refusal, show_part, is_record, record_figures}
use Rattle.archive.proofs.AnswerLaws.{accepted_refused}
use Rattle.archive.proofs.Accepted.{shown_facts}

-- the four numbers of a record's figures, where it begins at an offset
abbrev pub four_at : List ℕ → ℕ → List ℕ
four_at b at = number_at b (at + 64) 8 ∷ number_at b (at + 72) 8 ∷ number_at b (at + 80) 8 ∷ number_at b (at + 88) 8 ∷ []

pub a_record : (r : List ℕ) → length r ≡ 96 → (is_record r ≡ true) × (record_figures r ≡ four_at r 0)
unfolding is_record record_figures
a_record r e = rw eq-eqb (refl, line_figures r)

pub no_record : (r : List ℕ) → (length r ≡ 96 → ⊥) → (is_record r ≡ false) × (record_figures r ≡ 0 ∷ 0 ∷ 0 ∷ 0 ∷ [])
unfolding is_record record_figures
no_record r h = rw ne_eqb (refl, refl)

-- ── of what show lends

pub shown_record : (b : List ℕ) (u k : ℕ) → show_refusal b u k ≡ 0 → (is_record (show_part b u k) ≡ true) × (record_figures (show_part b u k) ≡ four_at b (96 * k))
unfolding show_part
shown_record b u k e =
    let r = bytes_at b (96 * k) 96 in
    let i = (shown_facts b u k e).inside in
    let l : length r ≡ 96 = length-take-le 96 (drop (96 * k) b) (rw length-drop (omega arith)) in
    let p = a_record r l in
    rw e (p.0, p.1 ∙ λ j. number_part b (96 * k) 96 64 8 (omega arith) j ∷ number_part b (96 * k) 96 72 8 (omega arith) j ∷ number_part b (96 * k) 96 80 8 (omega arith) j ∷ number_part b (96 * k) 96 88 8 (omega arith) j ∷ [])

pub shown_no_record : (b : List ℕ) (u k : ℕ) → (show_refusal b u k ≡ 0 → ⊥) → (is_record (show_part b u k) ≡ false) × (record_figures (show_part b u k) ≡ 0 ∷ 0 ∷ 0 ∷ 0 ∷ [])
unfolding show_part
shown_no_record b u k h = rw (accepted_refused (show_refusal b u k) (bytes_at b (96 * k) 96) [] h) (no_record [] (λ z. omega arith))
