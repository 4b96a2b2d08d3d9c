-- What each call does, from the bytes b of the lent archive and a used length u: its effect, and by that the refusal, the answer and the bytes that the contracts cite; and the answer as a result.
-- Paper 01, 'The archive', 'From the state, after those, in this order'. Held and worst are the ledger's own, on the lines that the bytes hold.
use Rattle.std.specs.Prelude.{Bool, cond, List, [], ◌∷◌, ◌++◌, ℕ, ◌+◌, ltb, leb, eqb, length, Option, Some, None, Result, Ok, Err}
use Rattle.octets.specs.Bytes.{splice}
use Rattle.kinds.specs.Refusal.{Condition, ◌when◌, first_of}
use Rattle.emission.specs.Figures.{figures_of}
use Rattle.records.specs.Layout.{Line, trailer, line_of, trailer_size, used_length, record_size, edition, record_at}
use Rattle.archive.specs.Conditions.{accepted, full, not_compartment}
use Rattle.archive.specs.Offers.{Offer, own_refusals, line_with}
use Rattle.archive.specs.Answers.{start, entry, part, line, Answer, Effect, answer_by, left_by}
use Rattle.records.specs.Lines.{held, worst_of}
use Rattle.records.specs.Buffer.{count_at, broken, lines_in, written}
use Rattle.kinds.specs.Number.{refusal_at}
use Rattle.kinds.specs.declared.refusal.Refusal.{Refusal}
use Rattle.archive.specs.declared.Filed.{Filed}

-- ── empty

unfoldable pub empty_refusals : List ℕ → List Condition
empty_refusals b = (23 when ltb (length b) trailer_size) ∷ []

abbrev pub empty_effect : List ℕ → Effect (List ℕ)
empty_effect b = record { refusals = empty_refusals b; gives = start trailer_size; leaves = splice b 0 (trailer record_size edition 0); beside = start 0 }

abbrev pub empty_refusal : List ℕ → ℕ
empty_refusal b = first_of (empty_refusals b)

abbrev pub empty_answer : List ℕ → Answer
empty_answer b = answer_by (empty_effect b)

abbrev pub empty_bytes : List ℕ → List ℕ
empty_bytes b = left_by (empty_effect b) b

unfoldable pub emptying : List ℕ → Result ℕ Refusal
emptying b = accepted (empty_refusal b) (Ok trailer_size) (Err (refusal_at (empty_refusal b)))

-- ── file

-- from the records, where the trailer is as it must be
abbrev pub from_records : List ℕ → ℕ → Offer → List Condition
from_records b u o = (22 when held (lines_in b u) o.case) ∷ (23 when full (length b) u (count_at b u)) ∷ []

-- from the state, behind the offer's own
abbrev pub from_state : List ℕ → ℕ → Offer → List Condition
from_state b u o = (21 when broken b u) ∷ from_records b u o

unfoldable pub file_refusals : List ℕ → ℕ → Offer → List Condition
file_refusals b u o = own_refusals o ++ from_state b u o

-- the line of what is offered: the case with its figures
abbrev pub line_for : Offer → Line
line_for o = line_with o (figures_of o.case)

abbrev pub file_effect : List ℕ → ℕ → Offer → Effect (List ℕ)
file_effect b u o =
    let n = count_at b u in
    record { refusals = file_refusals b u o; gives = entry n (used_length record_size (n + 1)); leaves = written b n (line_for o); beside = entry 0 u }

abbrev pub file_refusal : List ℕ → ℕ → Offer → ℕ
file_refusal b u o = first_of (file_refusals b u o)

abbrev pub file_answer : List ℕ → ℕ → Offer → Answer
file_answer b u o = answer_by (file_effect b u o)

abbrev pub file_bytes : List ℕ → ℕ → Offer → List ℕ
file_bytes b u o = left_by (file_effect b u o) b

unfoldable pub filing : List ℕ → ℕ → Offer → Result Filed Refusal
filing b u o =
    accepted (file_refusal b u o)
    (Ok (record { number = count_at b u; used = used_length record_size (count_at b u + 1) }))
    (Err (refusal_at (file_refusal b u o)))

-- ── show

unfoldable pub show_refusals : List ℕ → ℕ → ℕ → List Condition
show_refusals b u k = (21 when broken b u) ∷ (24 when leb (count_at b u) k) ∷ []

abbrev pub show_effect : List ℕ → ℕ → ℕ → Effect (List ℕ)
show_effect b u k = record { refusals = show_refusals b u k; gives = part (record_at record_size b k); leaves = b; beside = part [] }

abbrev pub show_refusal : List ℕ → ℕ → ℕ → ℕ
show_refusal b u k = first_of (show_refusals b u k)

unfoldable pub show_part : List ℕ → ℕ → ℕ → List ℕ
show_part b u k = accepted (show_refusal b u k) (record_at record_size b k) []

-- ── worst

unfoldable pub worst_refusals : List ℕ → ℕ → ℕ → List Condition
worst_refusals b u m = (12 when not_compartment m) ∷ (21 when broken b u) ∷ (24 when eqb (count_at b u) 0) ∷ []

abbrev pub worst_effect : List ℕ → ℕ → ℕ → Effect (List ℕ)
worst_effect b u m = record { refusals = worst_refusals b u m; gives = line (worst_of m (lines_in b u)); leaves = b; beside = line 0 }

abbrev pub worst_refusal : List ℕ → ℕ → ℕ → ℕ
worst_refusal b u m = first_of (worst_refusals b u m)

abbrev pub worst_answer : List ℕ → ℕ → ℕ → Answer
worst_answer b u m = answer_by (worst_effect b u m)

unfoldable pub naming : List ℕ → ℕ → ℕ → Result ℕ Refusal
naming b u m = accepted (worst_refusal b u m) (Ok (worst_of m (lines_in b u))) (Err (refusal_at (worst_refusal b u m)))

-- ── the figures of a record

-- bytes are a record by their number alone: 96, what show lends
unfoldable pub is_record : List ℕ → Bool
is_record r = eqb (length r) record_size

-- those of its line, and zeros beside what is no record
unfoldable pub record_figures : List ℕ → List ℕ
record_figures r = cond (is_record r) (line_of r).figures (0 ∷ 0 ∷ 0 ∷ 0 ∷ [])

-- the figures that are told of bytes: zeros where none are
abbrev pub told_figures : Option (List ℕ) → List ℕ
told_figures (Some f) = f
told_figures None = 0 ∷ 0 ∷ 0 ∷ 0 ∷ []
