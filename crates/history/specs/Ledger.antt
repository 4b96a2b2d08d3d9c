-- The ledger behind a history: lines that requests alone move, and the answer to each. No definition here takes the bytes of an archive.
-- Paper 01, 'The ledger behind a history'.
use Rattle.std.specs.Prelude.{List, [], ◌∷◌, ◌++◌, ℕ, ◌+◌, ltb, leb, eqb, length, get_or}
use Rattle.kinds.specs.Refusal.{Condition, ◌when◌}
use Rattle.records.specs.Layout.{Line, no_line, record_of, trailer_size, used_length, record_size}
use Rattle.records.specs.Lines.{held, worst_of}
use Rattle.archive.specs.Conditions.{full, not_compartment}
use Rattle.archive.specs.Offers.{Offer, own_refusals, line_with}
use Rattle.archive.specs.Answers.{start, entry, part, line, Answer, Effect, answer_by, left_by}

-- A call as the ledger is fed it. Whose figures come with a filing is said by `FedBy` of History.
pub data Request : Type 0 where
  empty : Request
  file : (offered : Offer) (figures : List ℕ) → Request
  show : (number : ℕ) → Request
  worst : (compartment : ℕ) → Request

-- ── what a filing is refused by, from the lines and the size of the buffer; the used length is that of the lines, so that 21 has no place in a list

abbrev pub from_lines : ℕ → List Line → Offer → List Condition
from_lines size ls o = (22 when held ls o.case) ∷ (23 when full size (used_length record_size (length ls)) (length ls)) ∷ []

unfoldable pub judged_file : ℕ → List Line → Offer → List Condition
judged_file size ls o = own_refusals o ++ from_lines size ls o

-- ── the ledger, the paper's term

-- its ruling on a request, on a buffer of some size: refusals, places, and lines
abbrev pub ruling : ℕ → List Line → Request → Effect (List Line)
ruling size ls empty = record { refusals = (23 when ltb size trailer_size) ∷ []; gives = start trailer_size; leaves = []; beside = start 0 }
ruling size ls (file o f) =
    let n = length ls in
    record { refusals = judged_file size ls o; gives = entry n (used_length record_size (n + 1)); leaves = ls ++ (line_with o f ∷ []); beside = entry 0 (used_length record_size n) }
ruling size ls (show k) = record { refusals = (24 when leb (length ls) k) ∷ []; gives = part (record_of (get_or ls k no_line)); leaves = ls; beside = part [] }
ruling size ls (worst m) = record { refusals = (12 when not_compartment m) ∷ (24 when eqb (length ls) 0) ∷ []; gives = line (worst_of m ls); leaves = ls; beside = line 0 }

-- its answer to a request
unfoldable pub answer : ℕ → List Line → Request → Answer
answer size ls c = answer_by (ruling size ls c)

-- its lines after a request: moved where it is accepted, and otherwise as they were
unfoldable pub after : ℕ → List Line → Request → List Line
after size ls c = left_by (ruling size ls c) ls

-- over a list of requests
unfoldable pub answers : ℕ → List Line → List Request → List Answer
answers size ls [] = []
answers size ls (c ∷ cs) = answer size ls c ∷ answers size (after size ls c) cs

unfoldable pub lines : ℕ → List Line → List Request → List Line
lines size ls [] = ls
lines size ls (c ∷ cs) = lines size (after size ls c) cs
