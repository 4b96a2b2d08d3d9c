-- What a filing is given beside the archive and the used length, as one record: the definitions of a filing take it whole.
-- Paper 01, 'The ledger behind a history': what a filing offers, and when that is within the ranges.
use Rattle.std.specs.Prelude.{◌≡◌, List, ℕ}
use Rattle.kinds.specs.Refusal.{Condition}
use Rattle.kinds.specs.Case.{refusals, refusal_of}
use Rattle.records.specs.Layout.{Line}

pub record Offer : Type 0 where
  pub case : List ℕ

abbrev pub offer : List ℕ → Offer
offer c = record { case = c }

-- the conditions of its own refusals, which come before any from the state
abbrev pub own_refusals : Offer → List Condition
own_refusals o = refusals o.case

-- within the ranges, the paper's term: none of them holds
pub record Within (o : Offer) : Type 0 where
  pub case_within : refusal_of o.case ≡ 0

-- its line with some figures
abbrev pub line_with : Offer → List ℕ → Line
line_with o f = record { case = o.case; figures = f }
