-- An answer in the paper's numbers: a refusal and its places; what each result says so; and the effect of a call, from which its answer and what it leaves follow alike for every call.
-- Paper 01, 'From the state': "the places for figures and record number hold 0 beside it …; the used length comes back as given (empty: 0)".
use Rattle.std.specs.Prelude.{List, ℕ, Result, Ok, Err}
use Rattle.kinds.specs.Refusal.{Condition, first_of}
use Rattle.kinds.specs.Number.{number}
use Rattle.kinds.specs.declared.refusal.Refusal.{Refusal}
use Rattle.archive.specs.Conditions.{accepted}
use Rattle.archive.specs.declared.Filed.{Filed}

-- The places: of empty the used length, of file number and used length, of show the part, of worst the number.
pub data Places : Type 0 where
  start : (used : ℕ) → Places
  entry : (number used : ℕ) → Places
  part : (bytes : List ℕ) → Places
  line : (number : ℕ) → Places

-- What a call gives back. The refusal is 0 where the call is accepted.
pub record Answer : Type 0 where
  pub refusal : ℕ
  pub places : Places

abbrev pub answering : ℕ → Places → Answer
answering r p = record { refusal = r; places = p }

abbrev pub emptied : ℕ → ℕ → Answer
emptied r v = answering r (start v)

abbrev pub filed : ℕ → ℕ → ℕ → Answer
filed r k v = answering r (entry k v)

abbrev pub shown : ℕ → List ℕ → Answer
shown r p = answering r (part p)

abbrev pub named : ℕ → ℕ → Answer
named r k = answering r (line k)

-- ── of each result

abbrev pub of_emptied : Result ℕ Refusal → Answer
of_emptied (Ok v) = emptied 0 v
of_emptied (Err r) = emptied (number r) 0

-- of a filing that was given the used length u
abbrev pub of_filing : Result Filed Refusal → ℕ → Answer
of_filing (Ok f) u = filed 0 f.number f.used
of_filing (Err r) u = filed (number r) 0 u

abbrev pub of_highest : Result ℕ Refusal → Answer
of_highest (Ok k) = named 0 k
of_highest (Err r) = named (number r) 0

-- ── the used length

-- the one among the places, and u where there is none
abbrev pub used_in : Places → ℕ → ℕ
used_in (start v) u = v
used_in (entry k v) u = v
used_in (part p) u = u
used_in (line k) u = u

-- The one that the next call is given, where this one was given u.
abbrev pub handed : Answer → ℕ → ℕ
handed a u = accepted a.refusal (used_in a.places u) u

-- ── what a call does to a state: the bytes of an archive, or the lines of the ledger of `history`

-- The conditions of its refusals; where none holds, the places that it gives and the state that it leaves; and the places beside a refusal, where the state is as it was.
pub record Effect (S : Type 0) : Type 0 where
  pub refusals : List Condition
  pub gives : Places
  pub leaves : S
  pub beside : Places

abbrev pub refusal_by : {S : Type 0} → Effect S → ℕ
refusal_by e = first_of e.refusals

abbrev pub answer_by : {S : Type 0} → Effect S → Answer
answer_by e = answering (refusal_by e) (accepted (refusal_by e) e.gives e.beside)

abbrev pub left_by : {S : Type 0} → Effect S → S → S
left_by e s = accepted (refusal_by e) e.leaves s
