-- Route and dossier number change no emission: by the second route a case has at surface water what it has by the first at the STP, and under any dossier
-- number the same (`by_either_route`).
use mathlib.Core.Path.{◌≡◌, refl}
use Prim.Native.Nat.{ℕ}
use mathlib.Core.List.{[], ◌∷◌}
use lib.ListN.{get_or}
use Rattle.kinds.specs.Builder.{case_bytes}
use Rattle.scenario.specs.Decoding.{case_of_patterns, case_of, head_of}
use Rattle.scenario.specs.declared.Case.{Case}
use Rattle.scenario.specs.declared.Case.TheVariants.{Measured, Unknown, Application, Sanitary, Formulation, Hygiene, Toilets, Plastics}
use Rattle.scenario.specs.declared.Head.{Head}
use Rattle.octets.specs.Bytes.{bytes_of, number_at}
use Rattle.equations.specs.Equations.{emitted, micrograms}
use Rattle.equations.specs.RowExamples.{nothing}
use Rattle.emission.specs.Figures.{exact_values}

abbrev head : (row route user t dossier : ℕ) → Head
head row route user t dossier = record { row = row; route = route; user = user; count = t; dossier = dossier }

emitted_alike : (k : Case) (row user t route route' dossier dossier' : ℕ) → emitted k (head row route user t dossier) ≡ emitted k (head row route' user t dossier')
unfolding emitted
emitted_alike (Measured a b c s) row user t route route' dossier dossier' = refl
emitted_alike (Unknown a c s) row user t route route' dossier dossier' = refl
emitted_alike (Application a s) row user t route route' dossier dossier' = refl
emitted_alike (Sanitary a b c) row user t route route' dossier dossier' = refl
emitted_alike (Formulation a b c d e) row user t route route' dossier dossier' = refl
emitted_alike (Hygiene a b g m s) row user t route route' dossier dossier' = refl
emitted_alike (Toilets a b c d e) row user t route route' dossier dossier' = refl
emitted_alike (Plastics a b c) row user t route route' dossier dossier' = refl

pub by_either_route : (kind row user t dossier dossier' a b c d e f : ℕ)
    → (let first = exact_values (case_bytes kind row 1 user t dossier a b c d e f) in
    exact_values (case_bytes kind row 2 user t dossier' a b c d e f) ≡ nothing ∷ get_or first 0 nothing ∷ get_or first 2 nothing ∷ get_or first 3 nothing ∷ [])
unfolding exact_values case_bytes bytes_of head_of number_at case_of_patterns
by_either_route kind row user t dossier dossier' a b c d e f =
    let one = case_bytes kind row 1 user t dossier a b c d e f in
    let two = case_bytes kind row 2 user t dossier' a b c d e f in
    let same = emitted_alike (case_of one) row user (head_of one).count 2 1 (head_of two).dossier (head_of one).dossier in
    λ j. nothing ∷ micrograms (same j).water ∷ micrograms (same j).air ∷ micrograms (same j).soil ∷ []
