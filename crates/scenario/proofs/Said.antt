-- What decode's answer says in the paper's numbers: `of_decoded_lem`, and beside the enum `decoded_said`. An accepted case carries what its bytes say, no more and no less: `accepted_says`.
use mathlib.Core.Path.{◌≡◌, refl, ap, ◌∙◌}
use mathlib.Core.Bool.{Bool, true, false}
use mathlib.Core.List.{List}
use Prim.Native.Nat.{ℕ}
use lib.Dec.{eqb}
use borrow.Author.Tests.{eqb-true, eqb-false}
use Rattle.kinds.specs.Case.{kinds, kind_of, pattern_at, of_six, quantity_of, refusal_of}
use Rattle.scenario.specs.Decoding.{case_with, case_of_patterns, case_of, head_of, decoded, kind_in, quantities_in, of_decoded, said}
use Rattle.kinds.specs.Ranges.{allowed_by}
use Rattle.std.proofs.Common.{Result}
use Rattle.kinds.specs.declared.refusal.Refusal.{Refusal}
use Rattle.kinds.proofs.Numbers.{refusal_named}
use Rattle.scenario.specs.declared.Accepted.{Accepted}
use Rattle.kinds.proofs.KindTable.{each_kind, ◌then◌}
use Rattle.kinds.proofs.Ranges.{accepted_exactly}

pub accepted_says : (b : List ℕ) → refusal_of b ≡ 0 → (kind_in (case_of b) ≡ kind_of b) × (quantities_in (case_of b) ≡ of_six (λ i. quantity_of (pattern_at b i)))
unfolding case_of_patterns case_with kinds
accepted_says b none =
    let w = (accepted_exactly b).0 none in
    each_kind
    (λ k. (allowed_by k b).quantities → (kind_in (case_of_patterns k (pattern_at b)) ≡ k) × (quantities_in (case_of_patterns k (pattern_at b)) ≡ of_six (λ i. quantity_of (pattern_at b i))))
    (tt
    then (λ q. (refl, refl))
    then (λ q. (refl, rw q.1))
    then (λ q. (refl, rw (q.1, q.2)))
    then (λ q. (refl, rw (q.3, q.4, q.5)))
    then (λ q. (refl, rw q.5))
    then (λ q. (refl, rw q.2))
    then (λ q. (refl, rw q.5))
    then (λ q. (refl, rw (q.3, q.4, q.5))))
    (kind_of b) w.kind w.quantities

pub of_decoded_lem : (b : List ℕ) → of_decoded (decoded b) ≡ said b
unfolding decoded said head_of
of_decoded_lem b = go (eqb (refusal_of b) 0) refl
  where
    go : (t : Bool) → eqb (refusal_of b) 0 ≡ t → of_decoded (decoded b) ≡ said b
    go true e =
        let z = eqb-true (refusal_of b) 0 e in
        let a = accepted_says b z in
        rw (z, a.0, a.1)
    go false e = rw (e, refusal_named b (eqb-false (refusal_of b) 0 e))

-- beside the enum
pub decoded_said : (b : List ℕ) {r : Result Accepted Refusal} → r ≡ decoded b → (r ≡ decoded b) × (of_decoded r ≡ said b)
decoded_said b e = (e, ap of_decoded e ∙ of_decoded_lem b)
