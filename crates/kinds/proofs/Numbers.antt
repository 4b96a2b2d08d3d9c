-- Laws of the refusals' numbers: `refusal_of_number` (a number tells its refusal), `number_not_zero` (0 is none's).
-- Of a case: `refusals_named` (the refusals in their order, by name), `first_named`, `refusal_named` (the first that holds has a name).
use mathlib.Core.Path.{◌≡◌, refl}
use mathlib.Core.Bool.{Bool, true, false, cond}
use mathlib.Core.List.{List, [], ◌∷◌}
use Prim.Native.Nat.{ℕ}
use lib.Dec.{eqb}
use borrow.Author.Tests.{eqb-true}
use Rattle.octets.proofs.Bools.{both, every}
use Rattle.kinds.specs.Number.{number, refusal_at}
use Rattle.kinds.specs.Refusal.{Condition, ◌when◌, first_of}
use Rattle.kinds.specs.Case.{kind_of, row_of, route_of, user_of, count_of, dossier_of, pattern_at, not_sixty_four, kind_unknown, row_unknown, route_not_allowed, user_not_allowed, usage_missing, count_not_allowed, dossier_zero, any_not_number, any_not_zero_bytes, any_over_limit, sum_over, refusals, refusal_of}
use Rattle.kinds.specs.declared.refusal.Refusal.{Refusal}
use Rattle.kinds.specs.declared.refusal.Refusal.TheVariants.{NotSixtyFour, KindUnknown, RowUnknown, RouteNotAllowed, UserNotAllowed, CountNotAllowed, DossierZero, NotNumber, Unlisted, OverLimit, SumOver, NotCompartment, Broken, Held, Full, NoRecord, UsageMissing}

pub refusal_of_number : (r : Refusal) → refusal_at (number r) ≡ r
unfolding refusal_at
refusal_of_number NotSixtyFour = refl
refusal_of_number KindUnknown = refl
refusal_of_number RowUnknown = refl
refusal_of_number RouteNotAllowed = refl
refusal_of_number UserNotAllowed = refl
refusal_of_number CountNotAllowed = refl
refusal_of_number DossierZero = refl
refusal_of_number NotNumber = refl
refusal_of_number Unlisted = refl
refusal_of_number OverLimit = refl
refusal_of_number SumOver = refl
refusal_of_number NotCompartment = refl
refusal_of_number Broken = refl
refusal_of_number Held = refl
refusal_of_number Full = refl
refusal_of_number NoRecord = refl
refusal_of_number UsageMissing = refl

pub number_not_zero : (r : Refusal) → eqb (number r) 0 ≡ false
number_not_zero NotSixtyFour = refl
number_not_zero KindUnknown = refl
number_not_zero RowUnknown = refl
number_not_zero RouteNotAllowed = refl
number_not_zero UserNotAllowed = refl
number_not_zero CountNotAllowed = refl
number_not_zero DossierZero = refl
number_not_zero NotNumber = refl
number_not_zero Unlisted = refl
number_not_zero OverLimit = refl
number_not_zero SumOver = refl
number_not_zero NotCompartment = refl
number_not_zero Broken = refl
number_not_zero Held = refl
number_not_zero Full = refl
number_not_zero NoRecord = refl
number_not_zero UsageMissing = refl

-- ── of a case

-- the refusal that each condition of the paper's list is for
pub refusals_named : (b : List ℕ) → refusals b
    ≡ (number NotSixtyFour when not_sixty_four b)
    ∷ (number KindUnknown when kind_unknown (kind_of b))
    ∷ (number RowUnknown when row_unknown (kind_of b) (row_of b))
    ∷ (number RouteNotAllowed when route_not_allowed (kind_of b) (row_of b) (route_of b))
    ∷ (number UserNotAllowed when user_not_allowed (kind_of b) (user_of b))
    ∷ (number UsageMissing when usage_missing (kind_of b) (row_of b) (user_of b))
    ∷ (number CountNotAllowed when count_not_allowed (kind_of b) (row_of b) (count_of b))
    ∷ (number DossierZero when dossier_zero (dossier_of b))
    ∷ (number NotNumber when any_not_number (pattern_at b))
    ∷ (number Unlisted when any_not_zero_bytes (kind_of b) (row_of b) (pattern_at b))
    ∷ (number OverLimit when any_over_limit (kind_of b) (row_of b) (pattern_at b))
    ∷ (number SumOver when sum_over (kind_of b) (pattern_at b))
    ∷ []
refusals_named b = refl

-- the number of a condition is that of its refusal
abbrev pub named : Condition → Bool
named c = eqb (number (refusal_at c.number)) c.number

pub first_named : (cs : List Condition) → every named cs ≡ true → (first_of cs ≡ 0 → ⊥) → number (refusal_at (first_of cs)) ≡ first_of cs
unfolding every named
first_named [] e h = absurd (h refl)
first_named (c ∷ cs) e h =
    let p = both (named c) (every named cs) e in
    go c.holds (eqb-true (number (refusal_at c.number)) c.number p.0) (first_named cs p.1) h
  where
    go : (t : Bool) → number (refusal_at c.number) ≡ c.number → ((first_of cs ≡ 0 → ⊥) → number (refusal_at (first_of cs)) ≡ first_of cs)
        → (cond t c.number (first_of cs) ≡ 0 → ⊥) → number (refusal_at (cond t c.number (first_of cs))) ≡ cond t c.number (first_of cs)
    go true n r h = n
    go false n r h = r h

pub refusal_named : (b : List ℕ) → (refusal_of b ≡ 0 → ⊥) → number (refusal_at (refusal_of b)) ≡ refusal_of b
unfolding refusal_of every named refusal_at
refusal_named b = first_named (refusals b) refl
