-- What is found of refusals 8, 9 and 10 in one pass over the six quantities, by their patterns and those of their limits.
use Rattle.std.specs.Prelude.{not, ◌&&◌, ◌||◌, List, [], ◌∷◌, ℕ, leb, eqb}
use Rattle.kinds.specs.Refusal.{Condition, ◌when◌}
use Rattle.kinds.specs.Case.{not_number, any_not_number, any_not_zero_bytes, any_over_limit}
use Rattle.scenario.specs.declared.quantities.Faults.{Faults}

-- what was found, with a quantity by the pattern m of its limit and its own, p
unfoldable pub add_faults : Faults → ℕ → ℕ → Faults
add_faults found m p =
    record { invalid = found.invalid || not_number p; stray = found.stray || (eqb m 0 && not (eqb p 0)); over = found.over || (not (eqb m 0) && not (leb p m)) }

-- the refusals that they are for
abbrev pub told_of : Faults → List Condition
told_of found = (8 when found.invalid) ∷ (9 when found.stray) ∷ (10 when found.over) ∷ []

-- of any of the six
unfoldable pub faults_of : ℕ → ℕ → (ℕ → ℕ) → Faults
faults_of k row p = record { invalid = any_not_number p; stray = any_not_zero_bytes k row p; over = any_over_limit k row p }
