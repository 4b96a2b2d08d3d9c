-- What an equation asks of a case: the part of "within the ranges" that it needs.
-- That a case which is not refused has it is a theorem.
use Rattle.std.specs.Prelude.{◌≡◌, List, [], ◌∷◌, ℕ, ◌≤◌, Float}
use Rattle.product.specs.Ranges.{UpTo}
use Rattle.scenario.specs.declared.Case.{Case}
use Rattle.scenario.specs.declared.Case.TheVariants.{Measured, Unknown, Application, Sanitary, Formulation, Hygiene, Toilets, Plastics}
use Rattle.scenario.specs.declared.Head.{Head}

-- each up to its own limit
unfoldable pub Within : List Float → List ℕ → Type 0
Within [] [] = Unit {0}
Within [] (n ∷ ns) = ⊥
Within (x ∷ xs) [] = ⊥
Within (x ∷ xs) (n ∷ ns) = UpTo n x × Within xs ns

-- the rows that a kind has, T where it is taken, and the quantities in the order in which they are multiplied
unfoldable pub InRange : Case → Head → Type 0
InRange (Measured a b c s) h =
    (h.row ≤ 7) × (h.row ≡ 0 → 31 ≤ h.count) × Within (a ∷ b ∷ c ∷ s.area ∷ []) (100 ∷ 100 ∷ 1 ∷ 1000 ∷ [])
InRange (Unknown a c s) h =
    (h.row ≤ 7) × (h.row ≡ 0 → 31 ≤ h.count) × Within (c ∷ s.area ∷ s.volume ∷ s.density ∷ a ∷ []) (1 ∷ 1000 ∷ 100 ∷ 5000 ∷ 1 ∷ [])
InRange (Application a s) h =
    (h.row ≤ 7) × (h.count ≤ 100) × Within (s.area ∷ s.volume ∷ s.density ∷ a ∷ []) (1000 ∷ 100 ∷ 5000 ∷ 1 ∷ [])
InRange (Sanitary a b c) h = (h.row ≡ 0 → 1 ≤ h.count) × Within (b ∷ a ∷ c ∷ []) (1 ∷ 1000000 ∷ 1 ∷ [])
InRange (Formulation a b c d e) h = (1 ≤ h.count) × Within (a ∷ b ∷ c ∷ d ∷ e ∷ []) (1000000 ∷ 1 ∷ 1 ∷ 1 ∷ 1 ∷ [])
InRange (Hygiene a b g m s) h = (h.row ≤ 5) × Within (s ∷ m ∷ g ∷ a ∷ b ∷ []) (1 ∷ 100 ∷ 10000 ∷ 1 ∷ 1 ∷ [])
InRange (Toilets a b c d e) h = (h.count ≤ 100) × Within (d ∷ a ∷ c ∷ b ∷ e ∷ []) (1 ∷ 1 ∷ 5 ∷ 1 ∷ 1 ∷ [])
InRange (Plastics a b c) h = (1 ≤ h.count) × Within (a ∷ b ∷ c ∷ []) (1 ∷ 1 ∷ 1 ∷ [])
