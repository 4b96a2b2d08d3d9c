-- The four exact values of a case in micrograms, its four figures, and demand 2's bounds.
-- Their order, and where water goes: paper 01, 'Equations', last paragraph.
use Rattle.std.specs.Prelude.{◌≡◌, cond, List, [], ◌∷◌, map, ℕ, ◌+◌, ◌*◌, ◌^◌, ◌≤◌, ◌<◌, eqb, Result, Ok, Err}
use Rattle.kinds.specs.declared.refusal.Refusal.{Refusal}
use Rattle.kinds.specs.Case.{route_of, refusal_of}
use Rattle.scenario.specs.Decoding.{case_of, head_of}
use Rattle.product.specs.Ratio.{Ratio, ◌over◌, rounded_up}
use Rattle.equations.specs.Equations.{to_water, to_air, to_soil, micrograms}

-- of 64 bytes: STP, surface water, air, soil
unfoldable pub exact_values : List ℕ → List Ratio
exact_values b =
    let water = micrograms (to_water (case_of b) (head_of b)) in
    let air = micrograms (to_air (case_of b) (head_of b)) in
    let soil = micrograms (to_soil (case_of b) (head_of b)) in
    cond (eqb (route_of b) 1) (water ∷ 0 over 1 ∷ air ∷ soil ∷ []) (0 over 1 ∷ water ∷ air ∷ soil ∷ [])

-- A figure is its exact value rounded up; beside a refusal stand zeros, which count as no result.
unfoldable pub figures_of : List ℕ → List ℕ
figures_of b = cond (eqb (refusal_of b) 0) (map rounded_up (exact_values b)) (0 ∷ 0 ∷ 0 ∷ 0 ∷ [])

-- the four of a result, by the same rule
abbrev pub figures_in : Result (List ℕ) Refusal → List ℕ
figures_in (Ok figures) = figures
figures_in (Err r) = 0 ∷ 0 ∷ 0 ∷ 0 ∷ []

-- Demand 2, of a figure and its exact value p: never below, above by at most one part in 2 ^ margin of p plus one microgram,
-- and zero exactly when p is zero; each by multiplying across, which says something since p's lower number is not 0.
pub record WithinBounds (margin : ℕ) (p : Ratio) (figure : ℕ) : Type 0 where
  pub lower_not_0 : 0 < p.lower
  pub never_below : p.upper ≤ figure * p.lower
  pub not_far_above : figure * p.lower * 2 ^ margin ≤ p.upper * 2 ^ margin + p.upper + p.lower * 2 ^ margin
  pub zero_only : figure ≡ 0 → p.upper ≡ 0
  pub zero_then : p.upper ≡ 0 → figure ≡ 0

-- one part in 2 ^ 24
abbrev pub margin : ℕ
margin = 24
