-- The compartments by their numbers. Paper 01, 'The archive': worst takes one of 1 to 4.
use Rattle.std.specs.Prelude.{◌≡◌, true, ◌||◌, ℕ, ltb, Result, MatchResult}
use Rattle.kinds.specs.declared.refusal.Refusal.{Refusal}
use Rattle.kinds.specs.declared.refusal.Refusal.TheVariants.{NotCompartment}
use Rattle.records.specs.declared.compartment.Compartment.{Compartment}
use Rattle.records.specs.declared.compartment.Compartment.TheVariants.{Stp, SurfaceWater, Air, Soil}

abbrev pub compartment_number : Compartment → ℕ
compartment_number Stp = 1
compartment_number SurfaceWater = 2
compartment_number Air = 3
compartment_number Soil = 4

-- the compartment that a number names; of a number that is not 1 to 4 refusal 12
abbrev pub Named : ℕ → Result Compartment Refusal → Type 0
Named n r = MatchResult r (λ c. compartment_number c ≡ n) (λ e. (e ≡ NotCompartment) × ((ltb n 1 || ltb 4 n) ≡ true))
