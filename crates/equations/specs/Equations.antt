-- Equations 1 to 7 as paper 01 prints them and 8 as request No. 2 does, factor by factor in its order, in kg per day.
use Rattle.std.specs.Prelude.{cond, List, [], ◌∷◌, ◌++◌, ℕ, ◌-◌, ◌*◌, eqb, Float, Option, Some, None}
use Rattle.kinds.specs.Polymers.{usage_at}
use Rattle.scenario.specs.declared.Case.{Case}
use Rattle.scenario.specs.declared.Case.TheVariants.{Measured, Unknown, Application, Sanitary, Formulation, Hygiene, Toilets, Plastics}
use Rattle.scenario.specs.declared.Head.{Head}
use Rattle.product.specs.Ratio.{Ratio, ◌over◌, ◌·◌, ◌⊕◌}
use Rattle.product.specs.Chain.{Factor, number, quantity, less, chain}
use Rattle.equations.specs.Rows.{City, city_at, HygieneRow, hygiene_at}

-- the exact value of a sum of chains
unfoldable pub total : List (List Factor) → Ratio
total [] = 0 over 1
total (t ∷ ts) = chain t ⊕ total ts

abbrev pub fixed : Ratio → Factor
fixed r = number r.upper r.lower

-- ── equations 1 to 3: L life, A area, V volume, R density, N houses; `.._at` with the numbers of a city row

-- houses: 4000·c·30/L recent, 4000·c·(L − 30)/L older
abbrev pub recent : Float → ℕ → List Factor
recent c L = number 4000 1 ∷ quantity c ∷ number 30 1 ∷ number 1 L ∷ []

abbrev pub older : Float → ℕ → List Factor
older c L = number 4000 1 ∷ quantity c ∷ number (L - 30) 1 ∷ number 1 L ∷ []

-- 1. E = recent·a·A/30 + older·b·A/(L − 30)
abbrev pub measured : Float → Float → Float → Factor → ℕ → List (List Factor)
measured a b c A L =
    (recent c L ++ (quantity a ∷ A ∷ number 1 30 ∷ []))
    ∷ (older c L ++ (quantity b ∷ A ∷ number 1 (L - 30) ∷ []))
    ∷ []

abbrev pub measured_at : Float → Float → Float → City → List (List Factor)
measured_at a b c r = measured a b c (fixed r.area) r.life

-- 2. E = 4000·c·A·V·R·a/(1000·L)
abbrev pub unknown : Float → Float → Factor → Factor → Factor → ℕ → List (List Factor)
unknown a c A volume R L = (number 4000 1 ∷ quantity c ∷ A ∷ volume ∷ R ∷ quantity a ∷ number 1 (1000 * L) ∷ []) ∷ []

abbrev pub unknown_at : Float → Float → City → List (List Factor)
unknown_at a c r = unknown a c (fixed r.area) (fixed r.volume) (fixed r.density) r.life

-- B, what is lost at application: 3 hundredths by professionals, 5 by the others (001, l. 286-287)
abbrev pub loss : ℕ → Factor
loss user = cond (eqb user 1) (number 3 100) (number 5 100)

-- 3. E = A·V·R·a·B·N/1000
abbrev pub application : Float → Factor → Factor → Factor → Factor → ℕ → List (List Factor)
application a A volume R B N = (A ∷ volume ∷ R ∷ quantity a ∷ B ∷ number N 1 ∷ number 1 1000 ∷ []) ∷ []

abbrev pub application_at : Float → Factor → City → List (List Factor)
application_at a B r = application a (fixed r.area) (fixed r.volume) (fixed r.density) B r.houses

-- ── equations 4 to 8

-- 4. E = a·0.1·1000·0.002·(1 − b)·c/D
abbrev pub sanitary : Float → Float → Float → ℕ → List (List Factor)
sanitary a b c D = (quantity a ∷ number 1 10 ∷ number 1000 1 ∷ number 2 1000 ∷ less b ∷ quantity c ∷ number 1 D ∷ []) ∷ []

-- 5. E = a·1000·b·c/T for water, with d for air, e for soil
abbrev pub formulation : Float → Float → Float → ℕ → List (List Factor)
formulation a b c T = (quantity a ∷ number 1000 1 ∷ quantity b ∷ quantity c ∷ number 1 T ∷ []) ∷ []

-- 6. E = 10000·H·M·G·a·b/1000
abbrev pub consumption : Float → Float → Factor → Factor → Factor → List (List Factor)
consumption a b G M H = (number 10000 1 ∷ H ∷ M ∷ G ∷ quantity a ∷ quantity b ∷ number 1 1000 ∷ []) ∷ []

abbrev pub consumption_at : Float → Float → HygieneRow → List (List Factor)
consumption_at a b r = consumption a b (fixed r.grams) (fixed r.uses) (fixed r.share)

-- 7. E = a·c·b·20·(1 − d)·e·(2000/60)·N
abbrev pub toilets : Float → Float → Float → Float → Float → ℕ → List (List Factor)
toilets a b c d e N = (quantity a ∷ quantity c ∷ quantity b ∷ number 20 1 ∷ less d ∷ quantity e ∷ number 2000 60 ∷ number N 1 ∷ []) ∷ []

-- 8. E = Q·1000·a·b/T for air, with c for water
abbrev pub plastics : ℕ → Float → Float → ℕ → List (List Factor)
plastics Q a b T = (number Q 1 ∷ number 1000 1 ∷ quantity a ∷ quantity b ∷ number 1 T ∷ []) ∷ []

-- without a usage Q there is no equation, and the case is refused
abbrev pub plastics_at : Option ℕ → Float → Float → ℕ → List (List Factor)
plastics_at None a b T = []
plastics_at (Some Q) a b T = plastics Q a b T

-- ── the emissions of a case to water, air and soil; a sum of no chains is 0

pub record Emitted : Type 0 where
  pub water : List (List Factor)
  pub air : List (List Factor)
  pub soil : List (List Factor)

abbrev pub only_water : List (List Factor) → Emitted
only_water w = record { water = w; air = []; soil = [] }

-- with row 0 what the case has, otherwise the row's numbers
unfoldable pub emitted : Case → Head → Emitted
emitted (Measured a b c s) h =
    only_water (cond (eqb h.row 0)
    (measured a b c (quantity s.area) h.count)
    (measured_at a b c (city_at h.row)))
emitted (Unknown a c s) h =
    only_water (cond (eqb h.row 0)
    (unknown a c (quantity s.area) (quantity s.volume) (quantity s.density) h.count)
    (unknown_at a c (city_at h.row)))
emitted (Application a s) h =
    only_water (cond (eqb h.row 0)
    (application a (quantity s.area) (quantity s.volume) (quantity s.density) (loss h.user) h.count)
    (application_at a (loss h.user) (city_at h.row)))
emitted (Sanitary a b c) h = only_water (sanitary a b c (cond (eqb h.row 0) h.count 260))
emitted (Formulation a b c d e) h =
    record { water = formulation a b c h.count; air = formulation a b d h.count; soil = formulation a b e h.count }
emitted (Hygiene a b g m s) h =
    only_water (cond (eqb h.row 0)
    (consumption a b (quantity g) (quantity m) (quantity s))
    (consumption_at a b (hygiene_at h.row)))
emitted (Toilets a b c d e) h = only_water (toilets a b c d e (cond (eqb h.row 0) h.count 1))
emitted (Plastics a b c) h =
    let Q = usage_at h.row h.user in
    record { water = plastics_at Q a c h.count; air = plastics_at Q a b h.count; soil = [] }

abbrev pub to_water : Case → Head → List (List Factor)
to_water k h = (emitted k h).water

abbrev pub to_air : Case → Head → List (List Factor)
to_air k h = (emitted k h).air

abbrev pub to_soil : Case → Head → List (List Factor)
to_soil k h = (emitted k h).soil

-- ── in micrograms

-- kilograms to micrograms
abbrev pub microgram : Ratio
microgram = 1000000000 over 1

abbrev pub micrograms : List (List Factor) → Ratio
micrograms e = microgram · total e
