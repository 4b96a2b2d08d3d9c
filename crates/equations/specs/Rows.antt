-- The default tables, in the paper's decimals as exact fractions: paper 01, 'City rows' and equations 3 and 6.
-- Sources: 000 is ESD PT6 version 1.1 (ECHA, September 2019), 001 the city scenario, version 6; "l." is a line of our text copy.
-- docs/DEFAULTS.md has the quotes, the misprints and who decides.
use Rattle.std.specs.Prelude.{List, [], ◌∷◌, ℕ, get_or}
use Rattle.product.specs.Ratio.{Ratio, ◌over◌}

-- service life in days, area A in m2, density R in kg/m3, volume V in L/m2, houses treated per day N
pub record City : Type 0 where
  pub life : ℕ
  pub area : Ratio
  pub density : Ratio
  pub volume : Ratio
  pub houses : ℕ

abbrev pub city : ℕ → Ratio → Ratio → Ratio → ℕ → City
city l a r v n = record { life = l; area = a; density = r; volume = v; houses = n }

-- rows 1 to 7: life and A from 001, Table 1; R and V from 001, Table 2; N from 001, application phase, l. 291-296
unfoldable pub cities : List City
cities =
    -- 1 bathroom joint filler: Table 1, l. 154-155; Table 2, l. 232-234
    city 3650 (24 over 100) (1900 over 1) (42 over 100) 1
    -- 2 bathroom sealant: Table 1, l. 157-158; Table 2, l. 235
    ∷ city 3650 (12 over 100) (1000 over 1) (588 over 100) 1
    -- 3 facade paint: Table 1, l. 162-164; Table 2, l. 238-239
    ∷ city 1825 (125 over 1) (1400 over 1) (25 over 100) 3
    -- 4 window and door paint: text, l. 112, over Table 1, l. 166-168, whose scan has 557; Table 2, l. 240-243
    ∷ city 1825 (557 over 100) (1400 over 1) (25 over 100) 3
    -- 5 facade plaster: Table 1, l. 170-172; Table 2, l. 245-247
    ∷ city 9125 (125 over 1) (1000 over 1) (40 over 10) 1
    -- 6 outdoor joint sealant: Table 1, l. 173-175; Table 2, l. 249-250
    ∷ city 1825 (31 over 100) (1000 over 1) (588 over 100) 3
    -- 7 outdoor joint filler: Table 1, l. 176-178; Table 2, l. 252-255
    ∷ city 9125 (35 over 1) (1900 over 1) (28 over 10) 1
    ∷ []

-- rows are numbered from 1; what stands for row 0 is never looked at
abbrev pub no_city : City
no_city = city 31 (1 over 1) (1 over 1) (1 over 1) 1

unfoldable pub city_at : ℕ → City
city_at row = get_or (no_city ∷ cities) row no_city

-- G grams per use, M uses per day, H share of inhabitants
pub record HygieneRow : Type 0 where
  pub grams : Ratio
  pub uses : Ratio
  pub share : Ratio

abbrev pub hygiene : Ratio → Ratio → Ratio → HygieneRow
hygiene g m h = record { grams = g; uses = m; share = h }

-- rows 1 to 5: 000, appendix 3.1, pick-list; grams by 000, Table 8, l. 753
unfoldable pub hygienes : List HygieneRow
hygienes =
    -- 1 shampoo: l. 2020, and 0.71 by note 2, l. 2029
    hygiene (12 over 1) (71 over 100) (1 over 10)
    -- 2 aerosol: l. 2022
    ∷ hygiene (3 over 1) (2 over 1) (2 over 10)
    -- 3 stick: l. 2023
    ∷ hygiene (5 over 10) (1 over 1) (8 over 10)
    -- 4 cream: l. 2024
    ∷ hygiene (8 over 10) (2 over 1) (1 over 10)
    -- 5 mouth wash: l. 2025
    ∷ hygiene (10 over 1) (3 over 1) (5 over 100)
    ∷ []

abbrev pub no_hygiene : HygieneRow
no_hygiene = hygiene (1 over 1) (1 over 1) (1 over 1)

unfoldable pub hygiene_at : ℕ → HygieneRow
hygiene_at row = get_or (no_hygiene ∷ hygienes) row no_hygiene
