-- The pencil cases P1 to P10 of paper 01 in one table. One theorem covers it (`worked_examples`).
-- A second table of our own has the second route (`second_route`); each row of the default tables, and row 0, is in crate equations (`RowExamples`).
use Rattle.std.specs.Prelude.{◌≡◌, List, [], ◌∷◌, ℕ, get_or}
use Rattle.kinds.specs.Case.{refusal_of}
use Rattle.kinds.specs.Builder.{case_bytes, hundred, sixteen, five, unit, three_quarters, half, quarter, eighth, thirty_second, sixty_fourth, two_to_minus_9, two_to_minus_10, two_to_minus_52, two_to_minus_54}
use Rattle.product.specs.Ratio.{Ratio, ◌over◌, Same}
use Rattle.equations.specs.RowExamples.{kg, nothing}
use Rattle.emission.specs.Figures.{exact_values}

-- what the paper says of a case: a refusal, or four exact values in micrograms (STP, surface water, air, soil)
pub data Expected : Type 0 where
  refused : ℕ → Expected
  exact : List Ratio → Expected

pub record Example : Type 0 where
  pub case : List ℕ
  pub expected : Expected

infix 2 ◌gives◌
abbrev pub ◌gives◌ : List ℕ → Expected → Example
c gives e = record { case = c; expected = e }

-- water to the STP, nothing elsewhere
abbrev pub to_plant : Ratio → Expected
to_plant w = exact (w ∷ nothing ∷ nothing ∷ nothing ∷ [])

-- water to surface water
abbrev pub to_rain : Ratio → Expected
to_rain w = exact (nothing ∷ w ∷ nothing ∷ nothing ∷ [])

-- kind row route user T dossier a b c d e f
unfoldable pub examples : List Example
examples =
    -- P1
    (case_bytes 4 1 1 0 0 7 hundred 0 unit 0 0 0 gives to_plant (kg 1 13))
    -- P2
    ∷ (case_bytes 2 3 1 0 0 7 sixty_fourth 0 unit 0 0 0 gives to_plant (kg 875 584))
    -- P3: 61,523,437.5 micrograms
    ∷ (case_bytes 3 3 1 1 0 7 sixty_fourth 0 0 0 0 0 gives to_plant (615234375 over 10))
    -- P4: 0.14546875 kg
    ∷ (case_bytes 3 7 1 2 0 7 sixty_fourth 0 0 0 0 0 gives to_plant (kg 14546875 100000000))
    -- P5
    ∷ (case_bytes 1 4 1 0 0 7 two_to_minus_10 two_to_minus_9 unit 0 0 0 gives to_plant (kg 1671 46720))
    -- P6: 0.0665625 kg
    ∷ (case_bytes 6 1 1 0 0 7 sixty_fourth half 0 0 0 0 gives to_plant (kg 665625 10000000))
    -- P7
    ∷ (case_bytes 7 1 1 0 0 7 thirty_second quarter unit 0 unit 0 gives to_plant (kg 125 24))
    -- P8: 4, 2, 1 kg
    ∷ (case_bytes 5 0 1 0 250 7 sixteen eighth half quarter eighth 0 gives exact (kg 4 1 ∷ nothing ∷ kg 2 1 ∷ kg 1 1 ∷ []))
    -- P9, and its neighbour, which passes
    ∷ (case_bytes 5 0 1 0 250 7 sixteen eighth three_quarters quarter two_to_minus_52 0 gives refused 11)
    ∷ (case_bytes 5 0 1 0 250 7 sixteen eighth three_quarters quarter two_to_minus_54 0 gives exact (kg 6 1 ∷ nothing ∷ kg 2 1 ∷ kg 8 18014398509481984 ∷ []))
    -- P10
    ∷ (case_bytes 4 1 1 0 0 7 hundred unit unit 0 0 0 gives to_plant nothing)
    ∷ []

-- By the separated rain sewer, which none of those takes: kinds 1 to 3, with a row of the paper, P2 among them, and with row 0, kind 3 by both users. All of it goes to surface water.
unfoldable pub second_routes : List Example
second_routes =
    (case_bytes 1 4 2 0 0 7 five sixteen quarter 0 0 0 gives to_rain (kg 116970 1825))
    ∷ (case_bytes 1 0 2 0 100 7 half eighth quarter sixteen 0 0 gives to_rain (kg 100 1))
    ∷ (case_bytes 2 3 2 0 0 7 sixty_fourth 0 unit 0 0 0 gives to_rain (kg 875 584))
    ∷ (case_bytes 2 0 2 0 40 7 half 0 quarter sixteen five hundred gives to_rain (kg 100 1))
    ∷ (case_bytes 3 3 2 1 0 7 quarter 0 0 0 0 0 gives to_rain (kg 393750 400000))
    ∷ (case_bytes 3 3 2 2 0 7 quarter 0 0 0 0 0 gives to_rain (kg 656250 400000))
    ∷ (case_bytes 3 0 2 1 3 7 half 0 0 sixteen five hundred gives to_rain (kg 36 100))
    ∷ (case_bytes 3 0 2 2 3 7 half 0 0 sixteen five hundred gives to_rain (kg 60 100))
    ∷ []

-- of a case: refused as printed, or accepted with the four exact values printed
unfoldable pub Gives : List ℕ → Expected → Type 0
Gives b (refused n) = refusal_of b ≡ n
Gives b (exact ps) =
    let v = exact_values b in
    (refusal_of b ≡ 0)
    × Same (get_or v 0 nothing) (get_or ps 0 nothing)
    × Same (get_or v 1 nothing) (get_or ps 1 nothing)
    × Same (get_or v 2 nothing) (get_or ps 2 nothing)
    × Same (get_or v 3 nothing) (get_or ps 3 nothing)

unfoldable pub Holds : Example → Type 0
unfolding Gives
Holds e = Gives e.case e.expected
