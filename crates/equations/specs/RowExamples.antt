-- Cases worked by pencil, beside the paper's own P1 to P10 (crate emission): each row of the default tables, and row 0 of each kind that has it.
-- No two quantities of a case are equal. Each row of kind 3 is worked by both users; with row 0 T stands at both its ends, and there as with the paper's
-- rows each quantity has two values, of which the second may be one of P1 to P10: whatever were left out of an equation, or taken for another, a case would show it.
-- Of kind 8 each cell of the table that holds a usage is worked, process by process where the table goes polymer by polymer.
use Rattle.std.specs.Prelude.{◌≡◌, List, [], ◌∷◌, ℕ, ◌*◌}
use Rattle.kinds.specs.Case.{refusal_of}
use Rattle.scenario.specs.Decoding.{case_of, head_of}
use Rattle.kinds.specs.Builder.{case_bytes, thousand, hundred, sixteen, five, unit, three_quarters, half, quarter, eighth, thirty_second}
use Rattle.product.specs.Ratio.{Ratio, ◌over◌, Same}
use Rattle.equations.specs.Equations.{to_water, to_air, to_soil, micrograms}

-- n over d kilograms, in micrograms
abbrev pub kg : ℕ → ℕ → Ratio
kg n d = (n * 1000000000) over d

abbrev pub nothing : Ratio
nothing = 0 over 1

-- a case, and its emissions in micrograms
pub record RowExample : Type 0 where
  pub case : List ℕ
  pub water : Ratio
  pub air : Ratio
  pub soil : Ratio

-- to water alone
infix 2 ◌gives◌
abbrev pub ◌gives◌ : List ℕ → Ratio → RowExample
b gives w = record { case = b; water = w; air = nothing; soil = nothing }

-- kind 8 with a 1/2, b 1/4, c 1/8 and T 250: a quarter of Q to water, half of it to air, in kg
abbrev pub plastics_with : (row user Q : ℕ) → RowExample
plastics_with row user Q = record { case = case_bytes 8 row 1 user 250 7 half quarter eighth 0 0 0; water = kg Q 4; air = kg Q 2; soil = nothing }

-- kind row route user T dossier a b c d e f
unfoldable pub row_examples : List RowExample
row_examples =
    -- kind 1, a 5, b 16, c 1/4: 21,000·A/L
    (case_bytes 1 1 1 0 0 7 five sixteen quarter 0 0 0 gives kg 5040 3650)
    ∷ (case_bytes 1 2 1 0 0 7 five sixteen quarter 0 0 0 gives kg 2520 3650)
    ∷ (case_bytes 1 3 1 0 0 7 five sixteen quarter 0 0 0 gives kg 2625000 1825)
    ∷ (case_bytes 1 4 1 0 0 7 five sixteen quarter 0 0 0 gives kg 116970 1825)
    ∷ (case_bytes 1 5 1 0 0 7 five sixteen quarter 0 0 0 gives kg 2625000 9125)
    ∷ (case_bytes 1 6 1 0 0 7 five sixteen quarter 0 0 0 gives kg 6510 1825)
    ∷ (case_bytes 1 7 1 0 0 7 five sixteen quarter 0 0 0 gives kg 735000 9125)
    -- row 0: 4000·c·d·(a + b)/T
    ∷ (case_bytes 1 0 1 0 31 7 half eighth quarter sixteen 0 0 gives kg 10000 31)
    ∷ (case_bytes 1 0 1 0 36500 7 sixteen five three_quarters half 0 0 gives kg 31500 36500)
    -- kind 2, a 1/4, c 1/8: A·V·R/(8·L)
    ∷ (case_bytes 2 1 1 0 0 7 quarter 0 eighth 0 0 0 gives kg 19152 2920000)
    ∷ (case_bytes 2 2 1 0 0 7 quarter 0 eighth 0 0 0 gives kg 7056 292000)
    ∷ (case_bytes 2 3 1 0 0 7 quarter 0 eighth 0 0 0 gives kg 43750 14600)
    ∷ (case_bytes 2 4 1 0 0 7 quarter 0 eighth 0 0 0 gives kg 19495 146000)
    ∷ (case_bytes 2 5 1 0 0 7 quarter 0 eighth 0 0 0 gives kg 500000 73000)
    ∷ (case_bytes 2 6 1 0 0 7 quarter 0 eighth 0 0 0 gives kg 18228 146000)
    ∷ (case_bytes 2 7 1 0 0 7 quarter 0 eighth 0 0 0 gives kg 186200 73000)
    -- row 0: 4·c·d·e·f·a/T
    ∷ (case_bytes 2 0 1 0 31 7 half 0 quarter sixteen five hundred gives kg 4000 31)
    ∷ (case_bytes 2 0 1 0 36500 7 eighth 0 three_quarters five quarter thousand gives kg 46875 3650000)
    -- kind 3 by professionals, a 1/4: A·V·R·N times 3 over 400,000; then by others, 5 over 400,000
    ∷ (case_bytes 3 1 1 1 0 7 quarter 0 0 0 0 0 gives kg 57456 40000000)
    ∷ (case_bytes 3 2 1 1 0 7 quarter 0 0 0 0 0 gives kg 21168 4000000)
    ∷ (case_bytes 3 3 1 1 0 7 quarter 0 0 0 0 0 gives kg 393750 400000)
    ∷ (case_bytes 3 4 1 1 0 7 quarter 0 0 0 0 0 gives kg 175455 4000000)
    ∷ (case_bytes 3 5 1 1 0 7 quarter 0 0 0 0 0 gives kg 1500000 400000)
    ∷ (case_bytes 3 6 1 1 0 7 quarter 0 0 0 0 0 gives kg 164052 4000000)
    ∷ (case_bytes 3 7 1 1 0 7 quarter 0 0 0 0 0 gives kg 558600 400000)
    ∷ (case_bytes 3 1 1 2 0 7 quarter 0 0 0 0 0 gives kg 95760 40000000)
    ∷ (case_bytes 3 2 1 2 0 7 quarter 0 0 0 0 0 gives kg 35280 4000000)
    ∷ (case_bytes 3 3 1 2 0 7 quarter 0 0 0 0 0 gives kg 656250 400000)
    ∷ (case_bytes 3 4 1 2 0 7 quarter 0 0 0 0 0 gives kg 292425 4000000)
    ∷ (case_bytes 3 5 1 2 0 7 quarter 0 0 0 0 0 gives kg 2500000 400000)
    ∷ (case_bytes 3 6 1 2 0 7 quarter 0 0 0 0 0 gives kg 273420 4000000)
    ∷ (case_bytes 3 7 1 2 0 7 quarter 0 0 0 0 0 gives kg 931000 400000)
    -- row 0: d·e·f·a·T times 3 over 100,000, and 5
    ∷ (case_bytes 3 0 1 1 1 7 half 0 0 sixteen five hundred gives kg 12 100)
    ∷ (case_bytes 3 0 1 2 1 7 half 0 0 sixteen five hundred gives kg 20 100)
    ∷ (case_bytes 3 0 1 1 100 7 eighth 0 0 five quarter thousand gives kg 46875 100000)
    ∷ (case_bytes 3 0 1 2 100 7 eighth 0 0 five quarter thousand gives kg 78125 100000)
    -- kind 4: 0.2·a·(1 − b)·c/260, and by T with row 0
    ∷ (case_bytes 4 1 1 0 0 7 five quarter eighth 0 0 0 gives kg 9375 26000000)
    ∷ (case_bytes 4 0 1 0 1 7 sixteen quarter half 0 0 0 gives kg 12 10)
    ∷ (case_bytes 4 0 1 0 366 7 five three_quarters eighth 0 0 0 gives kg 3125 36600000)
    -- kind 5: 1000·a·b·c/T, with d for air, e for soil
    ∷ record { case = case_bytes 5 0 1 0 1 7 five three_quarters quarter eighth thirty_second 0; water = kg 9375 10; air = kg 46875 100; soil = kg 1171875 10000 }
    ∷ record { case = case_bytes 5 0 1 0 366 7 sixteen eighth half thirty_second quarter 0; water = kg 1000 366; air = kg 125 732; soil = kg 500 366 }
    -- kind 6, a 1/4, b 1/8: 10·H·M·G/32
    ∷ (case_bytes 6 1 1 0 0 7 quarter eighth 0 0 0 0 gives kg 852 3200)
    ∷ (case_bytes 6 2 1 0 0 7 quarter eighth 0 0 0 0 gives kg 12 32)
    ∷ (case_bytes 6 3 1 0 0 7 quarter eighth 0 0 0 0 gives kg 4 32)
    ∷ (case_bytes 6 4 1 0 0 7 quarter eighth 0 0 0 0 gives kg 16 320)
    ∷ (case_bytes 6 5 1 0 0 7 quarter eighth 0 0 0 0 gives kg 15 32)
    -- row 0: 10·f·e·d·a·b
    ∷ (case_bytes 6 0 1 0 0 7 half eighth 0 five sixteen quarter gives kg 125 10)
    ∷ (case_bytes 6 0 1 0 0 7 quarter three_quarters 0 hundred five half gives kg 46875 100)
    -- kind 7: a·c·b·(1 − d)·e times 2000 over 3, and by T with row 0
    ∷ (case_bytes 7 1 1 0 0 7 three_quarters eighth five quarter thirty_second 0 gives kg 1875 256)
    ∷ (case_bytes 7 0 1 0 1 7 half quarter five three_quarters eighth 0 gives kg 390625 30000)
    ∷ (case_bytes 7 0 1 0 100 7 eighth half unit quarter thirty_second 0 gives kg 3125 32)
    -- kind 8: 1000·Q·a·c/T to water, with b to air; by an open process
    ∷ plastics_with 4 1 988
    ∷ plastics_with 5 1 744
    ∷ plastics_with 6 1 605
    ∷ plastics_with 8 1 78
    ∷ plastics_with 9 1 176
    ∷ plastics_with 10 1 39
    ∷ plastics_with 11 1 55
    ∷ plastics_with 15 1 575
    -- by a partially open one
    ∷ plastics_with 1 2 23100
    ∷ plastics_with 2 2 2070
    ∷ plastics_with 3 2 8880
    ∷ plastics_with 5 2 3990
    ∷ plastics_with 6 2 389
    ∷ plastics_with 11 2 207
    ∷ plastics_with 12 2 52
    ∷ plastics_with 13 2 62
    -- by a closed one
    ∷ plastics_with 1 3 528
    ∷ plastics_with 2 3 2130
    ∷ plastics_with 3 3 1610
    ∷ plastics_with 4 3 2010
    ∷ plastics_with 5 3 341
    ∷ plastics_with 6 3 623
    ∷ plastics_with 7 3 2790
    ∷ plastics_with 8 3 428
    ∷ plastics_with 9 3 814
    ∷ plastics_with 10 3 181
    ∷ plastics_with 11 3 28
    ∷ plastics_with 12 3 84
    ∷ plastics_with 13 3 69
    ∷ plastics_with 14 3 804
    ∷ plastics_with 15 3 206
    ∷ plastics_with 16 3 121
    ∷ plastics_with 17 3 469
    ∷ plastics_with 18 3 80
    -- other quantities, and T at both its ends, by each process
    ∷ record { case = case_bytes 8 6 1 1 1 7 quarter eighth three_quarters 0 0 0; water = kg 1815000 16; air = kg 605000 32; soil = nothing }
    ∷ record { case = case_bytes 8 6 1 1 366 7 unit half thirty_second 0 0 0; water = kg 605000 11712; air = kg 605000 732; soil = nothing }
    ∷ record { case = case_bytes 8 1 1 2 1 7 eighth three_quarters quarter 0 0 0; water = kg 23100000 32; air = kg 69300000 32; soil = nothing }
    ∷ record { case = case_bytes 8 1 1 2 366 7 unit half thirty_second 0 0 0; water = kg 23100000 11712; air = kg 23100000 732; soil = nothing }
    ∷ record { case = case_bytes 8 18 1 3 1 7 unit three_quarters eighth 0 0 0; water = kg 10000 1; air = kg 60000 1; soil = nothing }
    ∷ record { case = case_bytes 8 18 1 3 366 7 quarter thirty_second half 0 0 0; water = kg 10000 366; air = kg 625 366; soil = nothing }
    ∷ []

-- the case is accepted, and its equations have the values worked out
unfoldable pub Worked : RowExample → Type 0
Worked e =
    let k = case_of e.case in
    let h = head_of e.case in
    (refusal_of e.case ≡ 0)
    × Same (micrograms (to_water k h)) e.water
    × Same (micrograms (to_air k h)) e.air
    × Same (micrograms (to_soil k h)) e.soil

-- each entry of a table
unfoldable pub All : {A : Type 0} → (A → Type 0) → List A → Type 0
All P [] = Unit {0}
All P (x ∷ xs) = P x × All P xs
