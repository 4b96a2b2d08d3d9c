-- The edges that paper 01 prints and those of request No. 2's sum, and each refusal with its number, as whole cases with their refusals, 0 for none.
-- Paper 01, 'Pencil cases': "Edges: life 30 is 6, 31 passes; row 2 route 2 is 4, row 3 route 2 passes", and P8, P9.
use Rattle.std.specs.Prelude.{List, [], ◌∷◌, ℕ, ◌+◌}
use Rattle.kinds.specs.Builder.{case_bytes, million, ten_thousand, five_thousand, thousand, hundred, sixteen, five, unit, three_quarters, half, quarter, eighth, two_to_minus_52, two_to_minus_53, two_to_minus_54}

pub record Edge : Type 0 where
  pub case : List ℕ
  pub refusal : ℕ

infix 5 ◌gives◌
abbrev pub ◌gives◌ : List ℕ → ℕ → Edge
b gives n = record { case = b; refusal = n }

-- kind 1, row 0, with a life of t days, share and area 1
abbrev pub with_life : ℕ → List ℕ
with_life t = case_bytes 1 0 1 0 t 7 0 0 unit unit 0 0

-- kind 2, with a row and a route, active fraction and share 1
abbrev pub with_route : ℕ → ℕ → List ℕ
with_route row route = case_bytes 2 row route 0 0 7 unit 0 unit 0 0 0

-- P8 with c and e
abbrev pub with_fractions : ℕ → ℕ → List ℕ
with_fractions c e = case_bytes 5 0 1 0 250 7 sixteen eighth c quarter e 0

-- kind 8, polystyrene, which has a usage for each process, by users 1 to 3, with a, b and c
abbrev pub with_parts : ℕ → ℕ → ℕ → ℕ → List ℕ
with_parts user a b c = case_bytes 8 6 1 user 250 7 a b c 0 0 0

abbrev pub edges : List Edge
edges =
    (with_life 30 gives 6)
    ∷ (with_life 31 gives 0)
    ∷ (with_route 2 2 gives 4)
    ∷ (with_route 3 2 gives 0)
    ∷ (with_fractions half eighth gives 0)
    ∷ (with_fractions three_quarters two_to_minus_52 gives 11)
    ∷ (with_fractions three_quarters two_to_minus_53 gives 0)
    ∷ (with_fractions three_quarters two_to_minus_54 gives 0)
    -- kind 8: b + c is 1; just above it, a tie that goes to 1, either way round; and beyond the tie
    ∷ (with_parts 1 unit three_quarters quarter gives 0)
    ∷ (with_parts 2 unit unit two_to_minus_53 gives 0)
    ∷ (with_parts 3 unit two_to_minus_53 unit gives 0)
    ∷ (with_parts 2 unit unit (two_to_minus_53 + 1) gives 11)
    ∷ (with_parts 3 unit (two_to_minus_53 + 1) unit gives 11)
    -- a is no part of the sum
    ∷ (with_parts 1 unit half half gives 0)
    ∷ []

-- the pattern of the least quantity above 0
abbrev pub least : ℕ
least = 1

-- the patterns of minus zero, of infinity, and of one that is no number
abbrev pub minus_zero : ℕ
minus_zero = 0x8000000000000000

abbrev pub infinity : ℕ
infinity = 0x7ff0000000000000

abbrev pub no_number : ℕ
no_number = 0x7ff8000000000000

-- P8 with one thing changed or two: each refusal's own number, and of two that hold the one that the paper tells first; then one case of each other kind,
-- with each thing from the row to a listed quantity that is not allowed, and the last two together. The next pattern is the next number.
abbrev pub told : List Edge
told =
    -- one
    ([] gives 1)
    ∷ (0 ∷ case_bytes 5 0 1 0 250 7 sixteen eighth half quarter eighth 0 gives 1)
    ∷ (case_bytes 0 0 1 0 250 7 sixteen eighth half quarter eighth 0 gives 2)
    ∷ (case_bytes 9 0 1 0 250 7 sixteen eighth half quarter eighth 0 gives 2)
    ∷ (case_bytes 5 1 1 0 250 7 sixteen eighth half quarter eighth 0 gives 3)
    ∷ (case_bytes 5 0 0 0 250 7 sixteen eighth half quarter eighth 0 gives 4)
    ∷ (case_bytes 5 0 2 0 250 7 sixteen eighth half quarter eighth 0 gives 4)
    ∷ (case_bytes 5 0 1 1 250 7 sixteen eighth half quarter eighth 0 gives 5)
    ∷ (case_bytes 5 0 1 0 0 7 sixteen eighth half quarter eighth 0 gives 6)
    ∷ (case_bytes 5 0 1 0 367 7 sixteen eighth half quarter eighth 0 gives 6)
    ∷ (case_bytes 5 0 1 0 250 0 sixteen eighth half quarter eighth 0 gives 7)
    ∷ (case_bytes 5 0 1 0 250 7 minus_zero eighth half quarter eighth 0 gives 8)
    ∷ (case_bytes 5 0 1 0 250 7 infinity eighth half quarter eighth 0 gives 8)
    ∷ (case_bytes 5 0 1 0 250 7 sixteen eighth half quarter no_number 0 gives 8)
    ∷ (case_bytes 5 0 1 0 250 7 sixteen eighth half quarter eighth minus_zero gives 8)
    ∷ (case_bytes 5 0 1 0 250 7 sixteen eighth half quarter eighth least gives 9)
    ∷ (case_bytes 5 0 1 0 250 7 (million + 1) eighth half quarter eighth 0 gives 10)
    ∷ (case_bytes 5 0 1 0 250 7 sixteen (unit + 1) half quarter eighth 0 gives 10)
    ∷ (case_bytes 5 0 1 0 250 7 sixteen eighth half quarter half 0 gives 11)
    -- two: 1 and 2, 2 and 3, and so on
    ∷ (9 ∷ case_bytes 5 0 1 0 250 7 sixteen eighth half quarter eighth 0 gives 1)
    ∷ (case_bytes 9 8 1 0 250 7 sixteen eighth half quarter eighth 0 gives 2)
    ∷ (case_bytes 5 1 2 0 250 7 sixteen eighth half quarter eighth 0 gives 3)
    ∷ (case_bytes 5 0 2 1 250 7 sixteen eighth half quarter eighth 0 gives 4)
    ∷ (case_bytes 5 0 1 1 0 7 sixteen eighth half quarter eighth 0 gives 5)
    ∷ (case_bytes 5 0 1 0 0 0 sixteen eighth half quarter eighth 0 gives 6)
    ∷ (case_bytes 5 0 1 0 250 0 minus_zero eighth half quarter eighth 0 gives 7)
    ∷ (case_bytes 5 0 1 0 250 7 minus_zero eighth half quarter eighth least gives 8)
    ∷ (case_bytes 5 0 1 0 250 7 (million + 1) eighth half quarter eighth least gives 9)
    ∷ (case_bytes 5 0 1 0 250 7 (million + 1) eighth half quarter half 0 gives 10)
    -- of the other kinds
    ∷ (case_bytes 1 8 1 0 100 7 half eighth quarter sixteen 0 0 gives 3)
    ∷ (case_bytes 1 0 3 0 100 7 half eighth quarter sixteen 0 0 gives 4)
    ∷ (case_bytes 1 0 1 1 100 7 half eighth quarter sixteen 0 0 gives 5)
    ∷ (case_bytes 1 0 1 0 36501 7 half eighth quarter sixteen 0 0 gives 6)
    ∷ (case_bytes 1 0 1 0 100 0 half eighth quarter sixteen 0 0 gives 7)
    ∷ (case_bytes 1 0 1 0 100 7 minus_zero eighth quarter sixteen 0 0 gives 8)
    ∷ (case_bytes 1 0 1 0 100 7 half eighth quarter sixteen least 0 gives 9)
    ∷ (case_bytes 1 0 1 0 100 7 half eighth quarter (thousand + 1) 0 0 gives 10)
    ∷ (case_bytes 1 0 1 0 100 7 half eighth quarter (thousand + 1) least 0 gives 9)
    ∷ (case_bytes 2 8 1 0 40 7 half 0 quarter sixteen five hundred gives 3)
    ∷ (case_bytes 2 0 3 0 40 7 half 0 quarter sixteen five hundred gives 4)
    ∷ (case_bytes 2 0 1 1 40 7 half 0 quarter sixteen five hundred gives 5)
    ∷ (case_bytes 2 0 1 0 30 7 half 0 quarter sixteen five hundred gives 6)
    ∷ (case_bytes 2 0 1 0 40 0 half 0 quarter sixteen five hundred gives 7)
    ∷ (case_bytes 2 0 1 0 40 7 minus_zero 0 quarter sixteen five hundred gives 8)
    ∷ (case_bytes 2 0 1 0 40 7 half least quarter sixteen five hundred gives 9)
    ∷ (case_bytes 2 0 1 0 40 7 half 0 quarter sixteen five (five_thousand + 1) gives 10)
    ∷ (case_bytes 2 0 1 0 40 7 half least quarter sixteen five (five_thousand + 1) gives 9)
    ∷ (case_bytes 3 8 1 1 0 7 quarter 0 0 0 0 0 gives 3)
    ∷ (case_bytes 3 3 3 1 0 7 quarter 0 0 0 0 0 gives 4)
    ∷ (case_bytes 3 3 1 0 0 7 quarter 0 0 0 0 0 gives 5)
    ∷ (case_bytes 3 3 1 3 0 7 quarter 0 0 0 0 0 gives 5)
    ∷ (case_bytes 3 3 1 1 1 7 quarter 0 0 0 0 0 gives 6)
    ∷ (case_bytes 3 3 1 1 0 0 quarter 0 0 0 0 0 gives 7)
    ∷ (case_bytes 3 3 1 1 0 7 minus_zero 0 0 0 0 0 gives 8)
    ∷ (case_bytes 3 3 1 1 0 7 quarter 0 0 least 0 0 gives 9)
    ∷ (case_bytes 3 3 1 1 0 7 (unit + 1) 0 0 0 0 0 gives 10)
    ∷ (case_bytes 3 3 1 1 0 7 (unit + 1) 0 0 least 0 0 gives 9)
    ∷ (case_bytes 4 2 1 0 100 7 sixteen quarter half 0 0 0 gives 3)
    ∷ (case_bytes 4 0 2 0 100 7 sixteen quarter half 0 0 0 gives 4)
    ∷ (case_bytes 4 0 1 1 100 7 sixteen quarter half 0 0 0 gives 5)
    ∷ (case_bytes 4 0 1 0 367 7 sixteen quarter half 0 0 0 gives 6)
    ∷ (case_bytes 4 0 1 0 100 0 sixteen quarter half 0 0 0 gives 7)
    ∷ (case_bytes 4 0 1 0 100 7 minus_zero quarter half 0 0 0 gives 8)
    ∷ (case_bytes 4 0 1 0 100 7 sixteen quarter half least 0 0 gives 9)
    ∷ (case_bytes 4 0 1 0 100 7 (million + 1) quarter half 0 0 0 gives 10)
    ∷ (case_bytes 4 0 1 0 100 7 (million + 1) quarter half least 0 0 gives 9)
    ∷ (case_bytes 6 6 1 0 0 7 half eighth 0 five sixteen quarter gives 3)
    ∷ (case_bytes 6 0 2 0 0 7 half eighth 0 five sixteen quarter gives 4)
    ∷ (case_bytes 6 0 1 1 0 7 half eighth 0 five sixteen quarter gives 5)
    ∷ (case_bytes 6 0 1 0 1 7 half eighth 0 five sixteen quarter gives 6)
    ∷ (case_bytes 6 0 1 0 0 0 half eighth 0 five sixteen quarter gives 7)
    ∷ (case_bytes 6 0 1 0 0 7 minus_zero eighth 0 five sixteen quarter gives 8)
    ∷ (case_bytes 6 0 1 0 0 7 half eighth least five sixteen quarter gives 9)
    ∷ (case_bytes 6 0 1 0 0 7 half eighth 0 (ten_thousand + 1) sixteen quarter gives 10)
    ∷ (case_bytes 6 0 1 0 0 7 half eighth least (ten_thousand + 1) sixteen quarter gives 9)
    ∷ (case_bytes 7 2 1 0 0 7 half quarter five three_quarters eighth 0 gives 3)
    ∷ (case_bytes 7 1 2 0 0 7 half quarter five three_quarters eighth 0 gives 4)
    ∷ (case_bytes 7 1 1 1 0 7 half quarter five three_quarters eighth 0 gives 5)
    ∷ (case_bytes 7 1 1 0 1 7 half quarter five three_quarters eighth 0 gives 6)
    ∷ (case_bytes 7 1 1 0 0 0 half quarter five three_quarters eighth 0 gives 7)
    ∷ (case_bytes 7 1 1 0 0 7 minus_zero quarter five three_quarters eighth 0 gives 8)
    ∷ (case_bytes 7 1 1 0 0 7 half quarter five three_quarters eighth least gives 9)
    ∷ (case_bytes 7 1 1 0 0 7 half quarter (five + 1) three_quarters eighth 0 gives 10)
    ∷ (case_bytes 7 1 1 0 0 7 half quarter (five + 1) three_quarters eighth least gives 9)
    -- of kind 8, which has no row 0: LDPE has no usage by an open process, and epoxy resins none by a partially open one
    ∷ (case_bytes 8 0 1 2 250 7 half quarter eighth 0 0 0 gives 3)
    ∷ (case_bytes 8 19 1 2 250 7 half quarter eighth 0 0 0 gives 3)
    ∷ (case_bytes 8 3 2 2 250 7 half quarter eighth 0 0 0 gives 4)
    ∷ (case_bytes 8 1 1 0 250 7 half quarter eighth 0 0 0 gives 5)
    ∷ (case_bytes 8 1 1 4 250 7 half quarter eighth 0 0 0 gives 5)
    ∷ (case_bytes 8 1 1 1 250 7 half quarter eighth 0 0 0 gives 31)
    ∷ (case_bytes 8 18 1 2 250 7 half quarter eighth 0 0 0 gives 31)
    ∷ (case_bytes 8 1 1 2 0 7 half quarter eighth 0 0 0 gives 6)
    ∷ (case_bytes 8 1 1 2 367 7 half quarter eighth 0 0 0 gives 6)
    ∷ (case_bytes 8 1 1 2 250 0 half quarter eighth 0 0 0 gives 7)
    ∷ (case_bytes 8 1 1 2 250 7 minus_zero quarter eighth 0 0 0 gives 8)
    ∷ (case_bytes 8 1 1 2 250 7 half quarter eighth least 0 0 gives 9)
    ∷ (case_bytes 8 1 1 2 250 7 (unit + 1) quarter eighth 0 0 0 gives 10)
    ∷ (case_bytes 8 1 1 2 250 7 half three_quarters half 0 0 0 gives 11)
    -- two, and all from 31 on: 5 and 31, 31 and 6, 9 and 10, 10 and 11
    ∷ (case_bytes 8 7 1 4 250 7 half quarter eighth 0 0 0 gives 5)
    ∷ (case_bytes 8 1 1 1 0 7 half quarter eighth 0 0 0 gives 31)
    ∷ (case_bytes 8 1 1 1 0 0 minus_zero (unit + 1) unit least 0 0 gives 31)
    ∷ (case_bytes 8 1 1 2 250 7 (unit + 1) quarter eighth least 0 0 gives 9)
    ∷ (case_bytes 8 1 1 2 250 7 half (unit + 1) eighth 0 0 0 gives 10)
    ∷ []
