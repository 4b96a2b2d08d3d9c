-- What plastics makers use on site: source document 004, Table 3.1 of section 3.3, l. 246-267 (another table of that document has the same number),
-- its last three columns. Request No. 2: rows are the polymers in the table's order, users the processes, 1 open, 2 partially open, 3 closed.
-- docs/DEFAULTS.md has the quotes.
use Rattle.std.specs.Prelude.{Bool, true, false, List, [], ◌∷◌, map, ℕ, ◌+◌, get_or, Option, Some, None}

-- as printed, in tonnes per year: open, partially open, closed; None where nothing is printed
unfoldable pub polymers : List (List (Option ℕ))
polymers =
    -- LDPE, l. 250
    (None ∷ Some 23100 ∷ Some 528 ∷ [])
    -- HDPE, l. 251
    ∷ (None ∷ Some 2070 ∷ Some 2130 ∷ [])
    -- Polypropylene, l. 252
    ∷ (None ∷ Some 8880 ∷ Some 1610 ∷ [])
    -- Rigid PVC, l. 253
    ∷ (Some 988 ∷ None ∷ Some 2010 ∷ [])
    -- Flexible PVC, l. 254
    ∷ (Some 744 ∷ Some 3990 ∷ Some 341 ∷ [])
    -- Polystyrene, l. 255
    ∷ (Some 605 ∷ Some 389 ∷ Some 623 ∷ [])
    -- Expanded polystyrene, l. 256
    ∷ (None ∷ None ∷ Some 2790 ∷ [])
    -- ABS, l. 257
    ∷ (Some 78 ∷ None ∷ Some 428 ∷ [])
    -- PET, l. 258
    ∷ (Some 176 ∷ None ∷ Some 814 ∷ [])
    -- Polyamides, l. 259
    ∷ (Some 39 ∷ None ∷ Some 181 ∷ [])
    -- Acrylics, l. 260
    ∷ (Some 55 ∷ Some 207 ∷ Some 28 ∷ [])
    -- Acetals, l. 261
    ∷ (None ∷ Some 52 ∷ Some 84 ∷ [])
    -- Polycarbonates, l. 262
    ∷ (None ∷ Some 62 ∷ Some 69 ∷ [])
    -- Polyurethanes, l. 263
    ∷ (None ∷ None ∷ Some 804 ∷ [])
    -- Unsaturated polyesters, l. 264
    ∷ (Some 575 ∷ None ∷ Some 206 ∷ [])
    -- Phenolic resins, l. 265
    ∷ (None ∷ None ∷ Some 121 ∷ [])
    -- Amino resins, l. 266
    ∷ (None ∷ None ∷ Some 469 ∷ [])
    -- Epoxy resins, l. 267
    ∷ (None ∷ None ∷ Some 80 ∷ [])
    ∷ []

-- by row: polymers are numbered from 1, and what is none of them has no usage
abbrev pub no_polymer : List (Option ℕ)
no_polymer = None ∷ None ∷ None ∷ []

unfoldable pub usages_of : ℕ → List (Option ℕ)
usages_of row = get_or (no_polymer ∷ polymers) row no_polymer

-- Q, by row and user: processes are numbered from 1, and what is none of them has no usage
unfoldable pub usage_at : ℕ → ℕ → Option ℕ
unfolding usages_of
usage_at row user = get_or (None ∷ usages_of row) user None

abbrev pub is_missing : Option ℕ → Bool
is_missing None = true
is_missing (Some q) = false

-- ── the table as a whole

abbrev pub polymer_rows : List ℕ
polymer_rows = 1 ∷ 2 ∷ 3 ∷ 4 ∷ 5 ∷ 6 ∷ 7 ∷ 8 ∷ 9 ∷ 10 ∷ 11 ∷ 12 ∷ 13 ∷ 14 ∷ 15 ∷ 16 ∷ 17 ∷ 18 ∷ []

-- of a process
abbrev pub column : ℕ → List (Option ℕ)
column user = map (λ (row : ℕ). usage_at row user) polymer_rows

-- of some cells: how many hold a usage, and the tonnes of all
abbrev pub usage_count : List (Option ℕ) → ℕ
usage_count [] = 0
usage_count (None ∷ us) = usage_count us
usage_count (Some q ∷ us) = 1 + usage_count us

abbrev pub tonnes_in_all : List (Option ℕ) → ℕ
tonnes_in_all [] = 0
tonnes_in_all (None ∷ us) = tonnes_in_all us
tonnes_in_all (Some q ∷ us) = q + tonnes_in_all us
