-- Laws of the table of usages: `no_polymer_lem`, `no_process` (what is none of its rows, none of its columns); `usage_small`. What holds of every cell is one
-- computed test over the whole table.
-- `table_whole`: what `usage_of` gives by its contract for the 18 polymers and three processes is the printed table, all 54 cells. `column_sums`, `row_sums`:
-- how many usages each process has, and the tonnes of each process and polymer, by pencil, so that a number which is wrong in table and program alike is
-- refused, and so are two that are swapped. Each usage by itself is in crate equations, `row_examples_lem`.
-- Which of its cells hold a usage, in plain numbers, is in `FieldRanges`.
use mathlib.Core.Path.{◌≡◌, refl}
use mathlib.Core.Bool.{Bool, true}
use mathlib.Core.List.{List, [], ◌∷◌, map}
use Prim.Native.Nat.{ℕ, ◌≤◌}
use lib.Dec.{leb, eqb}
use lib.ListN.{length}
use borrow.Author.Tests.{leb-true, eqb-true}
use Rattle.octets.proofs.Bools.{every, every_at}
use Rattle.kinds.specs.Polymers.{polymers, no_polymer, usages_of, usage_at, polymer_rows, column, usage_count, tonnes_in_all}
use Rattle.std.proofs.Common.{Option, Some, None}
use Rattle.kinds.proofs.KindTable.{OtherThan, beyond}

pub no_polymer_lem : (row : ℕ) → OtherThan (length polymers) row → usages_of row ≡ no_polymer
unfolding usages_of
no_polymer_lem = beyond no_polymer polymers

processes : (row : ℕ) → length (usages_of row) ≡ 3
unfolding every usages_of polymers
processes row = eqb-true (length (usages_of row)) 3 (every_at (λ (l : List (Option ℕ)). eqb (length l) 3) (no_polymer ∷ polymers) no_polymer refl refl row)

pub no_process : (row user : ℕ) → OtherThan 3 user → usage_at row user ≡ None
unfolding usage_at
no_process row user o = beyond None (usages_of row) user (rw (processes row) o)

abbrev pub most_used : ℕ
most_used = 23100

small : Option ℕ → Bool
small None = true
small (Some q) = leb q most_used

each_small : (row user : ℕ) → small (usage_at row user) ≡ true
unfolding every small usage_at usages_of polymers
each_small row user = every_at small (None ∷ usages_of row) None (every_at (every small) (no_polymer ∷ polymers) no_polymer refl refl row) refl user

pub usage_small : (row user q : ℕ) → usage_at row user ≡ Some q → q ≤ most_used
unfolding small
usage_small row user q e = leb-true q most_used (rw e at (each_small row user))

-- ── the table as a whole

pub table_whole : map (λ (row : ℕ). usage_at row 1 ∷ usage_at row 2 ∷ usage_at row 3 ∷ []) polymer_rows ≡ polymers
unfolding usage_at usages_of polymers
table_whole = refl

-- open, partially open, closed: 34 usages
pub column_sums : (map (λ (user : ℕ). usage_count (column user)) (1 ∷ 2 ∷ 3 ∷ []) ≡ 8 ∷ 8 ∷ 18 ∷ [])
    × (map (λ (user : ℕ). tonnes_in_all (column user)) (1 ∷ 2 ∷ 3 ∷ []) ≡ 3260 ∷ 38750 ∷ 13316 ∷ [])
unfolding usage_at usages_of polymers
column_sums = (refl, refl)

-- from LDPE to epoxy resins
pub row_sums : map (λ (row : ℕ). tonnes_in_all (usages_of row)) polymer_rows
    ≡ 23628 ∷ 4200 ∷ 10490 ∷ 2998 ∷ 5075 ∷ 1617 ∷ 2790 ∷ 506 ∷ 990 ∷ 220 ∷ 290 ∷ 136 ∷ 131 ∷ 804 ∷ 781 ∷ 121 ∷ 469 ∷ 80 ∷ []
unfolding usages_of polymers
row_sums = refl
