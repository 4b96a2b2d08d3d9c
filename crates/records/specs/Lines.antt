-- Terms of paper 01 on lines: the same filing, held, the worst line. No bytes are read here but those of cases.
-- Paper 01, 'The archive'. The searches here, the calls of `archive` and the ledger of `history` share them.
use Rattle.std.specs.Prelude.{◌≡◌, Bool, true, false, ◌&&◌, ◌||◌, cond, List, [], ◌∷◌, ℕ, zero, suc, ◌-◌, ◌≤◌, ◌<◌, ltb, eqb, length, get_or}
use Rattle.records.specs.Layout.{Line, no_line, bytes_at}

-- ── held

abbrev pub same_bytes : List ℕ → List ℕ → Bool
same_bytes [] [] = true
same_bytes [] (y ∷ ys) = false
same_bytes (x ∷ xs) [] = false
same_bytes (x ∷ xs) (y ∷ ys) = eqb x y && same_bytes xs ys

-- The same filing, the paper's term: the head without T, and the dossier number.
unfoldable pub same_filing : List ℕ → List ℕ → Bool
same_filing c d = same_bytes (bytes_at c 0 4) (bytes_at d 0 4) && same_bytes (bytes_at c 8 8) (bytes_at d 8 8)

-- held, the paper's term
unfoldable pub held : List Line → List ℕ → Bool
held [] c = false
held (l ∷ ls) c = same_filing l.case c || held ls c

-- What it is to be held, of bytes: some line's case has those 12 bytes. `held_exactly` says that held is this.
pub record IsHeld (ls : List Line) (c : List ℕ) : Type 0 where
  pub place : ℕ
  pub there : place < length ls
  pub head : bytes_at (get_or ls place no_line).case 0 4 ≡ bytes_at c 0 4
  pub dossier : bytes_at (get_or ls place no_line).case 8 8 ≡ bytes_at c 8 8

-- ── the worst line

-- a line's figure in a compartment from 1 to 4
unfoldable pub figure : ℕ → Line → ℕ
figure m l = get_or l.figures (m - 1) 0

-- that of the line with number k
abbrev pub figure_of : ℕ → List Line → ℕ → ℕ
figure_of m ls k = figure m (get_or ls k no_line)

-- Of any figures f by number: whether number j outranks number k, which is that its figure is the higher one.
abbrev pub outranks : (ℕ → ℕ) → ℕ → ℕ → Bool
outranks f j k = ltb (f k) (f j)

-- the worst of the first n numbers by an order: the last of them where it outranks the worst before it
unfoldable pub worst_by : (ℕ → ℕ → Bool) → ℕ → ℕ
worst_by order zero = 0
worst_by order (suc k) = let w = worst_by order k in cond (order k w) k w

-- the worst line: of those that have the highest figure, the one with the lowest number
unfoldable pub worst_of : ℕ → List Line → ℕ
worst_of m ls = worst_by (outranks (figure_of m ls)) (length ls)

-- What it is to be the worst line: none is higher, and none earlier is as high. `worst_is_highest` says that worst_of names it, `worst_is_unique` that nothing else is it.
pub record IsWorst (m : ℕ) (ls : List Line) (k : ℕ) : Type 0 where
  pub there : k < length ls
  pub none_higher : (j : ℕ) → j < length ls → figure_of m ls j ≤ figure_of m ls k
  pub none_earlier_as_high : (j : ℕ) → j < k → figure_of m ls j < figure_of m ls k
