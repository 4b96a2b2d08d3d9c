-- Records, the trailer, and the archive of a list of lines; and back.
-- Paper 01, 'The archive', first paragraph. Record size and edition are parameters, and are given their values once, below.
use Rattle.std.specs.Prelude.{List, [], ◌∷◌, ◌++◌, ℕ, zero, suc, ◌+◌, ◌*◌, length, take, drop}
use Rattle.octets.specs.Bytes.{bytes_of, number_at}

-- A line, the paper's term: a case and its figures.
pub record Line : Type 0 where
  pub case : List ℕ
  pub figures : List ℕ

-- what stands for a line that is not there
abbrev pub no_line : Line
no_line = record { case = []; figures = [] }

-- ── bytes of lines

-- figures one after another, 8 bytes each
unfoldable pub figure_bytes : List ℕ → List ℕ
figure_bytes [] = []
figure_bytes (x ∷ xs) = bytes_of 8 x ++ figure_bytes xs

-- the record of a line
unfoldable pub record_of : Line → List ℕ
record_of l = l.case ++ figure_bytes l.figures

-- one record behind another
unfoldable pub records : List Line → List ℕ
records [] = []
records (l ∷ ls) = record_of l ++ records ls

-- the trailer of n records: how far before it they begin, then n, then the edition
unfoldable pub trailer : ℕ → ℕ → ℕ → List ℕ
trailer width edition n = bytes_of 8 (width * n) ++ bytes_of 4 n ++ bytes_of 4 edition

-- the archive of some lines
unfoldable pub archive_of : ℕ → ℕ → List Line → List ℕ
archive_of width edition ls = records ls ++ trailer width edition (length ls)

-- ── sizes

abbrev pub case_size : ℕ
case_size = 64

abbrev pub trailer_size : ℕ
trailer_size = 16

-- the used length of n records
abbrev pub used_length : ℕ → ℕ → ℕ
used_length width n = width * n + trailer_size

-- the most records that an archive may have
abbrev pub most_records : ℕ
most_records = 1000000

-- where a record's figures end
abbrev pub figures_end : ℕ
figures_end = 96

-- the size of a record, and the edition, the paper's term
abbrev pub record_size : ℕ
record_size = 96

abbrev pub edition : ℕ
edition = 1

-- ── and back

-- the n bytes from offset at on
abbrev pub bytes_at : List ℕ → ℕ → ℕ → List ℕ
bytes_at b at n = take n (drop at b)

-- record k of those in a buffer, each as long as the width
abbrev pub record_at : ℕ → List ℕ → ℕ → List ℕ
record_at width b k = bytes_at b (width * k) width

-- the first k figures that bytes hold
unfoldable pub figures_in : ℕ → List ℕ → List ℕ
figures_in zero b = []
figures_in (suc k) b = number_at b 0 8 ∷ figures_in k (drop 8 b)

-- the line that a record holds
unfoldable pub line_of : List ℕ → Line
line_of r = record { case = take case_size r; figures = figures_in 4 (drop case_size r) }

-- the lines of the first n records, each as long as the width
unfoldable pub first_lines : ℕ → ℕ → List ℕ → List Line
first_lines width zero b = []
first_lines width (suc n) b = line_of (take width b) ∷ first_lines width n (drop width b)
