-- An archive in a buffer b at a used length u: its trailer, when that is broken, the lines that it holds, and one more of them.
-- Paper 01, 'The archive', and refusal 21 of 'From the state, after those, in this order'.
use Rattle.std.specs.Prelude.{Bool, not, ◌||◌, if◌then◌else◌, Option, Some, None, List, ◌++◌, ℕ, ◌+◌, ◌-◌, ◌*◌, ltb, eqb, length}
use Rattle.octets.specs.Bytes.{number_at, splice}
use Rattle.records.specs.Layout.{Line, record_of, trailer, first_lines, trailer_size, used_length, most_records, record_size, edition}

-- ── the trailer that ends at the used length

abbrev pub distance_at : List ℕ → ℕ → ℕ
distance_at b u = number_at b (u - 16) 8

abbrev pub count_at : List ℕ → ℕ → ℕ
count_at b u = number_at b (u - 8) 4

abbrev pub edition_at : List ℕ → ℕ → ℕ
edition_at b u = number_at b (u - 4) 4

-- Refusal 21: a used length beyond the buffer or under 16, n over 1,000,000, or a used length, distance or edition that is not that of n records.
unfoldable pub broken : List ℕ → ℕ → Bool
broken b u =
    ltb (length b) u
    || (ltb u trailer_size
    || (ltb most_records (count_at b u)
    || (not (eqb u (used_length record_size (count_at b u)))
    || (not (eqb (distance_at b u) (record_size * count_at b u)) || not (eqb (edition_at b u) edition)))))

-- How many records the archive has, where refusal 21 does not hold.
unfoldable pub records_in : List ℕ → ℕ → Option ℕ
records_in b u = (if broken b u then None else Some (count_at b u))

-- the lines that the archive holds
abbrev pub lines_in : List ℕ → ℕ → List Line
lines_in b u = first_lines record_size (count_at b u) b

-- ── one more line

-- The buffer with a record put behind the n that it has, and the trailer behind that.
unfoldable pub written : List ℕ → ℕ → Line → List ℕ
written b n l = splice b (record_size * n) (record_of l ++ trailer record_size edition (n + 1))
