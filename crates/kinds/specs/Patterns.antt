-- What the functions of this crate and of scenario hold in numbers: ranges by their ends, quantities and limits as patterns.
use Rattle.std.specs.Prelude.{◌≡◌, Bool, true, false, not, cond, List, [], ◌∷◌, map, ℕ, ◌*◌, eqb, pos, get_or}
use Rattle.std.specs.Float.{binary64}
use Rattle.std.specs.Float.Ieee.{of_int, to_bits}
use Rattle.binary64.specs.Quantity.{one}
use Rattle.kinds.specs.declared.Span.{Span}
use Rattle.kinds.specs.declared.Bounds.{Bounds}
use Rattle.kinds.specs.Case.{exact_of, Range, Listing, listed, limit, Kind, pattern_at, of_six}

-- ── quantities

-- the patterns of a to f
abbrev pub patterns_of : List ℕ → List ℕ
patterns_of b = of_six (pattern_at b)

-- the pattern at place i of such a list
abbrev pub at : List ℕ → ℕ → ℕ
at ps i = get_or ps i 0

-- ── the table of kinds

abbrev pub span : Range → Span
span r = record { 0 = r.from; 1 = r.to }

-- what the fields of a kind may be
unfoldable pub bounds_of : Kind → Bounds
bounds_of k = record { rows = span k.rows; users = span k.users; own_count = span k.own_count; row_count = span k.row_count }

-- 0 for a quantity that is not listed, otherwise the pattern of the limit: with row 0, or with the paper's rows
unfoldable pub limit_pattern : Bool → Listing → ℕ
limit_pattern own l = cond (listed own l) (to_bits binary64 (of_int binary64 (pos (limit l)))) 0

-- the rule of a limit held so: 0 for a quantity that is not listed alone, otherwise a pattern whose exact value is the limit
pub record IsLimit (own : Bool) (l : Listing) (m : ℕ) : Type 0 where
  pub none : eqb m 0 ≡ not (listed own l)
  pub most : listed own l ≡ true → exact_of m ≡ limit l * one

abbrev pub limit_patterns : Bool → List Listing → List ℕ
limit_patterns own = map (limit_pattern own)

-- with row 0, with the paper's rows
unfoldable pub limits_of : Kind → List (List ℕ)
limits_of k = limit_patterns true k.quantities ∷ limit_patterns false k.quantities ∷ []
