-- The parts of a text, as its words and lines are, and what stands beside a name in a table.
use Rattle.std.specs.Prelude.{cond, List, [], ◌∷◌, ℕ, ◌==◌, eqb, Option, None, Some}
use Rattle.std.specs.List.{position_or_len}
use Rattle.std.specs.Str.{bytes_eq}
use denote.Ref.{Bor}

-- the place of the first byte b; the length where there is none
unfoldable pub index_of : ℕ → List ℕ → ℕ
index_of b l = position_or_len (λ x. x == b) l

-- a byte in front of the first part
unfoldable pub onto : ℕ → List (List ℕ) → List (List ℕ)
onto b [] = (b ∷ []) ∷ []
onto b (w ∷ ws) = (b ∷ w) ∷ ws

-- the parts of a text, each up to a byte s or the end
unfoldable pub parts_of : ℕ → List ℕ → List (List ℕ)
parts_of s [] = []
parts_of s (b ∷ bs) = cond (eqb b s) ([] ∷ parts_of s bs) (onto b (parts_of s bs))

abbrev pub words_of : List ℕ → List (List ℕ)
words_of = parts_of 32

abbrev pub lines_of : List ℕ → List (List ℕ)
lines_of = parts_of 10

-- ── a table, whose lines are a name and what stands beside it

-- a line as a program holds it
abbrev pub line_read : {T : Type 0} → (Bor (List ℕ) × T) → (List ℕ × T)
line_read l = (l.0.now, l.1)

-- of the first line with the name
abbrev pub named_in : {T : Type 0} → List ℕ → List (List ℕ × T) → Option T
named_in w [] = None
named_in w (l ∷ ls) = cond (bytes_eq l.0 w) (Some l.1) (named_in w ls)
