-- Numbers in bytes, little-endian, and a list with some of its places written.
use Rattle.std.specs.Prelude.{ℕ, zero, suc, ◌+◌, ◌*◌, ◌/◌, ◌%◌, ◌<◌, List, [], ◌∷◌, ◌++◌, length, get_or, take, drop}

-- each is a byte; a place that is not there counts as 0
abbrev pub AreBytes : List ℕ → Type 0
AreBytes l = (i : ℕ) → get_or l i 0 < 256

-- the w low bytes of x, the lowest first
unfoldable pub bytes_of : ℕ → ℕ → List ℕ
bytes_of zero x = []
bytes_of (suc w) x = x % 256 ∷ bytes_of w (x / 256)

-- the number that bytes give, the lowest first
unfoldable pub number_of : List ℕ → ℕ
number_of [] = 0
number_of (b ∷ bs) = b + 256 * number_of bs

-- the number in the w bytes from offset at on
unfoldable pub number_at : List ℕ → ℕ → ℕ → ℕ
unfolding number_of
number_at l at w = number_of (take w (drop at l))

-- l with vs in the places from at on
unfoldable pub splice : List ℕ → ℕ → List ℕ → List ℕ
splice l at vs = (take at l ++ vs) ++ drop (at + length vs) l
