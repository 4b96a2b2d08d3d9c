-- The whole number that limbs stand for.
use Rattle.std.specs.Prelude.{ℕ, ◌+◌, ◌-◌, ◌*◌, ◌<◌, List, [], ◌∷◌, get_or}

-- the number whose digits in base 2 ^ 32 are the list's, the lowest first
unfoldable pub value : List ℕ → ℕ
value [] = 0
value (x ∷ xs) = x + 4294967296 * value xs

-- the first n limbs are in use: the top one of them is not 0
abbrev pub InUse : ℕ → List ℕ → Type 0
InUse n l = 0 < n → 0 < get_or l (n - 1) 0
