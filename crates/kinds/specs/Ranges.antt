-- The ranges of a case in plain numbers: its fields beside the numbers of paper 01 and, for kind 8, request No. 2, kind by kind, in the order of the refusals.
-- A case is accepted exactly when it is within them (`accepted_exactly`). Of Case only the fields and what a quantity is are used, not the table `kinds` and no test,
-- and nothing of Polymers, so that a number which is wrong there and in the program alike is refused.
-- k is the kind, t the count T, and a to f are the patterns of the quantities.
use Rattle.std.specs.Prelude.{◌≡◌, true, List, [], ◌∷◌, ◌⊎◌, ℕ, ◌*◌, ◌^◌, ◌≤◌, ◌<◌, Float, length, get_or}
use Rattle.std.specs.Float.{binary64}
use Rattle.std.specs.Float.Ieee.{of_bits, add, le}
use Rattle.binary64.specs.Quantity.{one}
use Rattle.kinds.specs.Case.{kind_of, row_of, route_of, user_of, count_of, dossier_of, pattern_at, quantity_of, exact_of}

-- ── a number, and a quantity

-- both ends are allowed
abbrev pub Between : ℕ → ℕ → ℕ → Type 0
Between m n x = (m ≤ x) × (x ≤ n)

-- with row 0, and with the paper's rows
abbrev pub ByRow : ℕ → Type 0 → Type 0 → Type 0
ByRow row own paper = (row ≡ 0 → own) × ((row ≡ 0 → ⊥) → paper)

-- no sign bit, and an exponent field below 2047: less than the pattern of infinity
abbrev pub Number : ℕ → Type 0
Number p = p < 2047 * 2 ^ 52

-- listed: the exact value is at most n
abbrev pub UpTo : ℕ → ℕ → Type 0
UpTo n p = exact_of p ≤ n * one

-- unlisted: eight zero bytes
abbrev pub ZeroBytes : ℕ → Type 0
ZeroBytes p = p ≡ 0

-- listed with row 0 alone
abbrev pub OwnUpTo : ℕ → ℕ → ℕ → Type 0
OwnUpTo row n p = ByRow row (UpTo n p) (ZeroBytes p)

-- "rounded in binary64"
abbrev pub plus : Float → Float → Float
plus x y = add binary64 x y

-- "is at most 1", whose pattern is the last
abbrev pub AtMost1 : Float → Type 0
AtMost1 x = le x (of_bits binary64 0x3ff0000000000000) ≡ true

abbrev pub NoSum : Type 0
NoSum = Unit {0}

-- ── what each kind allows

abbrev pub IsKind : ℕ → Type 0
IsKind k = Between 1 8 k

-- row, user, T, the quantities, and the sum, if there is one: what refusals 3, 5, 6, 9 with 10, and 11 leave
pub record Allows : Type 1 where
  pub row : Type 0
  pub user : Type 0
  pub count : Type 0
  pub quantities : Type 0
  pub sum : Type 0

abbrev pub allows : Type 0 → Type 0 → Type 0 → Type 0 → Type 0 → Allows
allows r u t q s = record { row = r; user = u; count = t; quantities = q; sum = s }

-- the kinds in their order, from 1
abbrev pub allowed : (row user t a b c d e f : ℕ) → List Allows
allowed row user t a b c d e f =
    -- 1. city, leaching measured
    allows (Between 0 7 row) (Between 0 0 user) (ByRow row (Between 31 36500 t) (Between 0 0 t))
    (UpTo 100 a × UpTo 100 b × UpTo 1 c × OwnUpTo row 1000 d × ZeroBytes e × ZeroBytes f) NoSum
    -- 2. city, leaching unknown
    ∷ allows (Between 0 7 row) (Between 0 0 user) (ByRow row (Between 31 36500 t) (Between 0 0 t))
    (UpTo 1 a × ZeroBytes b × UpTo 1 c × OwnUpTo row 1000 d × OwnUpTo row 100 e × OwnUpTo row 5000 f) NoSum
    -- 3. city, application: "User is 1 (professional) or 2 (not) for kind 3, otherwise 0."
    ∷ allows (Between 0 7 row) (Between 1 2 user) (ByRow row (Between 1 100 t) (Between 0 0 t))
    (UpTo 1 a × ZeroBytes b × ZeroBytes c × OwnUpTo row 1000 d × OwnUpTo row 100 e × OwnUpTo row 5000 f) NoSum
    -- 4. sanitary, tonnage
    ∷ allows (Between 0 1 row) (Between 0 0 user) (ByRow row (Between 1 366 t) (Between 0 0 t))
    (UpTo 1000000 a × UpTo 1 b × UpTo 1 c × ZeroBytes d × ZeroBytes e × ZeroBytes f) NoSum
    -- 5. formulation: "The sum (c + d) + e, both additions rounded in binary64, is at most 1."
    ∷ allows (Between 0 0 row) (Between 0 0 user) (ByRow row (Between 1 366 t) (Between 0 0 t))
    (UpTo 1000000 a × UpTo 1 b × UpTo 1 c × UpTo 1 d × UpTo 1 e × ZeroBytes f) (AtMost1 (plus (plus (quantity_of c) (quantity_of d)) (quantity_of e)))
    -- 6. hygiene, consumption
    ∷ allows (Between 0 5 row) (Between 0 0 user) (ByRow row (Between 0 0 t) (Between 0 0 t))
    (UpTo 1 a × UpTo 1 b × ZeroBytes c × OwnUpTo row 10000 d × OwnUpTo row 100 e × OwnUpTo row 1 f) NoSum
    -- 7. chemical toilets
    ∷ allows (Between 0 1 row) (Between 0 0 user) (ByRow row (Between 1 100 t) (Between 0 0 t))
    (UpTo 1 a × UpTo 1 b × UpTo 5 c × UpTo 1 d × UpTo 1 e × ZeroBytes f) NoSum
    -- 8. plastics: "The sum b + c, rounded once in binary64, falls under 11 as kind 5's does."
    ∷ allows (Between 1 18 row) (Between 1 3 user) (ByRow row (Between 1 366 t) (Between 1 366 t))
    (UpTo 1 a × UpTo 1 b × UpTo 1 c × ZeroBytes d × ZeroBytes e × ZeroBytes f) (AtMost1 (plus (quantity_of b) (quantity_of c)))
    ∷ []

-- what is no kind allows nothing
abbrev pub allows_nothing : Allows
allows_nothing = allows ⊥ ⊥ ⊥ ⊥ ⊥

-- by kind k, of a case
abbrev pub allowed_by : ℕ → List ℕ → Allows
allowed_by k b =
    get_or (allows_nothing ∷ allowed (row_of b) (user_of b) (count_of b) (pattern_at b 0) (pattern_at b 1) (pattern_at b 2) (pattern_at b 3) (pattern_at b 4) (pattern_at b 5)) k allows_nothing

-- "Route 2 is allowed for kinds 1 to 3 with row 0 or 3 to 7."
abbrev pub Route : (k row route : ℕ) → Type 0
Route k row route = (route ≡ 1) ⊎ ((route ≡ 2) × (Between 1 3 k × ((row ≡ 0) ⊎ Between 3 7 row)))

-- The polymers that have a usage, process by process: kind 8 allows no other.
abbrev pub HasUsage : (row user : ℕ) → Type 0
HasUsage row user =
    -- open
    ((user ≡ 1) × (Between 4 6 row ⊎ (Between 8 11 row ⊎ (row ≡ 15))))
    -- partially open
    ⊎ (((user ≡ 2) × (Between 1 3 row ⊎ (Between 5 6 row ⊎ Between 11 13 row)))
    -- closed
    ⊎ ((user ≡ 3) × Between 1 18 row))

-- ── a case

pub record WithinRanges (b : List ℕ) : Type 0 where
  pub sixty_four : length b ≡ 64
  pub kind : IsKind (kind_of b)
  pub row : (allowed_by (kind_of b) b).row
  pub route : Route (kind_of b) (row_of b) (route_of b)
  pub user : (allowed_by (kind_of b) b).user
  pub usage : kind_of b ≡ 8 → HasUsage (row_of b) (user_of b)
  pub count : (allowed_by (kind_of b) b).count
  pub dossier : dossier_of b ≡ 0 → ⊥
  pub numbers : (i : ℕ) → i < 6 → Number (pattern_at b i)
  pub quantities : (allowed_by (kind_of b) b).quantities
  pub sum : (allowed_by (kind_of b) b).sum
