-- A case of 64 bytes: its fields, what each kind allows, and refusals 1 to 11, with 31 straight after 5.
-- Paper 01, 'A case, 64 bytes', 'City rows', 'Equations' (rows, T, quantities, limits) and 'From the input, in this order'; kind 8 and 31: request No. 2.
use Rattle.std.specs.Prelude.{Bool, true, false, not, ◌&&◌, ◌||◌, cond, List, [], ◌∷◌, ◌++◌, map, ℕ, ◌+◌, ◌*◌, leb, eqb, Float, length, get_or}
use Rattle.std.specs.Float.{binary64}
use Rattle.std.specs.Float.Ieee.{of_bits, add, le}
use Rattle.octets.specs.Bytes.{number_at}
use Rattle.binary64.specs.Pattern.{is_unsigned_finite}
use Rattle.binary64.specs.Quantity.{whole, one}
use Rattle.kinds.specs.Polymers.{usage_at, is_missing}
use Rattle.kinds.specs.Refusal.{Condition, ◌when◌, first_of}

-- ── the fields

abbrev pub kind_of : List ℕ → ℕ
kind_of b = get_or b 0 0

abbrev pub row_of : List ℕ → ℕ
row_of b = get_or b 1 0

abbrev pub route_of : List ℕ → ℕ
route_of b = get_or b 2 0

abbrev pub user_of : List ℕ → ℕ
user_of b = get_or b 3 0

-- the count T
abbrev pub count_of : List ℕ → ℕ
count_of b = number_at b 4 4

abbrev pub dossier_of : List ℕ → ℕ
dossier_of b = number_at b 8 8

-- the pattern of quantity i, from a, which is 0, to f, which is 5
abbrev pub pattern_at : List ℕ → ℕ → ℕ
pattern_at b i = number_at b (16 + 8 * i) 8

-- of a to f
abbrev pub of_six : {A : Type 0} → (ℕ → A) → List A
of_six x = x 0 ∷ x 1 ∷ x 2 ∷ x 3 ∷ x 4 ∷ x 5 ∷ []

-- ── what a quantity is, of its pattern

-- as a binary64
abbrev pub quantity_of : ℕ → Float
quantity_of pattern = of_bits binary64 pattern

-- its exact value, over 2 ^ 1074
abbrev pub exact_of : ℕ → ℕ
exact_of pattern = whole pattern

-- the exact value of quantity i of a case: limits are on it, and the equations take it (`quantities_exact`, in crate equations)
abbrev pub exact_at : List ℕ → ℕ → ℕ
exact_at b i = exact_of (pattern_at b i)

-- ── what a kind allows

-- both ends are allowed
pub record Range : Type 0 where
  pub from : ℕ
  pub to : ℕ

infix 6 ◌to◌
abbrev pub ◌to◌ : ℕ → ℕ → Range
m to n = record { from = m; to = n }

abbrev pub within : Range → ℕ → Bool
within r n = leb r.from n && leb n r.to

-- A quantity is listed with no row, with each, or with row 0 alone, up to a limit, which it may reach.
pub data Listing : Type 0 where
  unlisted : Listing
  up_to : ℕ → Listing
  own_up_to : ℕ → Listing

abbrev pub fraction : Listing
fraction = up_to 1

-- the rows, the users, T with row 0 and with the rows of the paper, the quantities a to f, and which of them are parts of one whole,
-- in the order in which they are added: a is 0, f is 5
pub record Kind : Type 0 where
  pub rows : Range
  pub users : Range
  pub own_count : Range
  pub row_count : Range
  pub quantities : List Listing
  pub summed : List ℕ

abbrev pub kind : Range → Range → Range → Range → List Listing → List ℕ → Kind
kind r u t t' q s = record { rows = r; users = u; own_count = t; row_count = t'; quantities = q; summed = s }

-- The eight kinds. Kind 5 has no row but 0, and kind 8 no row 0: T with a row that a kind has not is never looked at.
unfoldable pub kinds : List Kind
kinds =
    -- 1. city, leaching measured
    kind (0 to 7) (0 to 0) (31 to 36500) (0 to 0) (up_to 100 ∷ up_to 100 ∷ fraction ∷ own_up_to 1000 ∷ unlisted ∷ unlisted ∷ []) []
    -- 2. city, leaching unknown
    ∷ kind (0 to 7) (0 to 0) (31 to 36500) (0 to 0) (fraction ∷ unlisted ∷ fraction ∷ own_up_to 1000 ∷ own_up_to 100 ∷ own_up_to 5000 ∷ []) []
    -- 3. city, application
    ∷ kind (0 to 7) (1 to 2) (1 to 100) (0 to 0) (fraction ∷ unlisted ∷ unlisted ∷ own_up_to 1000 ∷ own_up_to 100 ∷ own_up_to 5000 ∷ []) []
    -- 4. sanitary, tonnage
    ∷ kind (0 to 1) (0 to 0) (1 to 366) (0 to 0) (up_to 1000000 ∷ fraction ∷ fraction ∷ unlisted ∷ unlisted ∷ unlisted ∷ []) []
    -- 5. formulation
    ∷ kind (0 to 0) (0 to 0) (1 to 366) (0 to 0) (up_to 1000000 ∷ fraction ∷ fraction ∷ fraction ∷ fraction ∷ unlisted ∷ []) (2 ∷ 3 ∷ 4 ∷ [])
    -- 6. hygiene, consumption
    ∷ kind (0 to 5) (0 to 0) (0 to 0) (0 to 0) (fraction ∷ fraction ∷ unlisted ∷ own_up_to 10000 ∷ own_up_to 100 ∷ own_up_to 1 ∷ []) []
    -- 7. chemical toilets
    ∷ kind (0 to 1) (0 to 0) (1 to 100) (0 to 0) (fraction ∷ fraction ∷ up_to 5 ∷ fraction ∷ fraction ∷ unlisted ∷ []) []
    -- 8. plastics, by polymer and process
    ∷ kind (1 to 18) (1 to 3) (1 to 366) (1 to 366) (fraction ∷ fraction ∷ fraction ∷ unlisted ∷ unlisted ∷ unlisted ∷ []) (1 ∷ 2 ∷ [])
    ∷ []

-- a kind that is not there allows nothing
abbrev pub no_kind : Kind
no_kind = kind (1 to 0) (1 to 0) (1 to 0) (1 to 0) (unlisted ∷ unlisted ∷ unlisted ∷ unlisted ∷ unlisted ∷ unlisted ∷ []) []

-- kinds are numbered from 1
unfoldable pub kind_at : ℕ → Kind
unfolding kinds
kind_at k = get_or (no_kind ∷ kinds) k no_kind

abbrev pub counts_at : ℕ → ℕ → Range
counts_at k row = cond (eqb row 0) (kind_at k).own_count (kind_at k).row_count

-- of quantity i
abbrev pub listing_at : ℕ → ℕ → Listing
listing_at k i = get_or (kind_at k).quantities i unlisted

-- whether it is listed with row 0, which is the case's own, or with the paper's rows
abbrev pub listed : Bool → Listing → Bool
listed own unlisted = false
listed own (up_to n) = true
listed own (own_up_to n) = own

abbrev pub limit : Listing → ℕ
limit unlisted = 0
limit (up_to n) = n
limit (own_up_to n) = n

-- ── what is not allowed: a test for each refusal, in their order

unfoldable pub not_sixty_four : List ℕ → Bool
not_sixty_four b = not (eqb (length b) 64)

unfoldable pub kind_unknown : ℕ → Bool
kind_unknown k = not (within (1 to 8) k)

unfoldable pub row_unknown : ℕ → ℕ → Bool
row_unknown k row = not (within (kind_at k).rows row)

-- Route 1, to the plant, is open to every case; route 2, by the rain sewer, to a city's uses outdoors: its rows from 3 on, and row 0.
unfoldable pub route_not_allowed : ℕ → ℕ → ℕ → Bool
route_not_allowed k row route = not (eqb route 1 || (eqb route 2 && (within (1 to 3) k && (eqb row 0 || within (3 to 7) row))))

unfoldable pub user_not_allowed : ℕ → ℕ → Bool
user_not_allowed k user = not (within (kind_at k).users user)

-- refusal 31, of kind 8: "A polymer without usage for that process"
unfoldable pub usage_missing : ℕ → ℕ → ℕ → Bool
usage_missing k row user = eqb k 8 && is_missing (usage_at row user)

unfoldable pub count_not_allowed : ℕ → ℕ → ℕ → Bool
count_not_allowed k row t = not (within (counts_at k row) t)

abbrev pub dossier_zero : ℕ → Bool
dossier_zero dossier = eqb dossier 0

-- The rest look at the patterns p of a to f.

-- any of the six
abbrev pub any_of_six : (ℕ → Bool) → Bool
any_of_six t = t 0 || t 1 || t 2 || t 3 || t 4 || t 5

-- refusal 8: "with sign bit set (minus zero too) or exponent field 2047"
unfoldable pub not_number : ℕ → Bool
not_number pattern = not (is_unsigned_finite pattern)

abbrev pub any_not_number : (ℕ → ℕ) → Bool
any_not_number p = any_of_six (λ i. not_number (p i))

-- unlisted, and not eight zero bytes
unfoldable pub not_zero_bytes : Bool → Listing → ℕ → Bool
not_zero_bytes own l pattern = not (listed own l) && not (eqb pattern 0)

abbrev pub any_not_zero_bytes : ℕ → ℕ → (ℕ → ℕ) → Bool
any_not_zero_bytes k row p = any_of_six (λ i. not_zero_bytes (eqb row 0) (listing_at k i) (p i))

-- listed, and the exact value over the limit
unfoldable pub over_limit : Bool → Listing → ℕ → Bool
over_limit own l pattern = listed own l && not (leb (exact_of pattern) (limit l * one))

abbrev pub any_over_limit : ℕ → ℕ → (ℕ → ℕ) → Bool
any_over_limit k row p = any_of_six (λ i. over_limit (eqb row 0) (listing_at k i) (p i))

-- added from the left, each addition rounded in binary64
unfoldable pub sum_from : Float → List Float → Float
sum_from s [] = s
sum_from s (x ∷ xs) = sum_from (add binary64 s x) xs

-- the sum is at most 1; nothing is summed where no quantities are
unfoldable pub sum_within : List Float → Bool
unfolding sum_from
sum_within [] = true
sum_within (x ∷ xs) = le (sum_from x xs) (of_bits binary64 0x3ff0000000000000)

-- what kind k sums of the six. Kind 5: "The sum (c + d) + e, both additions rounded in binary64, is at most 1"; kind 8: "The sum b + c, rounded once"
unfoldable pub summed_of : ℕ → List Float → List Float
summed_of k xs = map (λ (i : ℕ). get_or xs i (quantity_of 0)) (kind_at k).summed

unfoldable pub sum_over : ℕ → (ℕ → ℕ) → Bool
sum_over k p = not (sum_within (summed_of k (of_six (λ i. quantity_of (p i)))))

-- ── refusals 1 to 11, in the paper's order, 31 straight after 5

-- 2 to 7 and 31, of what stands before the quantities
abbrev pub head_refusals : ℕ → ℕ → ℕ → ℕ → ℕ → ℕ → List Condition
head_refusals k row route user t dossier =
    (2 when kind_unknown k)
    ∷ (3 when row_unknown k row)
    ∷ (4 when route_not_allowed k row route)
    ∷ (5 when user_not_allowed k user)
    ∷ (31 when usage_missing k row user)
    ∷ (6 when count_not_allowed k row t)
    ∷ (7 when dossier_zero dossier)
    ∷ []

-- 8 to 11, of the quantities
abbrev pub quantity_refusals : ℕ → ℕ → (ℕ → ℕ) → List Condition
quantity_refusals k row p =
    (8 when any_not_number p)
    ∷ (9 when any_not_zero_bytes k row p)
    ∷ (10 when any_over_limit k row p)
    ∷ (11 when sum_over k p)
    ∷ []

-- all of them, of the bytes of a case
abbrev pub refusals : List ℕ → List Condition
refusals b =
    (1 when not_sixty_four b)
    ∷ head_refusals (kind_of b) (row_of b) (route_of b) (user_of b) (count_of b) (dossier_of b)
    ++ quantity_refusals (kind_of b) (row_of b) (pattern_at b)

-- A case is within the ranges when this is 0.
unfoldable pub refusal_of : List ℕ → ℕ
refusal_of b = first_of (refusals b)
