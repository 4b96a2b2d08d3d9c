-- Row, route, user, usage and T in plain numbers: what passes its test is exactly what Ranges allows.
--   Passes, passes                                               what a refusal's test leaves
--   by_table                                                     what Ranges says of a kind is what the table of kinds says, computed
--   rows_exactly, routes_exactly, users_exactly, usages_exactly, counts_exactly  a law for each field, both ways
-- The quantities are in QuantityRanges, the whole case in Ranges.
use mathlib.Core.Path.{◌≡◌, refl, sym, subst}
use mathlib.Core.Bool.{Bool, true, false, not, ◌&&◌, ◌||◌, cond}
use mathlib.Core.List.{List, [], ◌∷◌, map}
use mathlib.Core.Logic.{◌⊎◌, inl, inr}
use Prim.Native.Nat.{ℕ, zero, suc, ◌<◌}
use native.Mathlib.Omega.{arith}
use native.Mathlib.Nat.{le_of_suc-le-suc}
use lib.Dec.{eqb}
use lib.Ieee.{Float}
use lib.ListN.{length, get_or}
use borrow.Author.Tests.{not-false, eqb-true, eqb-false, eq-eqb}
use Rattle.octets.proofs.Bools.{both, all_below, all_below_lem}
use Rattle.kinds.specs.Polymers.{polymers, usages_of, usage_at, is_missing}
use Rattle.kinds.specs.Case.{row_of, user_of, count_of, pattern_at, of_six, quantity_of, Range, ◌to◌, within, Listing, unlisted, up_to, own_up_to, Kind, kinds, no_kind, kind_at, row_unknown, route_not_allowed, user_not_allowed, usage_missing, count_not_allowed, sum_from}
use Rattle.kinds.specs.Ranges.{Between, ByRow, UpTo, ZeroBytes, OwnUpTo, AtMost1, NoSum, IsKind, Allows, allows, allows_nothing, allowed_by, Route, HasUsage}
use Rattle.kinds.proofs.KindTable.{inside}

-- ── tests in plain numbers

-- the test does not refuse exactly where P holds
abbrev pub Passes : Bool → Type 0 → Type 0
Passes t P = (t ≡ false → P) × (P → t ≡ false)

pub passes : {t : Bool} → t ≡ true → not t ≡ false
passes e = rw e

-- the test is passed exactly where P holds
abbrev Shows : Bool → Type 0 → Type 0
Shows t P = (t ≡ true → P) × (P → t ≡ true)

pub refused : {t : Bool} {P : Type 0} → Shows t P → Passes (not t) P
refused p = (λ e. p.0 (not-false _ e), λ h. passes (p.1 h))

pub equal : (m n : ℕ) → Shows (eqb m n) (m ≡ n)
equal m n = (eqb-true m n, eq-eqb m n)

infixr 6 ◌and◌
◌and◌ : {s t : Bool} {P Q : Type 0} → Shows s P → Shows t Q → Shows (s && t) (P × Q)
◌and◌ {s} {t} p q = (λ e. let h = both s t e in (p.0 h.0, q.0 h.1), λ h. rw (p.1 h.0, q.1 h.1))

infixr 5 ◌or◌
◌or◌ : {s t : Bool} {P Q : Type 0} → Shows s P → Shows t Q → Shows (s || t) (P ⊎ Q)
◌or◌ {s} {t} {P} {Q} p q = (go s refl, back)
  where
    go : (b : Bool) → s ≡ b → (b || t) ≡ true → P ⊎ Q
    go true e h = inl (p.0 e)
    go false e h = inr (q.0 h)

    last : (b : Bool) → (b || true) ≡ true
    last true = refl
    last false = refl

    back : P ⊎ Q → (s || t) ≡ true
    back (inl h) = rw (p.1 h)
    back (inr h) = rw (q.1 h) (last s)

-- ── what the table says of a kind

abbrev In : Range → ℕ → Type 0
In r n = Between r.from r.to n

abbrev pub Says : ℕ → Listing → ℕ → Type 0
Says row unlisted p = ZeroBytes p
Says row (up_to n) p = UpTo n p
Says row (own_up_to n) p = OwnUpTo row n p

abbrev pub SumSays : List ℕ → List Float → Type 0
SumSays [] xs = NoSum
SumSays (i ∷ is) xs = AtMost1 (sum_from (get_or xs i (quantity_of 0)) (map (λ (j : ℕ). get_or xs j (quantity_of 0)) is))

abbrev pub table_says : List ℕ → Kind → Allows
table_says b x =
    let row = row_of b in
    let says : ℕ → Type 0 = (λ i. Says row (get_or x.quantities i unlisted) (pattern_at b i)) in
    allows (In x.rows row) (In x.users (user_of b)) (ByRow row (In x.own_count (count_of b)) (In x.row_count (count_of b)))
    (says 0 × says 1 × says 2 × says 3 × says 4 × says 5) (SumSays x.summed (of_six (λ i. quantity_of (pattern_at b i))))

there : (f : Kind → Allows) (xs : List Kind) (i : ℕ) → i < length xs → get_or (map f xs) i allows_nothing ≡ f (get_or xs i no_kind)
there f [] i h = absurd (omega arith)
there f (x ∷ xs) zero h = refl
there f (x ∷ xs) (suc i) h = there f xs i (le_of_suc-le-suc h)

pub by_table : (b : List ℕ) (k : ℕ) → IsKind k → allowed_by k b ≡ table_says b (kind_at k)
unfolding kind_at kinds sum_from
by_table b zero h = let z = h.0 in absurd (omega arith)
by_table b (suc k) h = there (table_says b) kinds k h.1

-- ── each field

pub routes_exactly : (k row route : ℕ) → Passes (route_not_allowed k row route) (Route k row route)
unfolding route_not_allowed
routes_exactly k row route = refused (equal route 1 or equal route 2 and inside (1 to 3) k and (equal row 0 or inside (3 to 7) row))

by_row : (row : ℕ) (own paper : Range) (t : ℕ) → Passes (not (within (cond (eqb row 0) own paper) t)) (ByRow row (In own t) (In paper t))
by_row row own paper t = go (eqb row 0) refl
  where
    go : (z : Bool) → eqb row 0 ≡ z → Passes (not (within (cond z own paper) t)) (ByRow row (In own t) (In paper t))
    go true e = let z = eqb-true row 0 e in let p = refused (inside own t) in (λ h. (λ r. p.0 h, λ n. absurd (n z)), λ h. p.1 (h.0 z))
    go false e = let n = eqb-false row 0 e in let p = refused (inside paper t) in (λ h. (λ z. absurd (n z), λ r. p.0 h), λ h. p.1 (h.1 n))

-- the polymers that have a usage, as a test; it agrees with the printed table at every cell, computed
has_usage : (row user : ℕ) → Bool
has_usage row user =
    (eqb user 1 && (within (4 to 6) row || (within (8 to 11) row || eqb row 15)))
    || ((eqb user 2 && (within (1 to 3) row || (within (5 to 6) row || within (11 to 13) row)))
    || (eqb user 3 && within (1 to 18) row))

has_usage_lem : (row user : ℕ) → Shows (has_usage row user) (HasUsage row user)
unfolding has_usage
has_usage_lem row user =
    equal user 1 and (inside (4 to 6) row or inside (8 to 11) row or equal row 15)
    or equal user 2 and (inside (1 to 3) row or inside (5 to 6) row or inside (11 to 13) row)
    or equal user 3 and inside (1 to 18) row

-- exactly one of the two holds
differ : Bool → Bool → Bool
differ m t = cond m (not t) t

by_differ : (m t : Bool) → differ m t ≡ true → m ≡ not t
unfolding differ
by_differ true t e = sym e
by_differ false t e = rw e

cell : (row user : ℕ) → row < 19 → user < 4 → is_missing (usage_at row user) ≡ not (has_usage row user)
unfolding all_below differ has_usage usage_at usages_of polymers
cell row user h g =
    let agree : ℕ → ℕ → Bool = (λ r u. differ (is_missing (usage_at r u)) (has_usage r u)) in
    by_differ (is_missing (usage_at row user)) (has_usage row user) (all_below_lem (agree row) 4 (all_below_lem (λ r. all_below (agree r) 4) 19 refl row h) user g)

module _ (b : List ℕ) (k : ℕ) (h : IsKind k) where
  pub rows_exactly : Passes (row_unknown k (row_of b)) (allowed_by k b).row
  unfolding row_unknown
  rows_exactly = rw (by_table b k h) (refused (inside (kind_at k).rows (row_of b)))

  pub users_exactly : Passes (user_not_allowed k (user_of b)) (allowed_by k b).user
  unfolding user_not_allowed
  users_exactly = rw (by_table b k h) (refused (inside (kind_at k).users (user_of b)))

  pub usages_exactly : (allowed_by k b).row → (allowed_by k b).user → Passes (usage_missing k (row_of b) (user_of b)) (k ≡ 8 → HasUsage (row_of b) (user_of b))
  unfolding usage_missing
  usages_exactly r u = go (eqb k 8) refl
    where
      go : (z : Bool) → eqb k 8 ≡ z → Passes (z && is_missing (usage_at (row_of b) (user_of b))) (k ≡ 8 → HasUsage (row_of b) (user_of b))
      go true e =
          let eight = eqb-true k 8 e in
          let row = (subst (λ (n : ℕ). (allowed_by n b).row) eight r).1 in
          let user = (subst (λ (n : ℕ). (allowed_by n b).user) eight u).1 in
          let p = refused (has_usage_lem (row_of b) (user_of b)) in
          rw (cell (row_of b) (user_of b) (omega arith) (omega arith)) (λ m z. p.0 m, λ has. p.1 (has eight))
      go false e = (λ m z. absurd (eqb-false k 8 e z), λ has. refl)

  pub counts_exactly : Passes (count_not_allowed k (row_of b) (count_of b)) (allowed_by k b).count
  unfolding count_not_allowed
  counts_exactly = rw (by_table b k h) (by_row (row_of b) (kind_at k).own_count (kind_at k).row_count (count_of b))
