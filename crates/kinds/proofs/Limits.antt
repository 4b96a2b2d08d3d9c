-- Laws of limits held as patterns: `limits_right` (the rule of the whole table of kinds, from one test that computes),
-- `not_zero_by_limit`, `over_by_limit` (refusals 9 and 10 of a quantity, judged on patterns).
-- That patterns are in the order of their values is in crate binary64, `Order`.
use mathlib.Core.Path.{◌≡◌, refl, ap}
use mathlib.Core.Bool.{Bool, true, false, not, ◌&&◌, cond}
use mathlib.Core.List.{◌∷◌}
use Prim.Native.Nat.{ℕ, ◌*◌}
use lib.Dec.{leb, eqb}
use lib.Ieee.{of_int, to_bits}
use lib.ListN.{get_or-map}
use native.Mathlib.Omega.{arith}
use borrow.Author.Tests.{eqb-true, not-true}
use Rattle.binary64.specs.Quantity.{whole, one}
use Rattle.binary64.proofs.Order.{limit_as_pattern}
use Rattle.kinds.specs.Case.{exact_of, Listing, unlisted, Kind, kinds, no_kind, kind_at, listing_at, listed, limit, not_zero_bytes, over_limit}
use Rattle.kinds.specs.Patterns.{at, IsLimit, limit_pattern, limit_patterns}
use Rattle.octets.proofs.Bools.{both, every, every_at}

-- ── the rule of a limit, as a test

is_limit : Bool → Listing → ℕ → Bool
is_limit own l m = cond (listed own l) (eqb (whole m) (limit l * one) && not (eqb m 0)) (eqb m 0)

limit_by_test : (own : Bool) (l : Listing) (m : ℕ) → is_limit own l m ≡ true → IsLimit own l m
unfolding is_limit
limit_by_test own l m = go (listed own l) refl
  where
    go : (t : Bool) → listed own l ≡ t → cond t (eqb (whole m) (limit l * one) && not (eqb m 0)) (eqb m 0) ≡ true → IsLimit own l m
    go true e h =
        let p = both (eqb (whole m) (limit l * one)) (not (eqb m 0)) h in
        record { none = rw e (not-true (eqb m 0) p.1); most = λ q. eqb-true (whole m) (limit l * one) p.0 }
    go false e h = record { none = rw e h; most = λ q. let z : ◌≡◌ {A = ℕ} 0 1 = cc in absurd (omega arith) }

-- ── of the whole table

right : Bool → Listing → Bool
unfolding is_limit
right own l = is_limit own l (limit_pattern own l)

table_right : (k : ℕ) → every (λ (l : Listing). right true l && right false l) (kind_at k).quantities ≡ true
unfolding every right is_limit kind_at kinds limit_pattern whole of_int to_bits
table_right = every_at (λ (x : Kind). every (λ (l : Listing). right true l && right false l) x.quantities) (no_kind ∷ kinds) no_kind refl refl

pub limits_right : (own : Bool) (k i : ℕ) → IsLimit own (listing_at k i) (at (limit_patterns own (kind_at k).quantities) i)
unfolding right limit_pattern
limits_right own k i =
    let l = listing_at k i in
    let t = both (right true l) (right false l) (every_at (λ (l : Listing). right true l && right false l) (kind_at k).quantities unlisted (table_right k) refl i) in
    rw (get_or-map (limit_pattern own) (kind_at k).quantities i unlisted) (limit_by_test own l (limit_pattern own l) (go own t.0 t.1))
  where
    go : (own : Bool) → right true (listing_at k i) ≡ true → right false (listing_at k i) ≡ true → right own (listing_at k i) ≡ true
    go true t f = t
    go false t f = f

-- ── refusals 9 and 10 of a quantity with pattern p and limit m

pub not_zero_by_limit : (own : Bool) (l : Listing) (m p : ℕ) → IsLimit own l m → (eqb m 0 && not (eqb p 0)) ≡ not_zero_bytes own l p
unfolding not_zero_bytes
not_zero_by_limit own l m p h = rw h.none

pub over_by_limit : (own : Bool) (l : Listing) (m p : ℕ) → IsLimit own l m → (not (eqb m 0) && not (leb p m)) ≡ over_limit own l p
unfolding over_limit
over_by_limit own l m p h = rw h.none (go (listed own l) h.most)
  where
    go : (t : Bool) → (t ≡ true → whole m ≡ limit l * one) → (not (not t) && not (leb p m)) ≡ (t && not (leb (exact_of p) (limit l * one)))
    go true e = ap not (limit_as_pattern p m (limit l) (e refl))
    go false e = refl
