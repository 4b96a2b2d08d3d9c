-- `load_is_smallest`: of every binary64, by the library of IEEE 754, whichever is at least the figure is at least the load, which is one of them.
-- `load_value`: the library gives the load's pattern the exact value that `IsLoad` speaks of. `load_back`: its double has its pattern.
-- `load_within`: all that the contracts say of a load; `bytes_within`: so of its bytes.
-- What it is to be the smallest, in exact values: `smallest_of_values`, `smallest_is_load`.
use mathlib.Core.Path.{◌≡◌, refl, sym, ap, ◌∙◌, subst}
use mathlib.Core.Bool.{Bool, true, false, cond}
use mathlib.Core.List.{List}
use mathlib.Core.Logic.{⊎_elim}
use Prim.Native.Nat.{ℕ, zero, suc, ◌+◌, ◌*◌, ◌/◌, ◌%◌, ◌^◌, ◌≤◌, ◌<◌}
use native.Mathlib.Nat.{eq-or-lt_of_le, lt_of_not-le, lt_of_lt_of_le, not-le_of_lt, le_of_mul-le-mul_right, mul-pos, mul-le-mul_right, mod-eq_of_lt}
use native.Mathlib.Omega.{arith}
use lib.Dec.{T, leb, eqb, lt→ltb}
use lib.IntN.{ℤ, pos}
use lib.Pow.{pow_pos}
use lib.Ieee.{Float, nan, inf, fin, binary64, of_fields, of_bits, to_bits, odd, le}
use lib.Ieee.Exact.{HasValue}
use lib.Ieee.Order.{le_of_values}
use lib.Ieee.Positive.{positive, above, above_of_le, positive_of_value, values_of_le}
use borrow.Author.Tests.{leb-false, lt-leb}
use Rattle.octets.specs.Bytes.{number_of}
use Rattle.binary64.specs.Quantity.{whole, one}
use Rattle.binary64.proofs.Exact.{exact_value, pattern_back}
use Rattle.binary64.proofs.Order.{whole_increasing, whole_monotone}
use Rattle.load.specs.Load.{IsLoad, IsSmallest, LoadWithin, exactly, load_pattern, load_bytes}
use Rattle.load.proofs.Least.{load_is_least, load_adds, load_finite, load_read}

pub load_value : (n : ℕ) → n < 2 ^ 64 → HasValue (of_bits binary64 (load_pattern n)) false (whole (load_pattern n)) one
load_value n h = exact_value (load_pattern n) (omega (arith, load_finite n h))

pub load_back : (n : ℕ) → n < 2 ^ 64 → to_bits binary64 (of_bits binary64 (load_pattern n)) ≡ load_pattern n
load_back n h = pattern_back (load_pattern n) (omega (arith, load_finite n h))

-- ── what is at least a whole number above 0

counts : (n : ℕ) → T (positive (exactly (suc n)))
counts n = lt→ltb 0 (suc n) (omega arith)

positive_here : (x : Float) (a c : ℕ) → HasValue x false a c → T (above x) → T (positive x)
positive_here nan a c v t = absurd t
positive_here (inf s) a c v t = absurd v
positive_here (fin true m e) a c v t = absurd t
positive_here (fin false m e) a c v t = t

-- an unsigned number of a known value
value_at_least : (n : ℕ) (x : Float) (a c : ℕ) → HasValue x false a c → T (le (exactly (suc n)) x) → suc n * c ≤ a
value_at_least n x a c v t =
    let l = values_of_le (exactly (suc n)) x (suc n) 1 a c (counts n) (positive_here x a c v (above_of_le (exactly (suc n)) x (counts n) t)) (refl, omega arith) v t in
    omega arith

number_at_most : (n : ℕ) (x : Float) (a c : ℕ) → 0 < c → HasValue x false a c → n * c ≤ a → T (le (exactly n) x)
number_at_most n x a c p v l = le_of_values (exactly n) x n 1 a c (omega arith) p (refl, omega arith) v (omega arith)

-- nothing with a sign bit is at least a number above 0
signed : (n m : ℕ) (e : ℤ) → T (le (exactly (suc n)) (fin true m e)) → ⊥
signed n m e t = above_of_le (exactly (suc n)) (fin true m e) (counts n) t

signed_odd : (n d q k l : ℕ) → T (le (exactly (suc n)) (odd d true q k l)) → ⊥
unfolding odd
signed_odd n d zero k l t = signed n zero (pos zero) t
signed_odd n d (suc q) k l t = signed n _ _ t

signed_fields : (n x t : ℕ) → T (le (exactly (suc n)) (of_fields binary64 true x t)) → ⊥
unfolding of_fields le
signed_fields n zero t h = signed_odd n 53 t 0 1074 h
signed_fields n (suc x) t h = go (eqb (suc x) 2047) (eqb t 0) h
  where
    go : (p q : Bool) → T (le (exactly (suc n)) (cond p (cond q (inf true) nan) (odd 53 true (2 ^ 52 + t) x 1074))) → ⊥
    go true true h = h
    go true false h = h
    go false q h = signed_odd n 53 (2 ^ 52 + t) x 1074 h

-- ── infinity

below_infinity : (x : Float) (a c : ℕ) → HasValue x false a c → T (le x (inf false))
unfolding le
below_infinity nan a c v = absurd v
below_infinity (inf s) a c v = absurd v
below_infinity (fin true m e) a c v = let q = v.0 in let z : ◌≡◌ {A = ℕ} 0 1 = cc in absurd (omega arith)
below_infinity (fin false m e) a c v = tt

-- a field of 2047 is infinity, or no number
last_field : (n t : ℕ) (x : Float) (a c : ℕ) → HasValue x false a c → T (le (exactly n) (of_fields binary64 false 2047 t)) → T (le x (of_fields binary64 false 2047 t))
unfolding of_fields le
last_field n t x a c v h = go (eqb t 0) h
  where
    go : (q : Bool) → T (le (exactly n) (cond q (inf false) nan)) → T (le x (cond q (inf false) nan))
    go true h = below_infinity x a c v
    go false h = absurd h

-- ── every pattern

module _ (n : ℕ) (h : suc n < 2 ^ 64) where
  abbrev b : ℕ
  b = load_pattern (suc n)

  among_finite : (c : ℕ) → c < 2047 * 2 ^ 52 → T (le (exactly (suc n)) (of_bits binary64 c)) → T (le (of_bits binary64 b) (of_bits binary64 c))
  among_finite c l t =
      let v = value_at_least n (of_bits binary64 c) (whole c) one (exact_value c l) t in
      let f : b < suc c = lt_of_not-le (λ (g : suc c ≤ b). not-le_of_lt ((load_is_least (suc n) h).least c g) v) in
      let w : whole b ≤ whole c = whole_monotone b c (omega arith) in
      le_of_values (of_bits binary64 b) (of_bits binary64 c) (whole b) one (whole c) one (pow_pos 1074) (pow_pos 1074) (load_value (suc n) h) (exact_value c l) (mul-le-mul_right one w)

  -- a pattern by its fields, unsigned
  by_fields : (c : ℕ) → c < 2 ^ 63 → of_bits binary64 c ≡ of_fields binary64 false (c / 2 ^ 52) (c % 2 ^ 52)
  unfolding of_bits
  by_fields c l = rw (lt-leb (2 ^ 63) c l, mod-eq_of_lt l)

  among_unsigned : (c : ℕ) → c < 2 ^ 63 → T (le (exactly (suc n)) (of_bits binary64 c)) → T (le (of_bits binary64 b) (of_bits binary64 c))
  among_unsigned c l t = ⊎_elim last (λ (g : c / 2 ^ 52 < 2047). among_finite c (omega arith) t) (eq-or-lt_of_le (omega arith))
    where
      last : c / 2 ^ 52 ≡ 2047 → T (le (of_bits binary64 b) (of_bits binary64 c))
      last e =
          let f : of_bits binary64 c ≡ of_fields binary64 false 2047 (c % 2 ^ 52) = by_fields c l ∙ ap (λ (x : ℕ). of_fields binary64 false x (c % 2 ^ 52)) e in
          subst (λ (x : Float). T (le (of_bits binary64 b) x)) (sym f) (last_field (suc n) (c % 2 ^ 52) (of_bits binary64 b) (whole b) one (load_value (suc n) h) (subst (λ (x : Float). T (le (exactly (suc n)) x)) f t))

  among_all : (c : ℕ) → T (le (exactly (suc n)) (of_bits binary64 c)) → T (le (of_bits binary64 b) (of_bits binary64 c))
  unfolding of_bits
  among_all c t = go (leb (2 ^ 63) c) refl
    where
      go : (s : Bool) → leb (2 ^ 63) c ≡ s → T (le (of_bits binary64 b) (of_bits binary64 c))
      go true e = absurd (signed_fields n (c % 2 ^ 63 / 2 ^ 52) (c % 2 ^ 52) (subst (λ (s : Bool). T (le (exactly (suc n)) (of_fields binary64 s (c % 2 ^ 63 / 2 ^ 52) (c % 2 ^ 52)))) e t))
      go false e = among_unsigned c (leb-false (2 ^ 63) c e) t

-- the load of 0 is the number 0 itself
pub load_is_smallest : (n : ℕ) → n < 2 ^ 64 → IsSmallest n (load_pattern n)
unfolding load_pattern of_bits of_fields odd le
load_is_smallest zero h = record { at_least = tt; smallest = λ c t. t }
load_is_smallest (suc n) h = record {
  at_least = number_at_most (suc n) (of_bits binary64 (load_pattern (suc n))) (whole (load_pattern (suc n))) one (pow_pos 1074) (load_value (suc n) h) (load_is_least (suc n) h).not_below;
  smallest = among_all n h;
}

pub load_within : (n : ℕ) → n < 2 ^ 64 → LoadWithin n (load_pattern n)
load_within n h = record { is_load = load_is_least n h; is_smallest = load_is_smallest n h; adds = load_adds n h }

pub bytes_within : (n : ℕ) {l : List ℕ} → n < 2 ^ 64 → l ≡ load_bytes n → LoadWithin n (number_of l)
bytes_within n {l} h e = subst (LoadWithin n) (sym (ap number_of e ∙ load_read n h)) (load_within n h)

-- what it is to be the smallest, in exact values: of every number that is not below the figure
pub smallest_of_values : (n b c : ℕ) → b < 2047 * 2 ^ 52 → c < 2047 * 2 ^ 52 → IsSmallest (suc n) b → suc n * one ≤ whole c → whole b ≤ whole c
smallest_of_values n b c p q s l =
    let t = s.smallest c (number_at_most (suc n) (of_bits binary64 c) (whole c) one (pow_pos 1074) (exact_value c q) l) in
    let a : suc n * one ≤ whole b = value_at_least n (of_bits binary64 b) (whole b) one (exact_value b p) s.at_least in
    let z : 0 < suc n * one = mul-pos (omega arith) (pow_pos 1074) in
    let f = positive_of_value (of_bits binary64 b) (whole b) one (exact_value b p) (lt_of_lt_of_le z a) in
    let g = positive_of_value (of_bits binary64 c) (whole c) one (exact_value c q) (lt_of_lt_of_le z l) in
    le_of_mul-le-mul_right (values_of_le (of_bits binary64 b) (of_bits binary64 c) (whole b) one (whole c) one f g (exact_value b p) (exact_value c q) t) (pow_pos 1074)

-- so the smallest of every binary64 is the load by values too
pub smallest_is_load : (n b : ℕ) → b < 2047 * 2 ^ 52 → IsSmallest (suc n) b → IsLoad (suc n) b
smallest_is_load n b p s = record {
  not_below = value_at_least n (of_bits binary64 b) (whole b) one (exact_value b p) s.at_least;
  least = λ c l. lt_of_not-le (λ (g : suc n * one ≤ whole c). not-le_of_lt (whole_increasing c b l) (smallest_of_values n b c p (omega arith) s g));
}
