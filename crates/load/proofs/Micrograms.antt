-- Loads in plain whole numbers of micrograms, with no premise about the figure: `within_whole` (what is a load is such a number),
-- `InMicrograms`, `in_micrograms` (never below the figure, and at most one part in 4,503,599,627,370,496 above).
use mathlib.Core.Path.{◌≡◌, refl, sym, ap, ◌∙◌}
use mathlib.Core.Bool.{Bool, true, false}
use Prim.Native.Nat.{ℕ, zero, suc, ◌+◌, ◌-◌, ◌*◌, ◌/◌, ◌%◌, ◌^◌, ◌≤◌, ◌<◌}
use native.Mathlib.Nat.{le_of_lt, le_trans, le_of_mul-le-mul_right, mul_assoc, mul-le-mul_right, mul-lt-mul_of_pos_right}
use native.Mathlib.Omega.{arith}
use lib.Dec.{leb}
use lib.Pow.{pow_pos, pow-add, pow_mono}
use borrow.Author.Tests.{leb-true, leb-false}
use Rattle.binary64.specs.Quantity.{whole_at, whole, one}
use Rattle.load.specs.Load.{LoadWithin}
use Rattle.load.proofs.Least.{load_is_least, load_is_unique, load_exact}

-- ── from 2 ^ 53 on every pattern is a whole number

too_small : (t c : ℕ) → 0 < c → t < 2 ^ 52 → 2 ^ 53 * c ≤ t → ⊥
too_small t c p l h = omega arith

too_low : (v y c : ℕ) → v < 2 ^ 53 * y → y ≤ c → 2 ^ 53 * c ≤ v → ⊥
too_low v y c a l h = omega arith

far : (x t : ℕ) → t < 2 ^ 52 → 2 ^ 53 * one ≤ whole_at x t → (m : ℕ) × (whole_at x t ≡ m * one)
unfolding whole_at
far zero t l h = absurd (too_small t one (pow_pos 1074) l h)
far (suc x) t l h = go (leb 1074 x) refl
  where
    go : (s : Bool) → leb 1074 x ≡ s → (m : ℕ) × ((2 ^ 52 + t) * 2 ^ x ≡ m * one)
    go true e =
        let k : x ≡ (x - 1074) + 1074 = omega (arith, leb-true 1074 x e) in
        ((2 ^ 52 + t) * 2 ^ (x - 1074), ap (λ (y : ℕ). (2 ^ 52 + t) * y) (ap (λ (y : ℕ). 2 ^ y) k ∙ pow-add 2 (x - 1074) 1074) ∙ sym (mul_assoc (2 ^ 52 + t) (2 ^ (x - 1074)) one))
    go false e =
        let a : (2 ^ 52 + t) * 2 ^ x < 2 ^ 53 * 2 ^ x = mul-lt-mul_of_pos_right (omega arith) (pow_pos x) in
        let c : 2 ^ x ≤ one = pow_mono (le_of_lt (leb-false 1074 x e)) in
        absurd (too_low ((2 ^ 52 + t) * 2 ^ x) (2 ^ x) one a c h)

by_fields : (b : ℕ) → 2 ^ 53 * one ≤ whole b → (m : ℕ) × (whole b ≡ m * one)
unfolding whole
by_fields b h = far (b / 2 ^ 52) (b % 2 ^ 52) (omega arith) h

-- ── and up to there a figure is its own load

pub within_whole : (n b : ℕ) → LoadWithin n b → (m : ℕ) × (whole b ≡ m * one)
within_whole n b w = go (leb (2 ^ 53) n) refl
  where
    go : (s : Bool) → leb (2 ^ 53) n ≡ s → (m : ℕ) × (whole b ≡ m * one)
    go true e = by_fields b (le_trans (mul-le-mul_right one (leb-true (2 ^ 53) n e)) w.is_load.not_below)
    go false e =
        let l = leb-false (2 ^ 53) n e in
        (n, ap whole (load_is_unique w.is_load (load_is_least n (omega arith))) ∙ load_exact n (le_of_lt l))

-- ── how far above

-- over any denominator c
over : (n m c k : ℕ) → 0 < c → n ≤ m → (m * c - n * c) * k ≤ n * c → (m - n) * k ≤ n
over n m c k p l h =
    let d = m - n in
    let e : m * c ≡ (n + d) * c = ap (λ (x : ℕ). x * c) (omega arith) in
    let f : m * c - n * c ≡ d * c = omega arith in
    let g : d * c * k ≤ n * c = rw f at h in
    le_of_mul-le-mul_right {m = d * k} {n = n} (omega arith) p

-- the pattern b is that of m micrograms: at least n, and at most one part in 2 ^ 52 more
abbrev pub InMicrograms : ℕ → ℕ → Type 0
InMicrograms n b = (m : ℕ) × (whole b ≡ m * 2 ^ 1074) × (n ≤ m) × ((m - n) * 4503599627370496 ≤ n)

pub in_micrograms : (n b : ℕ) → LoadWithin n b → InMicrograms n b
in_micrograms n b w =
    let v = within_whole n b w in
    let m = v.0 in
    let e : whole b ≡ m * one = v.1 in
    let l : n * one ≤ m * one = rw e at w.is_load.not_below in
    let p : n ≤ m = le_of_mul-le-mul_right l (pow_pos 1074) in
    (m, e, p, over n m one (2 ^ 52) (pow_pos 1074) p (rw e at w.adds))
