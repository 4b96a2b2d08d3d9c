-- Laws of products in limbs.
--   shift_at_most, dyadic                 a quantity as a significand over a power of two
--   up_to_largest, each_at                what is asked of each quantity of a list
--   Left, product_again, product_done     the loop of `by`: what is left of the chain
--   rounded                               the product divided and rounded up
-- What a product starts with is in Starts.
use mathlib.Core.Path.{◌≡◌, refl, sym, ap, ◌∙◌}
use mathlib.Core.Bool.{Bool, true, false, cond}
use mathlib.Core.List.{List, [], ◌∷◌, map}
use Prim.Native.Nat.{ℕ, zero, suc, ◌+◌, ◌-◌, ◌*◌, ◌^◌, ◌≤◌, ◌<◌}
use native.Mathlib.Nat.{mul-pos, le_of_suc-le-suc, le_antisymm, le_trans, mul-one, mul-le-mul_right}
use native.Mathlib.Omega.{arith}
use native.Mathlib.Numerals.{add-one}
use lib.Dec.{eqb}
use lib.ListN.{length, drop, get_or}
use lib.Pow.{pow-add, pow_pos}
use lib.Seq.{drop-cons, drop-length}
use lib.Ieee.{Float, binary64, to_bits}
use borrow.Author.Tests.{leb-true, le-leb}
use Rattle.binary64.specs.Pattern.{exponent_of}
use Rattle.binary64.specs.Quantity.{whole, whole_at, one, shift_of}
use Rattle.binary64.proofs.Order.{limit_as_pattern}
use Rattle.natural.specs.Ceiling.{ceiling}
use Rattle.product.specs.Ratio.{Ratio, ◌over◌, ◌·◌, exactly, Same, rounded_up}
use Rattle.product.specs.Chain.{quantity, chain}
use Rattle.product.specs.Ranges.{UpTo, Each, largest}
use Rattle.product.proofs.Ratios.{times_assoc, times_one, same_of, same_trans, same_times, same_scaled, rounded_same}
use Rattle.product.proofs.Chains.{quantities_positive}

-- ── a quantity as a significand over a power of two

-- the pattern of the largest limit
abbrev pub most : ℕ
most = 0x412e848000000000

pattern_at_most : (b : ℕ) → whole b ≤ largest * one → b ≤ most
unfolding whole whole_at
pattern_at_most b h = leb-true b most (limit_as_pattern b most largest refl ∙ le-leb (whole b) (largest * one) h)

shift_small : (b : ℕ) → b ≤ most → shift_of b ≤ 1074
shift_small b h = go (eqb b 0)
  where
    go : (z : Bool) → cond z 1074 (exponent_of b - 1) ≤ 1074
    go true = omega arith
    go false = omega arith

split : (s : ℕ) → s ≤ 1074 → 2 ^ 1074 ≡ 2 ^ s * 2 ^ (1074 - s)
split s h =
    let e : 1074 ≡ s + (1074 - s) = omega arith in
    ap (λ (n : ℕ). 2 ^ n) e ∙ pow-add 2 s (1074 - s)

across : (w m P Q O : ℕ) → w ≡ m * P → O ≡ P * Q → w * Q ≡ m * O
across w m P Q O e f =
    let a : w * Q ≡ m * P * Q = ap (λ (n : ℕ). n * Q) e in
    let b : m * O ≡ m * (P * Q) = ap (λ (n : ℕ). m * n) f in
    omega arith

module _ (x : Float) (b s : ℕ) (u : UpTo largest x) (eb : b ≡ to_bits binary64 x) (es : s ≡ shift_of b) where
  low : b ≤ most
  low = pattern_at_most b (rw eb u.most)

  pub shift_at_most : s ≤ 1074
  shift_at_most = rw es (shift_small b low)

  pub dyadic : (m : ℕ) → (b < 2 ^ 63 → whole b ≡ m * 2 ^ s) → Same (exactly x) (m over 2 ^ (1074 - s)) × (1074 - s ≤ 1074)
  dyadic m e =
      let h = low in
      (ap (λ (n : ℕ). whole n * 2 ^ (1074 - s)) (sym eb) ∙ across (whole b) m (2 ^ s) (2 ^ (1074 - s)) one (e (omega arith)) (split s shift_at_most), omega arith)

-- ── the quantities of a list

pub up_to_largest : (x : Float) (m : ℕ) → UpTo m x → m ≤ largest → UpTo largest x
up_to_largest x m u h = record { number = u.number; most = le_trans u.most (mul-le-mul_right {m = m} {n = largest} one h) }

pub each_at : (l : List Float) (i : ℕ) (z : Float) → Each l → i < length l → UpTo largest (get_or l i z)
unfolding Each
each_at [] i z e h = absurd (omega arith)
each_at (x ∷ l) zero z e h = e.0
each_at (x ∷ l) (suc i) z e h = each_at l i z e.1 (le_of_suc-le-suc h)

-- ── the loop of `by`

-- Of the quantities l: the product v times those left from i on is the whole product, which started with u.
abbrev pub Left : List Float → Ratio → Ratio → ℕ → Type 0
Left l u v i = Same (v · chain (map quantity (drop i l))) (u · chain (map quantity l))

-- v / 2 ^ p, which is t times m, with q more in the power of two
deeper : (v p q m : ℕ) (t : Ratio) → v over 2 ^ p ≡ t · m over 1 → v over 2 ^ (p + q) ≡ t · m over 2 ^ q
deeper v p q m t e =
    let l : 2 ^ (p + q) ≡ t.lower * 2 ^ q = pow-add 2 p q ∙ ap (λ (n : ℕ). n * 2 ^ q) (ap (λ (r : Ratio). r.lower) e ∙ mul-one t.lower) in
    λ j. (e j).upper over l j

-- one more of the quantities, as m over 2 ^ q
pub product_again : (l : List Float) (u t : Ratio) (v p q m i : ℕ) (z : Float) → i < length l → 0 < t.lower → Left l u t i → Same (exactly (get_or l i z)) (m over 2 ^ q)
    → v over 2 ^ p ≡ t · m over 1 → Left l u (v over 2 ^ (p + q)) (i + 1)
unfolding chain
product_again l u t v p q m i z h g e f w =
    let r = chain (map quantity (drop (i + 1) l)) in
    let y = exactly (get_or l i z) in
    let d : drop i l ≡ get_or l i z ∷ drop (i + 1) l = rw add-one (drop-cons l i z h) in
    same_trans ((v over 2 ^ (p + q)) · r) (t · (y · r)) (u · chain (map quantity l)) (mul-pos g (mul-pos (pow_pos 1074) (quantities_positive (drop (i + 1) l))))
    (same_of ((λ j. deeper v p q m t w j · r) ∙ sym (times_assoc t (m over 2 ^ q) r)) refl (same_times t t ((m over 2 ^ q) · r) (y · r) refl (same_scaled (m over 2 ^ q) y r (sym f))))
    (rw d at e)

pub product_done : (l : List Float) (u v : Ratio) (i : ℕ) → i ≤ length l → length l ≤ i → Left l u v i → Same v (u · chain (map quantity l))
unfolding chain
product_done l u v i g h e =
    let n : drop i l ≡ [] = ap (λ (k : ℕ). drop k l) (le_antisymm g h) ∙ drop-length l in
    same_of (sym (times_one v)) refl (rw n at e)

-- ── divided by d and rounded up

pub rounded : (l : List Float) (u depth v p d : ℕ) → 0 < d → Same (v over 2 ^ p) ((u over 2 ^ depth) · chain (map quantity l))
    → ceiling v (2 ^ p * d) ≡ rounded_up ((u over 2 ^ depth) · chain (map quantity l) · 1 over d)
rounded l u depth v p d h e =
    ap (λ (n : ℕ). ceiling n (2 ^ p * d)) (sym (mul-one v))
    ∙ rounded_same ((v over 2 ^ p) · 1 over d) ((u over 2 ^ depth) · chain (map quantity l) · 1 over d) (mul-pos (pow_pos p) h) (mul-pos (mul-pos (pow_pos depth) (quantities_positive l)) h)
    (same_scaled (v over 2 ^ p) ((u over 2 ^ depth) · chain (map quantity l)) (1 over d) e)
