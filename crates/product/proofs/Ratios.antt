-- Laws of ratios; a lower number is not 0 where a law says so.
--   times_assoc, times_swap, times_comm, times_one, plus_zero   equal number by number
--   same_of, same_trans                              `Same` is kept by equality, and is transitive
--   same_times, same_scaled, same_plus               and kept by products and sums
--   distributes, distributes_left                    a product of a sum is a sum of products
--   rounded_same, rounded_nothing                    the same value is rounded up to the same number; 0 to 0
--   AtMost, one_less_at_most, at_most_times, at_most_plus   a value is at most a whole number
--   scaled_fits                                      k over d of a value, rounded up, is at most M
-- Chains of factors are in Chains.
use mathlib.Core.Path.{◌≡◌, refl, sym, ap, ◌∙◌}
use Prim.Native.Nat.{ℕ, ◌+◌, ◌*◌, ◌≤◌, ◌<◌}
use native.Mathlib.Nat.{mul-one, mul_assoc, mul_comm, mul_left_comm, mul-pos, eq_of_mul-eq-mul_right, mul-le-mul, mul-le-mul_right}
use native.Mathlib.Omega.{arith}
use Rattle.natural.proofs.Ceiling.{ceiling_same, ceiling_zero, ceiling_at_most}
use Rattle.product.specs.Ratio.{Ratio, ◌over◌, ◌·◌, ◌⊕◌, one_less, Same, rounded_up}

-- ── equal number by number

pub times_assoc : (p q r : Ratio) → p · (q · r) ≡ p · q · r
times_assoc p q r = λ j. sym (mul_assoc p.upper q.upper r.upper) j over sym (mul_assoc p.lower q.lower r.lower) j

pub times_swap : (p q r : Ratio) → p · (q · r) ≡ q · (p · r)
times_swap p q r = λ j. mul_left_comm p.upper q.upper r.upper j over mul_left_comm p.lower q.lower r.lower j

pub times_comm : (p q : Ratio) → p · q ≡ q · p
times_comm p q = λ j. mul_comm p.upper q.upper j over mul_comm p.lower q.lower j

pub times_one : (p : Ratio) → p · 1 over 1 ≡ p
times_one p = λ j. mul-one p.upper j over mul-one p.lower j

pub plus_zero : (p : Ratio) → p ⊕ 0 over 1 ≡ p
plus_zero p = λ j. upper p.upper p.lower j over mul-one p.lower j
  where
    upper : (a b : ℕ) → a * 1 + 0 * b ≡ a
    upper a b = omega arith

-- ── the same value

-- of equal ratios
pub same_of : {p p' q q' : Ratio} → p ≡ p' → q ≡ q' → Same p' q' → Same p q
same_of e f h = (λ j. (e j).upper * (f j).lower) ∙ h ∙ sym (λ j. (f j).upper * (e j).lower)

trans_across : (a b c d e f : ℕ) → a * d ≡ c * b → c * f ≡ e * d → a * f * d ≡ e * b * d
trans_across a b c d e f p q =
    let r : a * d * f ≡ c * b * f = ap (λ (n : ℕ). n * f) p in
    let s : c * f * b ≡ e * d * b = ap (λ (n : ℕ). n * b) q in
    omega arith

pub same_trans : (p q r : Ratio) → 0 < q.lower → Same p q → Same q r → Same p r
same_trans p q r h e f =
    eq_of_mul-eq-mul_right q.lower h (p.upper * r.lower) (r.upper * p.lower)
    (trans_across p.upper p.lower q.upper q.lower r.upper r.lower e f)

times_across : (a b c d a' b' c' d' : ℕ) → a * b' ≡ a' * b → c * d' ≡ c' * d → a * c * (b' * d') ≡ a' * c' * (b * d)
times_across a b c d a' b' c' d' p q =
    let r : a * b' * (c * d') ≡ a' * b * (c * d') = ap (λ (n : ℕ). n * (c * d')) p in
    let s : a' * b * (c * d') ≡ a' * b * (c' * d) = ap (λ (n : ℕ). a' * b * n) q in
    omega arith

pub same_times : (p p' q q' : Ratio) → Same p p' → Same q q' → Same (p · q) (p' · q')
same_times p p' q q' e f = times_across p.upper p.lower q.upper q.lower p'.upper p'.lower q'.upper q'.lower e f

plus_across : (a b c d a' b' c' d' : ℕ) → a * b' ≡ a' * b → c * d' ≡ c' * d → (a * d + c * b) * (b' * d') ≡ (a' * d' + c' * b') * (b * d)
plus_across a b c d a' b' c' d' p q =
    let r : a * b' * (d * d') ≡ a' * b * (d * d') = ap (λ (n : ℕ). n * (d * d')) p in
    let s : c * d' * (b * b') ≡ c' * d * (b * b') = ap (λ (n : ℕ). n * (b * b')) q in
    omega arith

pub same_plus : (p p' q q' : Ratio) → Same p p' → Same q q' → Same (p ⊕ q) (p' ⊕ q')
same_plus p p' q q' e f = plus_across p.upper p.lower q.upper q.lower p'.upper p'.lower q'.upper q'.lower e f

-- a product with one factor in common
pub same_scaled : (p q r : Ratio) → Same p q → Same (p · r) (q · r)
same_scaled p q r e = same_times p q r r e refl

split : (X Y u v : ℕ) → (X + Y) * u * v ≡ X * (u * v) + Y * (u * v)
split X Y u v = omega arith

join : (a b c d u v : ℕ) → a * d * (u * (b * v * (d * v))) + c * b * (u * (b * v * (d * v))) ≡ (a * u * (d * v) + c * u * (b * v)) * (b * d * v)
join a b c d u v = omega arith

pub distributes : (p q r : Ratio) → Same ((p ⊕ q) · r) (p · r ⊕ q · r)
distributes p q r =
    let e = split (p.upper * q.lower) (q.upper * p.lower) r.upper (p.lower * r.lower * (q.lower * r.lower)) in
    let f = join p.upper p.lower q.upper q.lower r.upper r.lower in
    omega arith

-- from the left
pub distributes_left : (p q r : Ratio) → Same (r · (p ⊕ q)) (r · p ⊕ r · q)
distributes_left p q r = same_of (times_comm r (p ⊕ q)) (λ j. times_comm r p j ⊕ times_comm r q j) (distributes p q r)

pub rounded_same : (p q : Ratio) → 0 < p.lower → 0 < q.lower → Same p q → rounded_up p ≡ rounded_up q
rounded_same p q h g e = ceiling_same p.upper p.lower q.upper q.lower h g e

pub rounded_nothing : (d : ℕ) → 0 < d → rounded_up (0 over d) ≡ 0
rounded_nothing d h = (ceiling_zero 0 d h).1 refl

-- ── at most a whole number

abbrev pub AtMost : Ratio → ℕ → Type 0
AtMost p m = p.upper ≤ m * p.lower

pub one_less_at_most : (p : Ratio) → AtMost (one_less p) 1
one_less_at_most p = omega arith

regroup : (m b n d : ℕ) → m * b * (n * d) ≡ m * n * (b * d)
regroup m b n d = omega arith

pub at_most_times : (p q : Ratio) (m n : ℕ) → AtMost p m → AtMost q n → AtMost (p · q) (m * n)
at_most_times p q m n e f =
    let r : p.upper * q.upper ≤ m * p.lower * (n * q.lower) = mul-le-mul {n₁ = p.upper} {m₁ = q.upper} {n₂ = m * p.lower} {m₂ = n * q.lower} e f in
    omega (arith, regroup m p.lower n q.lower)

plus_most : (a b c d m n : ℕ) → a ≤ m * b → c ≤ n * d → a * d + c * b ≤ (m + n) * (b * d)
plus_most a b c d m n e f =
    let r : a * d ≤ m * b * d = mul-le-mul_right {m = a} {n = m * b} d e in
    let s : c * b ≤ n * d * b = mul-le-mul_right {m = c} {n = n * d} b f in
    omega arith

pub at_most_plus : (p q : Ratio) (m n : ℕ) → AtMost p m → AtMost q n → AtMost (p ⊕ q) (m + n)
at_most_plus p q m n e f = plus_most p.upper p.lower q.upper q.lower m n e f

scaled_most : (k d a b m M : ℕ) → a ≤ m * b → k * m ≤ M * d → k * a ≤ M * (d * b)
scaled_most k d a b m M e f =
    let r : a * k ≤ m * b * k = mul-le-mul_right {m = a} {n = m * b} k e in
    let s : k * m * b ≤ M * d * b = mul-le-mul_right {m = k * m} {n = M * d} b f in
    omega arith

pub scaled_fits : (k d m M : ℕ) (q : Ratio) → 0 < d → 0 < q.lower → AtMost q m → k * m ≤ M * d → rounded_up ((k over d) · q) ≤ M
scaled_fits k d m M q h g e f =
    ceiling_at_most (k * q.upper) (d * q.lower) M (mul-pos h g) (scaled_most k d q.upper q.lower m M e f)
