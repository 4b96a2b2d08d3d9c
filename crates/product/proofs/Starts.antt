-- Laws of what a product starts with, and the constant in it.
--   ended, same_ended, start_constant, start_shared, start_times   a constant, and any start times a constant, divided and rounded up
--   complement_fits, start_remainder, start_sum        the two wide starts
use mathlib.Core.Path.{◌≡◌, refl, sym, ap, ◌∙◌}
use mathlib.Core.List.{List, [], ◌∷◌, ◌++◌, map}
use Prim.Native.Nat.{ℕ, ◌+◌, ◌-◌, ◌*◌, ◌^◌, ◌≤◌, ◌<◌, min}
use native.Mathlib.Nat.{mul-pos, mul-le-mul_right, le_of_mul-le-mul_right}
use native.Mathlib.Omega.{arith}
use lib.Pow.{pow-add, pow_pos}
use lib.Ieee.{Float, binary64, to_bits}
use Rattle.binary64.specs.Quantity.{whole, one}
use Rattle.product.specs.Ratio.{Ratio, ◌over◌, ◌·◌, ◌⊕◌, one_less, exactly, Same, rounded_up, rounded_u64}
use Rattle.product.specs.Chain.{quantity, chain}
use Rattle.product.specs.Ranges.{UpTo}
use Rattle.product.proofs.Ratios.{times_assoc, same_of, same_trans, same_scaled, same_plus, rounded_same}
use Rattle.product.proofs.Chains.{chain_append, quantities_positive}

-- ── the constant k, divided by d

-- the same value over d
pub same_ended : (p q : Ratio) (d : ℕ) → 0 < d → 0 < p.lower → 0 < q.lower → Same p q → rounded_u64 (p · 1 over d) ≡ rounded_u64 (q · 1 over d)
same_ended p q d h hp hq e =
    ap (λ (n : ℕ). min 18446744073709551615 n) (rounded_same (p · 1 over d) (q · 1 over d) (mul-pos hp h) (mul-pos hq h) (same_scaled p q (1 over d) e))

constant_across : (k d x y : ℕ) → k * x * 1 * (d * y) ≡ k * x * (1 * y * d)
constant_across k d x y = omega arith

-- the constant first, as s
pub start_constant : (s c : Ratio) (k d : ℕ) → 0 < d → 0 < c.lower → s ≡ k over 1 → rounded_u64 (s · c · 1 over d) ≡ rounded_u64 (k over d · c)
start_constant s c k d h hc e =
    ap (λ (n : ℕ). min 18446744073709551615 n)
    (ap (λ (r : Ratio). rounded_up (r · c · 1 over d)) e
    ∙ rounded_same (k over 1 · c · 1 over d) (k over d · c) (mul-pos (mul-pos (omega arith) hc) h) (mul-pos h hc) (constant_across k d c.upper c.lower))

-- the same, of a product p that branches off by x
pub start_shared : (p s : Ratio) (xs : List Float) (x : Float) (k d : ℕ) → 0 < d → 0 < p.lower → s ≡ k over 1 → Same p (s · chain (map quantity xs))
    → rounded_u64 (p · chain (quantity x ∷ []) · 1 over d) ≡ rounded_u64 (k over d · chain (map quantity xs ++ quantity x ∷ []))
start_shared p s xs x k d h hp es e =
    let c = chain (map quantity xs) in
    let b = chain (quantity x ∷ []) in
    let g = quantities_positive (x ∷ []) in
    let hs : 0 < s.lower = rw es (omega arith) in
    let hc : 0 < (c · b).lower = mul-pos (quantities_positive xs) g in
    same_ended (p · b) (s · (c · b)) d h (mul-pos hp g) (mul-pos hs hc) (same_of refl (times_assoc s c b) (same_scaled p (s · c) b e))
    ∙ start_constant s (c · b) k d h hc es
    ∙ ap (λ (r : Ratio). rounded_u64 (k over d · r)) (chain_append (map quantity xs) (quantity x ∷ []))

times_across : (a b x y u v k d : ℕ) → a * y ≡ x * b → a * k * u * 1 * (d * (y * v)) ≡ k * (x * u) * (b * 1 * v * d)
times_across a b x y u v k d e =
    let f : a * y * (k * u * v * d) ≡ x * b * (k * u * v * d) = ap (λ (n : ℕ). n * (k * u * v * d)) e in
    omega arith

-- what has the value q first, as s, then the constant
pub start_times : (t s q c : Ratio) (k d : ℕ) → 0 < d → 0 < t.lower → 0 < q.lower → 0 < c.lower → Same s q → t ≡ s · k over 1
    → rounded_u64 (t · c · 1 over d) ≡ rounded_u64 (k over d · (q · c))
start_times t s q c k d h ht hq hc es et =
    ap (λ (n : ℕ). min 18446744073709551615 n)
    (rounded_same (t · c · 1 over d) (k over d · (q · c)) (mul-pos (mul-pos ht hc) h) (mul-pos h (mul-pos hq hc))
    (same_of (λ j. et j · c · 1 over d) refl (times_across s.upper s.lower q.upper q.lower c.upper c.lower k d es)))

-- ── the wide starts

-- 1 less a quantity m / 2 ^ t
at_most_one : (w T m P : ℕ) → 0 < T → w ≤ 1 * T → w * P ≡ m * T → m ≤ P
at_most_one w T m P p h e =
    let a : w * P ≤ 1 * T * P = mul-le-mul_right {m = w} {n = 1 * T} P h in
    let b : m * T ≤ P * T = omega arith in
    le_of_mul-le-mul_right b p

pub complement_fits : (x : Float) (m t : ℕ) → UpTo 1 x → Same (exactly x) (m over 2 ^ t) → m ≤ 2 ^ t
complement_fits x m t u e = at_most_one (whole (to_bits binary64 x)) one m (2 ^ t) (pow_pos 1074) u.most e

less_across : (w T m P n : ℕ) → w ≤ 1 * T → w * P ≡ m * T → n + m ≡ P → n * T ≡ (T - w) * P
less_across w T m P n h e f =
    let a : T - w + w ≡ T = omega arith in
    let b : (T - w + w) * P ≡ T * P = ap (λ (x : ℕ). x * P) a in
    let c : (n + m) * T ≡ P * T = ap (λ (x : ℕ). x * T) f in
    omega arith

pub start_remainder : (x : Float) (m n t : ℕ) → UpTo 1 x → Same (exactly x) (m over 2 ^ t) → n + m ≡ 2 ^ t → Same (n over 2 ^ t) (one_less (exactly x))
start_remainder x m n t u e f = less_across (whole (to_bits binary64 x)) one m (2 ^ t) n u.most e f

-- m / 2 ^ p and n / 2 ^ q, both over 2 ^ t
lifted : (m p t : ℕ) → p ≤ t → Same ((m * 2 ^ (t - p)) over 2 ^ t) (m over 2 ^ p)
lifted m p t h =
    let s : t ≡ p + (t - p) = omega arith in
    let e : m * 2 ^ t ≡ m * (2 ^ p * 2 ^ (t - p)) = ap (λ (n : ℕ). m * 2 ^ n) s ∙ ap (λ (n : ℕ). m * n) (pow-add 2 p (t - p)) in
    omega arith

common : (x y D : ℕ) → Same ((x + y) over D) (x over D ⊕ y over D)
common x y D = omega arith

pub start_sum : (a b : Float) (m p n q t v : ℕ) → p ≤ t → q ≤ t → Same (exactly a) (m over 2 ^ p) → Same (exactly b) (n over 2 ^ q)
    → v ≡ m * 2 ^ (t - p) + n * 2 ^ (t - q) → Same (v over 2 ^ t) (exactly a ⊕ exactly b)
start_sum a b m p n q t v hp hq ea eb ev =
    let x : ℕ = m * 2 ^ (t - p) in
    let y : ℕ = n * 2 ^ (t - q) in
    let P = pow_pos t in
    same_of (λ j. ev j over 2 ^ t) refl
    (same_trans ((x + y) over 2 ^ t) (x over 2 ^ t ⊕ y over 2 ^ t) (exactly a ⊕ exactly b) (mul-pos P P) (common x y (2 ^ t))
    (same_plus (x over 2 ^ t) (exactly a) (y over 2 ^ t) (exactly b)
    (same_trans (x over 2 ^ t) (m over 2 ^ p) (exactly a) (pow_pos p) (lifted m p t hp) (sym ea))
    (same_trans (y over 2 ^ t) (n over 2 ^ q) (exactly b) (pow_pos q) (lifted n q t hq) (sym eb))))
