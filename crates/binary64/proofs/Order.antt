-- Laws of order: patterns are in the order of their exact values.
-- `whole_increasing`, `whole_monotone`, `order_of_patterns`, `limit_as_pattern`.
-- That a pattern has the exact value is in `Exact`.
use mathlib.Core.Path.{◌≡◌, refl, sym, ap, ◌∙◌}
use Prim.Native.Nat.{ℕ, zero, suc, ◌+◌, ◌*◌, ◌/◌, ◌^◌, ◌≤◌, ◌<◌}
use mathlib.Core.Bool.{Bool, true, false}
use mathlib.Core.Logic.{⊎_elim}
use native.Mathlib.Nat.{eq-or-lt_of_le, le_refl, le_of_lt, mul-one, mul-le-mul_left, mul-le-mul_right, mul-lt-mul_of_pos_right}
use native.Mathlib.Omega.{arith}
use lib.Dec.{leb}
use lib.Pow.{pow_pos, pow_mono}
use borrow.Author.Tests.{lt-leb, le-leb, leb-true, leb-false}
use Rattle.binary64.specs.Pattern.{fraction_of}
use Rattle.binary64.specs.Quantity.{whole_at, whole, one}

no_less : (n k : ℕ) → n ≤ n * 2 ^ k
no_less n k = rw mul-one at (mul-le-mul_left n (pow_pos k))

increasing : (x t y u : ℕ) → t < 2 ^ 52 → u < 2 ^ 52 → x * 2 ^ 52 + t < y * 2 ^ 52 + u → whole_at x t < whole_at y u
unfolding whole_at
increasing zero t zero u a b h = omega arith
increasing zero t (suc y) u a b h = let g = no_less (2 ^ 52 + u) y in omega arith
increasing (suc x) t zero u a b h = absurd (omega arith)
increasing (suc x) t (suc y) u a b h =
    ⊎_elim
    (λ (e : x ≡ y). rw e (mul-lt-mul_of_pos_right (omega arith) (pow_pos y)))
    (λ (l : x < y).
    let f : (2 ^ 52 + t) * 2 ^ x < 2 ^ 53 * 2 ^ x = mul-lt-mul_of_pos_right (omega arith) (pow_pos x) in
    let g : 2 ^ 52 * 2 ^ suc x ≤ 2 ^ 52 * 2 ^ y = mul-le-mul_left (2 ^ 52) (pow_mono l) in
    let s : 2 ^ 52 * 2 ^ y ≤ (2 ^ 52 + u) * 2 ^ y = mul-le-mul_right (2 ^ y) (omega arith) in
    omega arith)
    (eq-or-lt_of_le (omega arith))

pub whole_increasing : (b c : ℕ) → b < c → whole b < whole c
unfolding whole
whole_increasing b c h = increasing (b / 2 ^ 52) (fraction_of b) (c / 2 ^ 52) (fraction_of c) (omega arith) (omega arith) (omega arith)

pub whole_monotone : (b c : ℕ) → b ≤ c → whole b ≤ whole c
whole_monotone b c h = ⊎_elim (λ (e : b ≡ c). rw e (le_refl (whole c))) (λ (l : b < c). le_of_lt (whole_increasing b c l)) (eq-or-lt_of_le h)

pub order_of_patterns : (b k : ℕ) → leb b k ≡ leb (whole b) (whole k)
order_of_patterns b k = go (leb b k) refl
  where
    go : (t : Bool) → leb b k ≡ t → t ≡ leb (whole b) (whole k)
    go true e = sym (le-leb (whole b) (whole k) (whole_monotone b k (leb-true b k e)))
    go false e = sym (lt-leb (whole b) (whole k) (whole_increasing k b (leb-false b k e)))

-- where k is the pattern of the number n, to be at most k is to be of a value at most n
pub limit_as_pattern : (b k n : ℕ) → whole k ≡ n * one → leb b k ≡ leb (whole b) (n * one)
limit_as_pattern b k n e = order_of_patterns b k ∙ ap (leb (whole b)) e
