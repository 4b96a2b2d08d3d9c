-- The exact value of a load, and of its figure, over one common power of two, `unit`: `value_of_load`, `value_of_figure`.
-- On the way: `whole_carry`, `value_on` (any significand on the figure's exponent), `pattern_is` (of a figure that is not 0).
use mathlib.Core.Path.{◌≡◌, sym, ap, ◌∙◌}
use mathlib.Core.Logic.{⊎_elim}
use Prim.Native.Nat.{ℕ, suc, ◌+◌, ◌-◌, ◌*◌, ◌/◌, ◌%◌, ◌^◌, ◌≤◌, ◌<◌}
use native.Mathlib.Nat.{eq-or-lt_of_le, mul_assoc, pow-suc}
use native.Mathlib.Omega.{arith}
use lib.Pow.{pow-add}
use borrow.Author.Tests.{ne_eqb}
use Rattle.binary64.specs.Quantity.{whole_at, whole, one}
use Rattle.load.specs.Load.{digits, significand, load_pattern}
use Rattle.load.proofs.Shifted.{zeros_before, shifted, Shifted, Rounded}

-- a significand of 53 digits, or of 2 ^ 53, put on an exponent field that does not count its first digit
pub whole_carry : (x s : ℕ) → 2 ^ 52 ≤ s → s ≤ 2 ^ 53 → whole (x * 2 ^ 52 + s) ≡ s * 2 ^ x
unfolding whole whole_at
whole_carry x s l u = ⊎_elim carried kept (eq-or-lt_of_le u)
  where
    b : ℕ
    b = x * 2 ^ 52 + s

    carried : s ≡ 2 ^ 53 → whole_at (b / 2 ^ 52) (b % 2 ^ 52) ≡ s * 2 ^ x
    carried e =
        let q : b / 2 ^ 52 ≡ suc (suc x) = omega arith in
        let r : b % 2 ^ 52 ≡ 0 = omega arith in
        rw (q, r, e) (omega (arith, pow-suc 2 x))

    kept : s < 2 ^ 53 → whole_at (b / 2 ^ 52) (b % 2 ^ 52) ≡ s * 2 ^ x
    kept h =
        let q : b / 2 ^ 52 ≡ suc x = omega arith in
        let r : b % 2 ^ 52 ≡ s - 2 ^ 52 = omega arith in
        let t : 2 ^ 52 + (s - 2 ^ 52) ≡ s = omega arith in
        rw (q, r, t)

-- the common power: one over 2 ^ 1074, and as many times over as the figure was shifted
abbrev pub unit : ℕ → ℕ
unit n = 2 ^ (1074 - zeros_before n)

pub value_of_figure : (n : ℕ) → Shifted n → n * one ≡ shifted n * unit n
value_of_figure n h =
    let z = zeros_before n in
    let e : 1074 ≡ z + (1074 - z) = omega (arith, h.few) in
    ap (λ (k : ℕ). n * 2 ^ k) e ∙ ap (λ (k : ℕ). n * k) (pow-add 2 z (1074 - z)) ∙ sym (mul_assoc n (2 ^ z) (unit n))

-- of a significand s, the figure's or the one before it, on the figure's exponent
pub value_on : (n s : ℕ) → Shifted n → 2 ^ 52 ≤ s → s ≤ 2 ^ 53 → whole ((1021 + digits n) * 2 ^ 52 + s) ≡ s * 2 ^ 11 * unit n
value_on n s h l u =
    let z = zeros_before n in
    let e : 1021 + digits n ≡ 11 + (1074 - z) = omega (arith, h.few, h.rest) in
    whole_carry (1021 + digits n) s l u
    ∙ ap (λ (k : ℕ). s * 2 ^ k) e ∙ ap (λ (k : ℕ). s * k) (pow-add 2 11 (1074 - z)) ∙ sym (mul_assoc s (2 ^ 11) (unit n))

pub pattern_is : (n : ℕ) → 0 < n → load_pattern n ≡ (1021 + digits n) * 2 ^ 52 + significand n
unfolding load_pattern
pattern_is n p = rw (ne_eqb n 0 (λ (e : n ≡ 0). omega arith))

pub value_of_load : (n : ℕ) → 0 < n → Shifted n → Rounded n → whole (load_pattern n) ≡ significand n * 2 ^ 11 * unit n
value_of_load n p h r = ap whole (pattern_is n p) ∙ value_on n (significand n) h r.low r.high
