-- Laws on single limbs, with B = 2 ^ 32: no lists here.
--   product_fits, carry_fits, multiplied   a limb times two limbs, and a carry
--   quotient_fits, divided                 two limbs over one
--   shift_fits, shifted                    two limbs over a power of two
use mathlib.Core.Path.{◌≡◌, sym, ap}
use Prim.Native.Nat.{ℕ, ◌+◌, ◌-◌, ◌*◌, ◌/◌, ◌%◌, ◌^◌, ◌≤◌, ◌<◌}
use native.Mathlib.Nat.{mul-le-mul_right, div-lt_iff_lt-mul, div-add-mod', mod-lt}
use native.Mathlib.Omega.{arith}
use lib.Pow.{pow_pos, pow-add, shr_lt, split}
use lib.Bits.{bit_and, and_mask}

-- the product of two limbs, and a third, fit 64 bits
pub product_fits : (x y z : ℕ) → x < 4294967296 → y < 4294967296 → z < 4294967296 → x * y + z < 2 ^ 64
product_fits x y z hx hy hz =
    let h : x * y ≤ 4294967295 * y = mul-le-mul_right y (omega arith) in
    omega arith

-- the two columns of a limb times two limbs, with a carry c of two limbs
pub multiplied : (w m c : ℕ) → (w * (m % 4294967296) + c % 4294967296) % 4294967296 + 4294967296 * (w * (m / 4294967296) + c / 4294967296 + (w * (m % 4294967296) + c % 4294967296) / 4294967296) ≡ w * m + c
multiplied w m c =
    let e : w * (m / 4294967296 * 4294967296 + m % 4294967296) ≡ w * m = ap (λ (z : ℕ). w * z) (omega arith) in
    omega arith

carried : (w m c q l : ℕ) → w < 4294967296 → m < 2 ^ 64 → c < 2 ^ 64 → l + 4294967296 * q ≡ w * m + c → q < 2 ^ 64
carried w m c q l hw hm hc e =
    let h : w * m ≤ 4294967295 * m = mul-le-mul_right m (omega arith) in
    omega arith

-- what is carried out fits 64 bits
pub carry_fits : (w m c : ℕ) → w < 4294967296 → m < 2 ^ 64 → c < 2 ^ 64 → w * (m / 4294967296) + c / 4294967296 + (w * (m % 4294967296) + c % 4294967296) / 4294967296 < 2 ^ 64
carry_fits w m c hw hm hc = carried w m c (w * (m / 4294967296) + c / 4294967296 + (w * (m % 4294967296) + c % 4294967296) / 4294967296) _ hw hm hc (multiplied w m c)

pub quotient_fits : (r x d : ℕ) → r < d → x < 4294967296 → (r * 4294967296 + x) / d < 4294967296
quotient_fits r x d h hx = (div-lt_iff_lt-mul {k = d} {x = r * 4294967296 + x} {y = 4294967296} (omega arith)).1 (omega arith)

-- of the numbers as `wide` gives them: r', x', d'
pub divided : (r x d r' x' d' : ℕ) → r' ≡ r → x' ≡ x → d' ≡ d → r < d
    → (r * 4294967296 + x ≡ (r' * 4294967296 + x') / d' * d + (r' * 4294967296 + x') % d') × ((r' * 4294967296 + x') % d' < d)
divided r x d r' x' d' er ex ed h = rw (er, ex, ed) (sym (div-add-mod' (r * 4294967296 + x) d), mod-lt (r * 4294967296 + x) (omega arith))

pub shift_fits : (r x s : ℕ) → r < 2 ^ s → x < 4294967296 → (r * 4294967296 + x) / 2 ^ s < 2 ^ 32
shift_fits r x s h hx =
    let e : 2 ^ (32 + s) ≡ 4294967296 * 2 ^ s = pow-add 2 32 s in
    shr_lt {n = r * 4294967296 + x} 32 s (omega arith)

-- of the numbers as `wide` gives them: r', x'
pub shifted : (r x s r' x' p : ℕ) → r' ≡ r → x' ≡ x → p ≡ 2 ^ s
    → (r * 4294967296 + x ≡ (r' * 4294967296 + x') / 2 ^ s * 2 ^ s + bit_and (r' * 4294967296 + x') (p - 1)) × (bit_and (r' * 4294967296 + x') (p - 1) < 2 ^ s)
shifted r x s r' x' p er ex ep = rw (er, ex, ep, and_mask (r * 4294967296 + x) s) (sym (split (r * 4294967296 + x) s), mod-lt (r * 4294967296 + x) (pow_pos s))
