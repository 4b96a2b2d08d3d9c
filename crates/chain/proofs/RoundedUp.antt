-- Laws on rounding up over 2 ^ k * d, where the largest u64 is 18446744073709551615.
--   divided_by_one  `divide_out` where d is 1
--   rounded         `quotient_up`: a shift, a division, and one more where anything is left
--   all_below       `round_up` where all limbs fall below 2 ^ k
--   not_below       `round_up` where not
--   left_down, none_down, some_down, some_below   what they leave in the limbs
use mathlib.Core.Path.{◌≡◌, sym, ap, ◌∙◌}
use mathlib.Core.List.{List, [], ◌++◌, append-nil}
use Prim.Native.Nat.{ℕ, zero, suc, ◌+◌, ◌-◌, ◌*◌, ◌/◌, ◌%◌, ◌^◌, ◌≤◌, ◌<◌, min}
use native.Mathlib.Nat.{div-add-mod', mod-lt, mul-pos, le-mul_of_pos_right}
use native.Mathlib.Omega.{arith}
use lib.Arith.{digits_lt, digits_div, digits_mod}
use lib.ListN.{length, take, drop, length-drop, drop_of_length-le}
use lib.Seq.{take_at, drop_at, length-take-le}
use lib.Pow.{pow_pos, pow_mono}
use Rattle.limbs.specs.Value.{value}
use Rattle.natural.specs.Ceiling.{ceiling}
use Rattle.limbs.proofs.Value.{weight_split, value_split, value_none, part_from}
use Rattle.natural.proofs.Ceiling.{ceiling_of}

pub divided_by_one : (v d : ℕ) → d ≡ 1 → (v ≡ v * d + 0) × (0 < d)
divided_by_one v d e = rw e (omega arith, omega arith)

-- dividing by p and then by d
twice : (p d v u q a b : ℕ) → v ≡ u * p + a → a < p → u ≡ q * d + b → b < d → (v / (p * d) ≡ q) × (v % (p * d) ≡ b * p + a)
twice p d v u q a b ea ha eb hb =
    let s : u * p ≡ (q * d + b) * p = ap (λ (n : ℕ). n * p) eb in
    let t : v ≡ q * (p * d) + (b * p + a) = omega arith in
    let h : b * p + a < p * d = omega (arith, digits_lt {q = b} {m = d} {r = a} {c = p} hb ha) in
    (ap (λ (n : ℕ). n / (p * d)) t ∙ digits_div q h, ap (λ (n : ℕ). n % (p * d)) t ∙ digits_mod q h)

-- what is left at p and above counts like what is left below p
flag : (f a b p : ℕ) → 0 < p → min 1 (f + a + b) ≡ min 1 (f + (b * p + a))
flag f a zero p h = omega arith
flag f a (suc b) p h = omega arith

-- n is the quotient as `to_u64` gives it, x the answer as `up` gives it, a' and b' the remainders as `wide` gives them
pub rounded : (v p d u q a b a' b' f n x : ℕ) → v ≡ u * p + a → a < p → u ≡ q * d + b → b < d → a' ≡ a → b' ≡ b → n ≡ min 18446744073709551615 q
    → x ≡ min 18446744073709551615 (n + min 1 (f + a' + b')) → x ≡ min 18446744073709551615 (v / (p * d) + min 1 (f + v % (p * d)))
rounded v p d u q a b a' b' f n x ea ha eb hb ea' eb' en ex =
    let t = twice p d v u q a b ea ha eb hb in
    let g : min 1 (f + a + b) ≡ min 1 (f + (b * p + a)) = flag f a b p (omega arith) in
    let e : min 1 (f + a' + b') ≡ min 1 (f + a + b) = omega arith in
    let s : x ≡ min 18446744073709551615 (q + min 1 (f + (b * p + a))) = omega arith in
    s ∙ (λ j. min 18446744073709551615 (sym t.0 j + min 1 (f + sym t.1 j)))

-- what `quotient_up` leaves in the limbs
pub left_down : (v p d u q a b : ℕ) → v ≡ u * p + a → a < p → u ≡ q * d + b → b < d → q ≡ v / (p * d)
left_down v p d u q a b ea ha eb hb = sym (twice p d v u q a b ea ha eb hb).0

-- n limbs hold v, and all of them fall below 2 ^ k
none_left : (v n k d : ℕ) → v < 2 ^ (32 * n) → n ≤ k / 32 → 0 < d → v < 2 ^ k * d
none_left v n k d b h hd = omega (arith, pow_mono {i = 32 * n} {j = k} (omega arith), le-mul_of_pos_right (2 ^ k) hd)

pub all_below : (v n k d : ℕ) → v < 2 ^ (32 * n) → n ≤ k / 32 → 0 < d → min 1 v ≡ min 18446744073709551615 (ceiling v (2 ^ k * d))
all_below v n k d b h hd = omega (arith, ceiling_of v (2 ^ k * d) 0 v (omega arith) (none_left v n k d b h hd))

-- what `round_up` leaves there
pub none_down : (l : List ℕ) (k d : ℕ) → value l < 2 ^ (32 * length l) → length l ≤ k / 32 → 0 < d → value (drop (k / 32) l) ≡ value l / (2 ^ k * d)
none_down l k d b n hd =
    let e : value l ≡ 0 * (2 ^ k * d) + value l = omega arith in
    value_none l (k / 32) n ∙ sym (digits_div 0 (none_left (value l) (length l) k d b n hd)) ∙ ap (λ (z : ℕ). z / (2 ^ k * d)) (sym e)

-- what is left at W and above counts like what is left below W
same_flag : (R W r : ℕ) → r < W → min 1 (R * W + r) ≡ min 1 (min 1 r + R)
same_flag R W r h =
    let e : min 1 (0 + r + R) ≡ min 1 (0 + (R * W + r)) = flag 0 r R W (omega arith) in
    omega arith

-- U is the number at W and above, r the number below, p a power of two with W * p ≡ 2 ^ k
module _ (N W p d U r k : ℕ) (e : N ≡ U * W + r) (h : r < W) (w : W * p ≡ 2 ^ k) (hp : 0 < p) (hd : 0 < d) where
  parts : (N ≡ U / (p * d) * (p * d * W) + (U % (p * d) * W + r)) × (U % (p * d) * W + r < p * d * W) × (2 ^ k * d ≡ p * d * W)
  parts =
      let v : U * W ≡ (U / (p * d) * (p * d) + U % (p * d)) * W = ap (λ (n : ℕ). n * W) (sym (div-add-mod' U (p * d))) in
      let g : W * p * d ≡ 2 ^ k * d = ap (λ (n : ℕ). n * d) w in
      (omega arith, digits_lt {q = U % (p * d)} {m = p * d} {r = r} {c = W} (mod-lt U (mul-pos hp hd)) h, omega arith)

  split_at : (f : ℕ) → f ≡ min 1 r → ceiling N (2 ^ k * d) ≡ U / (p * d) + min 1 (f + U % (p * d))
  split_at f ef =
      let Q : ℕ = U / (p * d) in
      let R : ℕ = U % (p * d) in
      ap (λ (n : ℕ). ceiling N n) parts.2 ∙ ceiling_of N (p * d * W) Q (R * W + r) parts.0 parts.1 ∙ ap (λ (n : ℕ). Q + n) (same_flag R W r h ∙ ap (λ (n : ℕ). min 1 (n + R)) (sym ef))

  down_at : U / (p * d) ≡ N / (2 ^ k * d)
  down_at = sym (digits_div (U / (p * d)) parts.1) ∙ (λ j. sym parts.0 j / sym parts.2 j)

-- the limbs below limb j are j
part_below : (l : List ℕ) (j : ℕ) → j ≤ length l → value (take j l) < 2 ^ (32 * length (take j l)) → value (take j l) < 2 ^ (32 * j)
part_below l j h b = rw (length-take-le j l h) at b

-- what `round_up` leaves where not: the limbs of l from j on became f
module _ (l f : List ℕ) (j : ℕ) (h : j ≤ length l) where
  rest : drop (length l - j) (drop j l) ≡ []
  rest = drop_of_length-le (drop j l) {i = length l - j} (omega (arith, length-drop j l))

  pub some_below : take j (take j l ++ (f ++ drop (length l - j) (drop j l))) ≡ take j l
  some_below = take_at (take j l) (f ++ drop (length l - j) (drop j l)) j (length-take-le j l h)

  some_above : value (drop j (take j l ++ (f ++ drop (length l - j) (drop j l)))) ≡ value f
  some_above = ap value (drop_at (take j l) (f ++ drop (length l - j) (drop j l)) j (length-take-le j l h)) ∙ ap (λ (z : List ℕ). value (f ++ z)) rest ∙ ap value (append-nil f)

  pub some_down : (k d : ℕ) → j ≡ k / 32 → value (take j l) < 2 ^ (32 * length (take j l)) → 0 < d → value f ≡ value (take (length l - j) (drop j l)) / (2 ^ (k % 32) * d)
      → value (drop j (take j l ++ (f ++ drop (length l - j) (drop j l)))) ≡ value l / (2 ^ k * d)
  some_down k d ej b hd e =
      let w : 2 ^ (32 * j) * 2 ^ (k % 32) ≡ 2 ^ k = ap (λ (z : ℕ). 2 ^ (32 * z) * 2 ^ (k % 32)) ej ∙ weight_split k in
      some_above ∙ e ∙ ap (λ (z : List ℕ). value z / (2 ^ (k % 32) * d)) (part_from l j)
      ∙ down_at (value l) (2 ^ (32 * j)) (2 ^ (k % 32)) d (value (drop j l)) (value (take j l)) k (value_split l j h) (part_below l j h b) w (pow_pos (k % 32)) hd

pub not_below : (l : List ℕ) (k d f : ℕ) → value (take (k / 32) l) < 2 ^ (32 * length (take (k / 32) l)) → k / 32 < length l → 0 < d → f ≡ min 1 (value (take (k / 32) l))
    → ceiling (value l) (2 ^ k * d)
    ≡ value (take (length l - k / 32) (drop (k / 32) l)) / (2 ^ (k % 32) * d) + min 1 (f + value (take (length l - k / 32) (drop (k / 32) l)) % (2 ^ (k % 32) * d))
not_below l k d f b n hd ef =
    rw (part_from l (k / 32))
    (split_at (value l) (2 ^ (32 * (k / 32))) (2 ^ (k % 32)) d (value (drop (k / 32) l)) (value (take (k / 32) l)) k (value_split l (k / 32) (omega arith)) (part_below l (k / 32) (omega arith) b) (weight_split k) (pow_pos (k % 32)) hd f ef)
