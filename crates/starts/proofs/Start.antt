-- Laws on the wide starts.
--   value_zeros              `clear`
--   laid, lay_done           `lay`: the limbs below are 0, and x * 2 ^ (at % 32) stands above them
--   lay_stays                `lay`: the limbs that it does not write
--   worked_on                `complement`, `sum`: what they leave, by what was done to the first limbs
--   less_done                `less`: nothing is borrowed
--   add_term_done            `add_term`
--   term_small, sum_done     `lay_sum`: nothing is carried out
use mathlib.Core.Path.{◌≡◌, refl, ap, ◌∙◌}
use mathlib.Core.List.{List, [], ◌∷◌, ◌++◌}
use Prim.Native.Nat.{ℕ, zero, suc, ◌+◌, ◌-◌, ◌*◌, ◌/◌, ◌%◌, ◌^◌, ◌≤◌, ◌<◌}
use native.Mathlib.Nat.{mul-lt-mul_of_pos_right}
use native.Mathlib.Omega.{arith}
use lib.ListN.{length, take, drop, set}
use lib.Pow.{pow_pos, pow-add, pow_mono}
use lib.Seq.{length_front, drop-set-lt}
use Rattle.std.specs.Prelude.{replicate}
use Rattle.limbs.specs.Value.{value, InUse}
use Rattle.limbs.proofs.Value.{weight_split, value_front, store_three, value_back}
use Rattle.natural.proofs.Carry.{above, weight_above}
use Rattle.limbs.proofs.Value.{front_stays}
use Rattle.limbs.proofs.Held.{use_part}

-- y is a number in the limb where 2 ^ at falls
pub laid : (y x at : ℕ) → y ≡ x * 2 ^ (at % 32) → y * 2 ^ (32 * (at / 32)) ≡ x * 2 ^ at
laid y x at e =
    let a : y * 2 ^ (32 * (at / 32)) ≡ x * 2 ^ (at % 32) * 2 ^ (32 * (at / 32)) = ap (λ (n : ℕ). n * 2 ^ (32 * (at / 32))) e in
    let b : x * (2 ^ (32 * (at / 32)) * 2 ^ (at % 32)) ≡ x * 2 ^ at = ap (λ (n : ℕ). x * n) (weight_split at) in
    omega arith

-- e are the limbs below, which were cleared; y, lo and hi are stored above them
pub lay_done : (l e : List ℕ) (x at p y k lo hi : ℕ) → at / 32 + 3 ≤ length l → length e ≡ length (take (at / 32) l) → value e ≡ 0
    → p ≡ 2 ^ (at % 32) → y + 4294967296 * k ≡ p * x + 0 → lo ≡ k % 4294967296 → hi ≡ k / 4294967296
    → value (take (at / 32 + 3) (set (set (set (e ++ drop (at / 32) l) (at / 32) y) (at / 32 + 1) lo) (at / 32 + 2) hi)) ≡ x * 2 ^ at
lay_done l e x at p y k lo hi h len z ep s el eh =
    let f : value (take (at / 32) (e ++ drop (at / 32) l)) ≡ value e = (value_front l e (at / 32) (omega arith) len).0 in
    let m : p * x ≡ 2 ^ (at % 32) * x = ap (λ (n : ℕ). n * x) ep in
    let g : (y + 4294967296 * k) * 2 ^ (32 * (at / 32)) ≡ x * 2 ^ at = laid (y + 4294967296 * k) x at (omega arith) in
    store_three (e ++ drop (at / 32) l) (at / 32) y k lo hi (omega (arith, length_front l e (at / 32) len)) el eh ∙ omega arith

-- `lay` writes three limbs above those that it cleared
pub lay_stays : (l e : List ℕ) (n y lo hi : ℕ) → n + 3 ≤ length l → length e ≡ length (take n l) → drop (n + 3) (set (set (set (e ++ drop n l) n y) (n + 1) lo) (n + 2) hi) ≡ drop (n + 3) l
lay_stays l e n y lo hi h len =
    drop-set-lt (n + 3) (set (set (e ++ drop n l) n y) (n + 1) lo) (n + 2) hi (omega arith) ∙ drop-set-lt (n + 3) (set (e ++ drop n l) n y) (n + 1) lo (omega arith) ∙ drop-set-lt (n + 3) (e ++ drop n l) n y (omega arith)
    ∙ front_stays l e n (n + 3) (omega arith) len (omega arith)

-- the first n limbs of l became e, and `in_use` counted r of them
pub worked_on : (l e : List ℕ) (n r : ℕ) → n ≤ length l → length e ≡ length (take n l)
    → (r ≤ length (take n (e ++ drop n l))) × (value (take r (take n (e ++ drop n l))) ≡ value (take n (e ++ drop n l))) × InUse r (take n (e ++ drop n l))
    → (value (take r (e ++ drop n l)) ≡ value e) × (r ≤ n) × InUse r (e ++ drop n l) × (value (take n (e ++ drop n l)) ≡ value e) × (drop n (e ++ drop n l) ≡ drop n l)
worked_on l e n r h len u =
    let k = length_front l e n len in
    let p = use_part (e ++ drop n l) n r (omega arith) u in
    let f = (value_front l e n h len).0 in
    (p.0 ∙ f, p.1, p.2, f, front_stays l e n n h len (omega arith))

-- nothing is borrowed, where m is not above the number
pub less_done : (v u m b w lo hi : ℕ) → v < w → m ≤ u → v + value (lo ∷ hi ∷ []) ≡ u + b * w → lo ≡ m % 4294967296 → hi ≡ m / 4294967296 → v + m ≡ u
unfolding value
less_done v u m zero w lo hi h hm e el eh = omega arith
less_done v u m (suc b) w lo hi h hm e el eh = omega arith

pub value_zeros : (n : ℕ) → value (replicate n 0) ≡ 0
unfolding value
value_zeros zero = refl
value_zeros (suc n) = omega (arith, value_zeros n)

-- the limbs of l from k / 32 on became f, and y is the term's number in them
pub add_term_done : (l f : List ℕ) (k r y x : ℕ) → k / 32 ≤ length l → y ≡ x * 2 ^ (k % 32)
    → value f + r * 2 ^ (32 * length (take (length l - k / 32) (drop (k / 32) l))) ≡ value (take (length l - k / 32) (drop (k / 32) l)) + y
    → value (take (k / 32) l ++ (f ++ drop (length l - k / 32) (drop (k / 32) l))) + r * 2 ^ (32 * length l) ≡ value l + x * 2 ^ k
add_term_done l f k r y x h ey s = omega (arith, above l f (k / 32) _ _ h s, weight_above l (k / 32) r h, laid y x k ey)

-- a term takes at most half of the numbers of n limbs
pub term_small : (s k n : ℕ) → s < 2 ^ 64 → k / 32 + 3 ≤ n → 2 * (s * 2 ^ k) < 2 ^ (32 * n)
term_small s k n hs h =
    let a : s * 2 ^ k < 18446744073709551616 * 2 ^ k = mul-lt-mul_of_pos_right hs (pow_pos k) in
    let b : 2 ^ (65 + k) ≡ 36893488147419103232 * 2 ^ k = pow-add 2 65 k in
    let c : 2 ^ (65 + k) ≤ 2 ^ (32 * n) = pow_mono {i = 65 + k} {j = 32 * n} (omega arith) in
    omega arith

no_carry : (v r w a b : ℕ) → v + r * w ≡ a + b → 2 * a < w → 2 * b < w → v ≡ a + b
no_carry v zero w a b e ha hb = omega arith
no_carry v (suc r) w a b e ha hb = omega arith

-- the first n limbs of l hold a, those above them became f, which is 0, and b was added to the whole
pub sum_done : (l f : List ℕ) (n v r a b : ℕ) → n ≤ length l → value (take n l) ≡ a → value f ≡ 0 → length (take n l ++ (f ++ drop (length l - n) (drop n l))) ≡ length l
    → v + r * 2 ^ (32 * length (take n l ++ (f ++ drop (length l - n) (drop n l)))) ≡ value (take n l ++ (f ++ drop (length l - n) (drop n l))) + b
    → 2 * a < 2 ^ (32 * length l) → 2 * b < 2 ^ (32 * length l) → v ≡ a + b
sum_done l f n v r a b h ea z len s ha hb =
    let m : value (take n l ++ (f ++ drop (length l - n) (drop n l))) ≡ value (take n l) + value f * 2 ^ (32 * n) = value_back l f n h in
    let g : value f * 2 ^ (32 * n) ≡ 0 * 2 ^ (32 * n) = ap (λ (k : ℕ). k * 2 ^ (32 * n)) z in
    let w : r * 2 ^ (32 * length (take n l ++ (f ++ drop (length l - n) (drop n l)))) ≡ r * 2 ^ (32 * length l) = ap (λ (k : ℕ). r * 2 ^ (32 * k)) len in
    no_carry v r (2 ^ (32 * length l)) a b (omega arith) ha hb
