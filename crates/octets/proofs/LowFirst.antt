-- Std reads and writes the lowest byte first, as `number_of` and `bytes_of` do; at each width: `widths`, the laws that the proofs search through.
use mathlib.Core.Path.{◌≡◌, refl, sym, ap, ◌∙◌}
use mathlib.Core.List.{List, [], ◌∷◌}
use Prim.Native.Nat.{ℕ, zero, suc, ◌+◌, ◌*◌, ◌/◌, ◌%◌, ◌^◌, ◌<◌}
use native.Mathlib.Nat.{zero-add, pow-zero, pow-suc, div-one, div-div-eq-div-mul, mul_comm}
use native.Mathlib.Omega.{arith}
use lib.ListN.{length, get_or}
use lib.Seq.{take_all}
use Rattle.std.specs.Int.{w8, w16, w32, w64, byte_at, byte_worth, bytes_low_first, sum_through, to_le_bytes, from_le_bytes}
use Rattle.octets.specs.Bytes.{bytes_of, number_of, number_at}
use Rattle.octets.proofs.Numbers.{number_at_halves, number_at_one}

-- ── bytes to a number

summed : (l : List ℕ) (w : ℕ) → number_at l 0 (suc w) ≡ sum_through (λ i. byte_worth i (get_or l i 0)) w
summed l zero = number_at_one l 0
summed l (suc w) =
    let longer : suc (suc w) ≡ suc w + 1 = omega arith in
    let last : 256 ^ suc w * number_at l (0 + suc w) 1 ≡ get_or l (suc w) 0 * 256 ^ suc w = rw (zero-add, number_at_one l (suc w)) (mul_comm (256 ^ suc w) _) in
    ap (number_at l 0) longer ∙ number_at_halves l 0 (suc w) 1 ∙ (λ i. summed l w i + last i)

sum_of : (l : List ℕ) (w : ℕ) → length l ≡ suc w → number_of l ≡ sum_through (λ i. byte_worth i (get_or l i 0)) w
unfolding number_at
sum_of l w h = ap number_of (sym (take_all (suc w) l (omega arith))) ∙ summed l w

pub read_1 : (l : List ℕ) → length l ≡ 1 → number_of l ≡ from_le_bytes w8 l
read_1 l h = sum_of l 0 h

pub read_2 : (l : List ℕ) → length l ≡ 2 → number_of l ≡ from_le_bytes w16 l
read_2 l h = sum_of l 1 h

pub read_4 : (l : List ℕ) → length l ≡ 4 → number_of l ≡ from_le_bytes w32 l
read_4 l h = sum_of l 3 h

pub read_8 : (l : List ℕ) → length l ≡ 8 → number_of l ≡ from_le_bytes w64 l
read_8 l h = sum_of l 7 h

-- ── a number to bytes

byte_there : (i n m : ℕ) → m ≡ n / 256 ^ i → byte_at i n ≡ m % 256
byte_there zero n m e = rw (e, pow-zero, div-one) refl
byte_there (suc i) n m e = rw e refl

-- from byte i on, m is what is left of n
low_first : (i k n m : ℕ) → m ≡ n / 256 ^ i → bytes_of k m ≡ bytes_low_first i k n
unfolding bytes_of
low_first i zero n m e = refl
low_first i (suc k) n m e =
    let next : m / 256 ≡ n / 256 ^ suc i = rw (e, pow-suc 256 i) (div-div-eq-div-mul n (256 ^ i) 256) in
    λ j. sym (byte_there i n m e) j ∷ low_first (suc i) k n (m / 256) next j

all_low_first : (k n : ℕ) → bytes_of k n ≡ bytes_low_first 0 k n
all_low_first k n = low_first 0 k n n (rw (pow-zero, div-one) refl)

-- std writes a byte as it is
pub written_1 : (n : ℕ) → n < 256 → bytes_of 1 n ≡ n ∷ []
unfolding bytes_of
written_1 n h = let e : n % 256 ≡ n = omega arith in ap (λ (m : ℕ). m ∷ []) e

pub written_2 : (n : ℕ) → bytes_of 2 n ≡ to_le_bytes w16 n
written_2 n = all_low_first 2 n

pub written_4 : (n : ℕ) → bytes_of 4 n ≡ to_le_bytes w32 n
written_4 n = all_low_first 4 n

pub written_8 : (n : ℕ) → bytes_of 8 n ≡ to_le_bytes w64 n
written_8 n = all_low_first 8 n

pub ruleset widths = (read_1, read_2, read_4, read_8, written_1, written_2, written_4, written_8)
