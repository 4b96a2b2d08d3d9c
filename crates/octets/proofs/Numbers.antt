-- Laws of numbers in bytes, each over the width.
-- Bytes to a number: `number_of_halves`, `number_at_halves`, `number_at_one`, `number_of_small`, `number_at_small`.
-- A number to bytes: `length_bytes_of`, `bytes_of_low`, `bytes_of_halves`.
-- There and back: `number_of_bytes_of`, `bytes_of_number_at`.
-- Writes in a list of bytes are in `Splice`.
use mathlib.Core.Path.{◌≡◌, refl, ap, ◌∙◌}
use mathlib.Core.List.{List, [], ◌∷◌, ◌++◌}
use Prim.Native.Nat.{ℕ, zero, suc, ◌+◌, ◌*◌, ◌/◌, ◌%◌, ◌^◌, ◌≤◌, ◌<◌}
use native.Mathlib.Nat.{zero-add, suc-add, one-mul, pow-zero, pow-suc, pow-succ', one-le-pow, mod-one, div-one, div-div-eq-div-mul}
use native.Mathlib.Omega.{arith}
use lib.Arith.{digits_div, digits_mod, mod-mul}
use lib.Dec.{lit≤, lit<}
use lib.ListN.{length, take, drop, get_or, length-drop}
use lib.Seq.{get_or-drop, drop-drop, take-nil, drop-nil}
use Rattle.octets.specs.Bytes.{AreBytes, bytes_of, number_of, number_at}

power_pos : (w : ℕ) → 0 < 256 ^ w
power_pos w = one-le-pow w 256 (lit≤ tt)

-- ── bytes to a number

-- the first w bytes, and the v behind them
pub number_of_halves : (l : List ℕ) (w v : ℕ) → number_of (take (w + v) l) ≡ number_of (take w l) + 256 ^ w * number_of (take v (drop w l))
unfolding number_of
number_of_halves l zero v = rw (zero-add v, pow-zero, one-mul, zero-add)
number_of_halves [] (suc w) v =
    let z : 256 ^ suc w * number_of (take v []) ≡ 256 ^ suc w * 0 = ap (λ (l : List ℕ). 256 ^ suc w * number_of l) (take-nil v) in
    rw suc-add (omega arith)
number_of_halves (b ∷ l) (suc w) v =
    let h : 256 * number_of (take (w + v) l) ≡ 256 * (number_of (take w l) + 256 ^ w * number_of (take v (drop w l))) = ap (λ (n : ℕ). 256 * n) (number_of_halves l w v) in
    let p : 256 ^ suc w * number_of (take v (drop w l)) ≡ 256 ^ w * 256 * number_of (take v (drop w l)) = ap (λ (n : ℕ). n * number_of (take v (drop w l))) (pow-suc 256 w) in
    rw suc-add (omega arith)

pub number_at_halves : (l : List ℕ) (at w v : ℕ) → number_at l at (w + v) ≡ number_at l at w + 256 ^ w * number_at l (at + w) v
unfolding number_at
number_at_halves l at w v = number_of_halves (drop at l) w v ∙ ap (λ (m : List ℕ). number_of (take w (drop at l)) + 256 ^ w * number_of (take v m)) (drop-drop w at l)

pub number_at_one : (l : List ℕ) (at : ℕ) → number_at l at 1 ≡ get_or l at 0
unfolding number_at number_of
number_at_one [] at = rw drop-nil
number_at_one (b ∷ l) zero = omega arith
number_at_one (b ∷ l) (suc at) = number_at_one l at

-- of as many bytes as k at the most
pub number_of_small : (l : List ℕ) (k : ℕ) → AreBytes l → number_of (take k l) < 256 ^ k
unfolding number_of
number_of_small l zero h = rw pow-zero (omega arith)
number_of_small [] (suc k) h = power_pos (suc k)
number_of_small (b ∷ l) (suc k) h = omega (arith, h zero, pow-suc 256 k, number_of_small l k (λ i. h (suc i)))

pub number_at_small : (l : List ℕ) (at k : ℕ) → AreBytes l → number_at l at k < 256 ^ k
unfolding number_at
number_at_small l at k h = number_of_small (drop at l) k (λ i. rw get_or-drop (h (at + i)))

-- ── a number to bytes

pub length_bytes_of : (w x : ℕ) → length (bytes_of w x) ≡ w
unfolding bytes_of
length_bytes_of zero x = refl
length_bytes_of (suc w) x = ap suc (length_bytes_of w (x / 256))

-- a number's digits in base 256, without those from suc w on
low_digits : (w x : ℕ) → x % 256 ^ suc w ≡ x / 256 % 256 ^ w * 256 + x % 256
low_digits w x = rw (pow-suc 256 w) (mod-mul x {m = 256 ^ w} {c = 256} (power_pos w) (lit< tt))

low_rest : (w x : ℕ) → x % 256 ^ suc w / 256 ≡ x / 256 % 256 ^ w
low_rest w x = rw (low_digits w x) (digits_div (x / 256 % 256 ^ w) {m = 256} {r = x % 256} (omega arith))

low_first : (w x : ℕ) → x % 256 ^ suc w % 256 ≡ x % 256
low_first w x = rw (low_digits w x) (digits_mod (x / 256 % 256 ^ w) {m = 256} {r = x % 256} (omega arith))

-- the w low bytes are those of the low part
pub bytes_of_low : (w x : ℕ) → bytes_of w (x % 256 ^ w) ≡ bytes_of w x
unfolding bytes_of
bytes_of_low zero x = refl
bytes_of_low (suc w) x = rw (low_first, low_rest) (ap (λ (l : List ℕ). x % 256 ∷ l) (bytes_of_low w (x / 256)))

above : (v w x : ℕ) → bytes_of (w + v) x ≡ bytes_of w x ++ bytes_of v (x / 256 ^ w)
unfolding bytes_of
above v zero x = rw (zero-add, pow-zero, div-one)
above v (suc w) x = rw (suc-add, pow-succ', ← div-div-eq-div-mul x 256 (256 ^ w)) (ap (λ (l : List ℕ). x % 256 ∷ l) (above v w (x / 256)))

-- the first w bytes, and the v behind them
pub bytes_of_halves : (w v x : ℕ) → bytes_of (w + v) x ≡ bytes_of w (x % 256 ^ w) ++ bytes_of v (x / 256 ^ w)
bytes_of_halves w v x = rw bytes_of_low (above v w x)

-- ── there and back

pub number_of_bytes_of : (w x : ℕ) → number_of (bytes_of w x) ≡ x % 256 ^ w
unfolding number_of bytes_of
number_of_bytes_of zero x = rw (pow-zero, mod-one)
number_of_bytes_of (suc w) x = omega (arith, low_digits w x, number_of_bytes_of w (x / 256))

first_bytes : (l : List ℕ) (w : ℕ) → AreBytes l → w ≤ length l → bytes_of w (number_of (take w l)) ≡ take w l
unfolding number_of bytes_of
first_bytes l zero h k = refl
first_bytes [] (suc w) h k = absurd (omega arith)
first_bytes (b ∷ l) (suc w) h k =
    let s : b < 256 = h zero in
    let r : (b + 256 * number_of (take w l)) % 256 ≡ b = omega arith in
    let q : (b + 256 * number_of (take w l)) / 256 ≡ number_of (take w l) = omega arith in
    rw (r, q) (ap (λ (m : List ℕ). b ∷ m) (first_bytes l w (λ i. h (suc i)) (omega arith)))

pub bytes_of_number_at : (l : List ℕ) (at w : ℕ) → AreBytes l → at + w ≤ length l → bytes_of w (number_at l at w) ≡ take w (drop at l)
unfolding number_at
bytes_of_number_at l at w h k = first_bytes (drop at l) w (λ i. rw get_or-drop (h (at + i))) (rw length-drop (omega arith))
