-- Laws of a number's text.
--   decimal_last, decimal_more                   by one division
--   decimal_some, decimal_at_most                bounds on its length
--   one_digit, more_digits                       whether there is a digit to divide off
use mathlib.Core.Path.{◌≡◌, refl}
use mathlib.Core.Bool.{Bool, true, false}
use mathlib.Core.List.{[], ◌∷◌, ◌++◌, map-append}
use Prim.Native.Nat.{ℕ, zero, suc, ◌+◌, ◌/◌, ◌%◌, ◌^◌, ◌≤◌, ◌<◌}
use native.Mathlib.Nat.{pow-suc}
use native.Mathlib.Omega.{arith}
use borrow.Author.Tests.{ltb-true, ltb-false}
use lib.Dec.{ltb}
use lib.ListN.{length, length-append, length-map}
use Rattle.listing.specs.Decimal.{digits, character, decimal}
use Rattle.listing.proofs.OnlyDecimal.{digits_are, some}
use Rattle.listing.proofs.Digits.{digits_last, digits_more}

pub decimal_last : (n : ℕ) → n < 10 → decimal n ≡ character n ∷ []
unfolding decimal
decimal_last n h = rw (digits_last n h)

pub decimal_more : (n : ℕ) → 10 ≤ n → decimal n ≡ decimal (n / 10) ++ (character (n % 10) ∷ [])
unfolding decimal
decimal_more n h = rw (digits_more n h) (map-append character (digits (n / 10)) (n % 10 ∷ []))

pub length_more : (n : ℕ) → 10 ≤ n → length (decimal n) ≡ length (decimal (n / 10)) + 1
length_more n h = rw (decimal_more n h) (length-append (decimal (n / 10)) (character (n % 10) ∷ []))

pub decimal_some : (n : ℕ) → 1 ≤ length (decimal n)
unfolding decimal
decimal_some n = rw length-map (some n (digits n) (digits_are n))

pub one_digit : (n : ℕ) → length (decimal n) ≤ 1 → n < 10
one_digit n h = grind (arith, length_more, decimal_some)

pub more_digits : (n : ℕ) → 2 ≤ length (decimal n) → 10 ≤ n
more_digits n h = grind (arith, decimal_last)

-- a number below 10 ^ (k + 1) has at most k + 1 digits
at_most_by : (k n : ℕ) (p : Bool) → ltb n 10 ≡ p → ((10 ≤ n) → length (decimal (n / 10)) ≤ k) → length (decimal n) ≤ suc k
at_most_by k n true e f = rw (decimal_last n (ltb-true n 10 e)) (omega arith)
at_most_by k n false e f = let h : 10 ≤ n = ltb-false n 10 e in omega (arith, length_more n h, f h)

pub decimal_at_most : (k n : ℕ) → n < 10 ^ suc k → length (decimal n) ≤ suc k
decimal_at_most zero n h = at_most_by zero n (ltb n 10) refl (λ g. absurd (omega arith))
decimal_at_most (suc k) n h =
    at_most_by (suc k) n (ltb n 10) refl (λ g. decimal_at_most k (n / 10) (omega (arith, pow-suc 10 (suc k))))
