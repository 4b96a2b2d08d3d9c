-- Laws of the six quantities: `each_of_six` (by place); `six_by`, `six_are` (a list of six by its elements); of a test `none_of_six`, `six_then`, `six_same`; `each_finite` (what passes refusal 8).
use mathlib.Core.Path.{◌≡◌, refl}
use mathlib.Core.Bool.{Bool, true, false, ◌||◌}
use mathlib.Core.List.{List}
use lib.ListN.{length, get_or}
use Rattle.std.proofs.lemmas.List.FromFn.{fill_by_all}
use Prim.Native.Nat.{ℕ, zero, suc, ◌<◌}
use native.Mathlib.Omega.{arith}
use borrow.Author.Tests.{not-false}
use Rattle.binary64.specs.Pattern.{is_unsigned_finite}
use Rattle.kinds.specs.Case.{of_six, any_of_six, not_number, any_not_number}
use Rattle.octets.proofs.Bools.{neither}

pub each_of_six : (P : ℕ → Type 0) → P 0 → P 1 → P 2 → P 3 → P 4 → P 5 → (i : ℕ) → i < 6 → P i
each_of_six P a b c d e f zero h = a
each_of_six P a b c d e f (suc zero) h = b
each_of_six P a b c d e f (suc (suc zero)) h = c
each_of_six P a b c d e f (suc (suc (suc zero))) h = d
each_of_six P a b c d e f (suc (suc (suc (suc zero)))) h = e
each_of_six P a b c d e f (suc (suc (suc (suc (suc zero))))) h = f
each_of_six P a b c d e f (suc (suc (suc (suc (suc (suc i)))))) h = absurd (omega arith)

pub six_by : {A : Type 0} (x : ℕ → A) (l : List A) (d : A) → length l ≡ 6 → ((i : ℕ) → i < 6 → get_or l i d ≡ x i) → l ≡ of_six x
six_by x l d n e = fill_by_all x l 6 d n e

-- whatever stands for an element that is not there
pub six_are : {A : Type 0} (l : List A) (d : A) → length l ≡ 6 → l ≡ of_six (λ i. get_or l i d)
six_are l d n = six_by (λ i. get_or l i d) l d n (λ i h. refl)

pub none_of_six : (p : ℕ → Bool) → any_of_six p ≡ false → (i : ℕ) → i < 6 → p i ≡ false
none_of_six p none =
    let f = neither (p 0 || p 1 || p 2 || p 3 || p 4) (p 5) none in
    let e = neither (p 0 || p 1 || p 2 || p 3) (p 4) f.0 in
    let d = neither (p 0 || p 1 || p 2) (p 3) e.0 in
    let c = neither (p 0 || p 1) (p 2) d.0 in
    let b = neither (p 0) (p 1) c.0 in
    each_of_six (λ i. p i ≡ false) b.0 b.1 c.1 d.1 e.1 f.1

pub six_then : (p : ℕ → Bool) → ((i : ℕ) → i < 6 → p i ≡ false) → any_of_six p ≡ false
six_then p h = rw (h 0 (omega arith), h 1 (omega arith), h 2 (omega arith), h 3 (omega arith), h 4 (omega arith), h 5 (omega arith))

pub six_same : (p q : ℕ → Bool) → ((i : ℕ) → p i ≡ q i) → any_of_six p ≡ any_of_six q
six_same p q h = rw (h 0, h 1, h 2, h 3, h 4, h 5)

pub each_finite : (p : ℕ → ℕ) → any_not_number p ≡ false → (i : ℕ) → i < 6 → is_unsigned_finite (p i) ≡ true
unfolding not_number
each_finite p e i h = not-false (is_unsigned_finite (p i)) (none_of_six (λ j. not_number (p j)) e i h)
