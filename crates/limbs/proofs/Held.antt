-- Laws on what limbs hold.
--   value_above, use_part                  `in_use`: the limbs from j on are 0
--   zero_unused                            `is_zero`
--   zero_of, some_of                       what a caller of `is_zero` learns
--   number_none, number_one, number_more   `to_u64`
use mathlib.Core.Path.{◌≡◌, refl, sym, ap, ◌∙◌}
use mathlib.Core.Bool.{true, false}
use mathlib.Core.List.{List, [], ◌∷◌}
use Prim.Native.Nat.{ℕ, zero, suc, ◌+◌, ◌-◌, ◌*◌, ◌^◌, ◌≤◌, ◌<◌, min}
use native.Mathlib.Nat.{mul-pos}
use native.Mathlib.Omega.{arith}
use borrow.Author.Tests.{eq-eqb, ne_eqb, eqb-true, eqb-false}
use lib.Dec.{eqb}
use lib.ListN.{length, take, drop, get_or, length-drop}
use lib.Pow.{pow_pos}
use lib.Seq.{take_all, take-take, get_or-take, get_or-drop, length-take-le}
use Rattle.limbs.specs.Value.{value, InUse}
use Rattle.limbs.proofs.Value.{value_take, value_split}

-- limbs that are all 0
value_zero : (l : List ℕ) → ((k : ℕ) → k < length l → get_or l k 0 ≡ 0) → value l ≡ 0
unfolding value
value_zero [] z = refl
value_zero (x ∷ l) z = omega (arith, z 0 (omega arith), value_zero l (λ k h. z (suc k) (omega arith)))

-- the limbs from j on are 0
pub value_above : (l : List ℕ) (j : ℕ) → j ≤ length l → ((k : ℕ) → j ≤ k → k < length l → get_or l k 0 ≡ 0) → value (take j l) ≡ value l
value_above l j h z =
    let d : value (drop j l) ≡ 0 = value_zero (drop j l) (λ k g. get_or-drop j l k 0 ∙ z (j + k) (omega arith) (omega (arith, length-drop j l))) in
    let w : value (drop j l) * 2 ^ (32 * j) ≡ 0 * 2 ^ (32 * j) = ap (λ (n : ℕ). n * 2 ^ (32 * j)) d in
    omega (arith, value_split l j h)

-- the number is 0 where no limb is in use
pub zero_unused : (l : List ℕ) (r : ℕ) → (r ≤ length l) × (value (take r l) ≡ value l) × InUse r l → eqb r 0 ≡ eqb (value l) 0
unfolding value
zero_unused l zero u = sym (eq-eqb (value l) 0 (sym u.1))
zero_unused l (suc r) u =
    let e : suc r - 1 ≡ r = omega arith in
    let p : 0 < get_or l (suc r - 1) 0 = u.2 (omega arith) in
    let m : 0 < get_or l r 0 * 2 ^ (32 * r) = mul-pos (rw e at p) (pow_pos (32 * r)) in
    let v : value (take (suc r) l) ≡ value (take r l) + get_or l r 0 * 2 ^ (32 * r) = value_take l r u.0 in
    ne_eqb (suc r) 0 (λ z. omega arith) ∙ sym (ne_eqb (value l) 0 (λ z. omega arith))

-- what `in_use` says of the first n limbs, said of the whole slice
pub use_part : (l : List ℕ) (n r : ℕ) → n ≤ length l → (r ≤ length (take n l)) × (value (take r (take n l)) ≡ value (take n l)) × InUse r (take n l)
    → (value (take r l) ≡ value (take n l)) × (r ≤ n) × InUse r l
use_part l n r h u =
    let b : r ≤ n = omega (arith, length-take-le n l h) in
    (rw (take-take r n l b) at u.1, b, λ p. rw (get_or-take n l (r - 1) 0 (omega arith)) at (u.2 p))

-- what a caller of `is_zero` learns
pub zero_of : (v : ℕ) → true ≡ eqb v 0 → v ≡ 0
zero_of v e = eqb-true v 0 (sym e)

pub some_of : (v : ℕ) → false ≡ eqb v 0 → 0 < v
some_of v e = let z : v ≡ 0 → ⊥ = eqb-false v 0 (sym e) in omega arith

pub number_none : (l : List ℕ) → length l ≡ 0 → 0 ≡ min 18446744073709551615 (value l)
unfolding value
number_none [] h = omega arith
number_none (x ∷ l) h = omega arith

pub number_one : (l : List ℕ) → length l ≡ 1 → get_or l 0 0 < 4294967296 → get_or l 0 0 ≡ min 18446744073709551615 (value l)
unfolding value
number_one [] h b = omega arith
number_one (x ∷ []) h b = omega arith
number_one (x ∷ y ∷ l) h b = omega arith

pub number_more : (l : List ℕ) → 2 ≤ length l → value l ≡ get_or l 0 0 + get_or l 1 0 * 4294967296 + 18446744073709551616 * value (take (length l - 2) (drop 2 l))
unfolding value
number_more [] h = omega arith
number_more (x ∷ []) h = omega arith
number_more (x ∷ y ∷ l) h =
    let e : value (take (suc (suc (length l)) - 2) l) ≡ value l = ap value (take_all (suc (suc (length l)) - 2) l (omega arith)) in
    omega arith
