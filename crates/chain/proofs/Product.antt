-- Laws on products.
--   grow_none, grow_one, grow_two   `grow`: the carry takes no limb, or one or two, the top one not 0
use mathlib.Core.Path.{◌≡◌, ap, ◌∙◌}
use mathlib.Core.List.{List, ◌++◌}
use Prim.Native.Nat.{ℕ, ◌+◌, ◌-◌, ◌*◌, ◌/◌, ◌%◌, ◌^◌, ◌≤◌, ◌<◌}
use native.Mathlib.Omega.{arith}
use lib.ListN.{length, take, drop, get_or, set, length-set}
use lib.Seq.{length-take-le, length_front, get_or-set_same, drop-set-lt}
use Rattle.limbs.specs.Value.{value}
use Rattle.limbs.proofs.Value.{value_front, value_store, store_two, front_stays}

-- a limb that is not 0 is stored as the top one of r
top_stored : (l : List ℕ) (m r x : ℕ) → m < length l → r - 1 ≡ m → 0 < x → 0 < get_or (set l m x) (r - 1) 0
top_stored l m r x h e p = rw (e, get_or-set_same l m x 0 h) p

-- the first n limbs of l became e, and k is carried out of them
module _ (l e : List ℕ) (n T k : ℕ) (len : length e ≡ length (take n l)) (inv : value e + k * 2 ^ (32 * length (take n l)) ≡ T) where
  front : n ≤ length l → value (take n (e ++ drop n l)) + k * 2 ^ (32 * n) ≡ T
  front h =
      let a : value (take n (e ++ drop n l)) ≡ value e = (value_front l e n h len).0 in
      let w : k * 2 ^ (32 * length (take n l)) ≡ k * 2 ^ (32 * n) = ap (λ (x : ℕ). k * 2 ^ (32 * x)) (length-take-le n l h) in
      omega arith

  pub grow_none : n ≤ length l → k ≡ 0 → value (take n (e ++ drop n l)) ≡ T
  grow_none h z =
      let w : k * 2 ^ (32 * n) ≡ 0 * 2 ^ (32 * n) = ap (λ (x : ℕ). x * 2 ^ (32 * n)) z in
      omega (arith, front h)

  pub grow_one : (lo : ℕ) → n < length l → lo ≡ k % 4294967296 → (k ≡ 0 → ⊥) → k < 4294967296 → (value (take (n + 1) (set (e ++ drop n l) n lo)) ≡ T) × (0 < get_or (set (e ++ drop n l) n lo) (n + 1 - 1) 0) × (drop (n + 1) (set (e ++ drop n l) n lo) ≡ drop (n + 1) l)
  grow_one lo h el z hk =
      let long : n < length (e ++ drop n l) = omega (arith, length_front l e n len) in
      let a : value (take (n + 1) (set (e ++ drop n l) n lo)) ≡ value (take n (e ++ drop n l)) + lo * 2 ^ (32 * n) = value_store (e ++ drop n l) n lo long in
      let w : lo * 2 ^ (32 * n) ≡ k * 2 ^ (32 * n) = ap (λ (x : ℕ). x * 2 ^ (32 * n)) (omega arith) in
      (omega (arith, front (omega arith)), top_stored (e ++ drop n l) n (n + 1) lo long (omega arith) (omega arith), drop-set-lt (n + 1) (e ++ drop n l) n lo (omega arith) ∙ front_stays l e n (n + 1) (omega arith) len (omega arith))

  pub grow_two : (lo hi : ℕ) → n + 2 ≤ length l → lo ≡ k % 4294967296 → hi ≡ k / 4294967296 → 4294967296 ≤ k
      → (value (take (n + 2) (set (set (e ++ drop n l) n lo) (n + 1) hi)) ≡ T) × (0 < get_or (set (set (e ++ drop n l) n lo) (n + 1) hi) (n + 2 - 1) 0) × (drop (n + 2) (set (set (e ++ drop n l) n lo) (n + 1) hi) ≡ drop (n + 2) l)
  grow_two lo hi h el eh hk =
      let long : n + 2 ≤ length (e ++ drop n l) = omega (arith, length_front l e n len) in (
        store_two (e ++ drop n l) n k lo hi long el eh ∙ front (omega arith),
        top_stored (set (e ++ drop n l) n lo) (n + 1) (n + 2) hi (omega (arith, length-set (e ++ drop n l) n lo)) (omega arith) (omega arith),
        drop-set-lt (n + 2) (set (e ++ drop n l) n lo) (n + 1) hi (omega arith) ∙ drop-set-lt (n + 2) (e ++ drop n l) n lo (omega arith) ∙ front_stays l e n (n + 2) (omega arith) len (omega arith),
      )
