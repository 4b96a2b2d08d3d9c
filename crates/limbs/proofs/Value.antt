-- Laws on `value`. The weight of limb i is 2 ^ (32 * i).
--   weight_suc, -next, -add, -split                  weights
--   value_take, value_next, value_set, value_store   one more limb at the top
--   value_drop, value_drop_set, value_none           one more limb at the bottom
--   value_append, value_split, value_same            parts of a list
--   part_from, value_front, value_back               a part of a slice, and the slice after a call changed that part
--   store_two, store_three                           a number of two limbs, or a limb and two, stored
--   value_below, value_bound                         sizes
--   front_stays                                      limbs that are not written
--   value_injective                                  what contracts on `value` say of each limb
-- What limbs hold is in Held; what a loop does to a value is in Carry and Division of crate natural.
use mathlib.Core.Path.{◌≡◌, refl, sym, ap, ◌∙◌}
use mathlib.Core.List.{List, [], ◌∷◌, ◌++◌}
use Prim.Native.Nat.{ℕ, zero, suc, ◌+◌, ◌-◌, ◌*◌, ◌/◌, ◌%◌, ◌^◌, ◌≤◌, ◌<◌}
use native.Mathlib.Nat.{le_of_suc-le-suc}
use native.Mathlib.Omega.{arith}
use native.Mathlib.Numerals.{add-one}
use lib.ListN.{length, take, drop, get_or, set, drop_of_length-le, take-append-drop, length-drop, length-set}
use lib.Pow.{pow-add, pow_pos}
use lib.Seq.{drop-cons, lt-length-set, get_or-set_same, drop-set-lt, take_all, take-length, take_at, length-take-le, drop-append-add, drop-drop}
use Rattle.limbs.specs.Value.{value}

pub weight_suc : (i : ℕ) → 2 ^ (32 * suc i) ≡ 4294967296 * 2 ^ (32 * i)
weight_suc i = ap (λ (n : ℕ). 2 ^ n) (omega arith) ∙ pow-add 2 32 (32 * i)

pub weight_next : (q i : ℕ) → q * 2 ^ (32 * (i + 1)) ≡ 4294967296 * q * 2 ^ (32 * i)
weight_next q i =
    let w : q * 2 ^ (32 * suc i) ≡ q * (4294967296 * 2 ^ (32 * i)) = ap (λ (n : ℕ). q * n) (weight_suc i) in
    rw add-one (omega arith)

pub weight_add : (i j : ℕ) → 2 ^ (32 * (i + j)) ≡ 2 ^ (32 * i) * 2 ^ (32 * j)
weight_add i j = ap (λ (n : ℕ). 2 ^ n) (omega arith) ∙ pow-add 2 (32 * i) (32 * j)

-- 2 ^ k by the limb that it falls in
pub weight_split : (k : ℕ) → 2 ^ (32 * (k / 32)) * 2 ^ (k % 32) ≡ 2 ^ k
weight_split k =
    let e : 32 * (k / 32) + k % 32 ≡ k = omega arith in
    sym (pow-add 2 (32 * (k / 32)) (k % 32)) ∙ ap (λ (n : ℕ). 2 ^ n) e

pub value_take : (l : List ℕ) (i : ℕ) → i < length l → value (take (suc i) l) ≡ value (take i l) + get_or l i 0 * 2 ^ (32 * i)
unfolding value
value_take [] i h = omega arith
value_take (x ∷ xs) zero h = omega arith
value_take (x ∷ xs) (suc i) h =
    let r : value (take (suc i) xs) ≡ value (take i xs) + get_or xs i 0 * 2 ^ (32 * i) = value_take xs i (le_of_suc-le-suc h) in
    let w : get_or xs i 0 * 2 ^ (32 * suc i) ≡ get_or xs i 0 * (4294967296 * 2 ^ (32 * i)) = ap (λ (n : ℕ). get_or xs i 0 * n) (weight_suc i) in
    omega arith

-- the same, at the code's i + 1
pub value_next : (l : List ℕ) (i : ℕ) → i < length l → value (take (i + 1) l) ≡ value (take i l) + get_or l i 0 * 2 ^ (32 * i)
value_next l i h = rw add-one (value_take l i h)

-- of a list in which the limb was stored
pub value_set : (l : List ℕ) (i x : ℕ) → i < length l → value (take (suc i) (set l i x)) ≡ value (take i l) + x * 2 ^ (32 * i)
unfolding value
value_set [] i x h = omega arith
value_set (y ∷ ys) zero x h = omega arith
value_set (y ∷ ys) (suc i) x h =
    let r : value (take (suc i) (set ys i x)) ≡ value (take i ys) + x * 2 ^ (32 * i) = value_set ys i x (le_of_suc-le-suc h) in
    let w : x * 2 ^ (32 * suc i) ≡ x * (4294967296 * 2 ^ (32 * i)) = ap (λ (n : ℕ). x * n) (weight_suc i) in
    omega arith

-- the same, at the code's i + 1
pub value_store : (l : List ℕ) (i x : ℕ) → i < length l → value (take (i + 1) (set l i x)) ≡ value (take i l) + x * 2 ^ (32 * i)
value_store l i x h = rw add-one (value_set l i x h)

pub value_drop : (l : List ℕ) (i : ℕ) → i < length l → value (drop i l) ≡ get_or l i 0 + 4294967296 * value (drop (suc i) l)
unfolding value
value_drop l i h = rw (drop-cons l i 0 h) refl

pub value_drop_set : (l : List ℕ) (i x : ℕ) → i < length l → value (drop i (set l i x)) ≡ x + 4294967296 * value (drop (suc i) l)
value_drop_set l i x h =
    let a : value (drop i (set l i x)) ≡ get_or (set l i x) i 0 + 4294967296 * value (drop (suc i) (set l i x)) = value_drop (set l i x) i (lt-length-set l i x h) in
    a ∙ ap (λ (n : ℕ). n + 4294967296 * value (drop (suc i) (set l i x))) (get_or-set_same l i x 0 h) ∙ ap (λ (z : List ℕ). x + 4294967296 * value z) (drop-set-lt (suc i) l i x (omega arith))

pub value_none : (l : List ℕ) (i : ℕ) → length l ≤ i → value (drop i l) ≡ 0
unfolding value
value_none l i h = rw (drop_of_length-le l h) refl

pub value_append : (l r : List ℕ) → value (l ++ r) ≡ value l + value r * 2 ^ (32 * length l)
unfolding value
value_append [] r = omega arith
value_append (x ∷ l) r =
    let e : value (l ++ r) ≡ value l + value r * 2 ^ (32 * length l) = value_append l r in
    let w : value r * 2 ^ (32 * suc (length l)) ≡ value r * (4294967296 * 2 ^ (32 * length l)) = ap (λ (n : ℕ). value r * n) (weight_suc (length l)) in
    omega arith

-- the limbs below j and those from j on
pub value_split : (l : List ℕ) (j : ℕ) → j ≤ length l → value l ≡ value (drop j l) * 2 ^ (32 * j) + value (take j l)
value_split l j h =
    let e : value (take j l ++ drop j l) ≡ value (take j l) + value (drop j l) * 2 ^ (32 * length (take j l)) = value_append (take j l) (drop j l) in
    let w : value (drop j l) * 2 ^ (32 * length (take j l)) ≡ value (drop j l) * 2 ^ (32 * j) = ap (λ (n : ℕ). value (drop j l) * 2 ^ (32 * n)) (length-take-le j l h) in
    let v : value (take j l ++ drop j l) ≡ value l = ap value (take-append-drop j l) in
    omega arith

-- the part of a slice from n on, as a borrow of it has it
pub part_from : (l : List ℕ) (n : ℕ) → take (length l - n) (drop n l) ≡ drop n l
part_from l n = take_all (length l - n) (drop n l) (omega (arith, length-drop n l))

-- the first n limbs become e
pub value_front : (l e : List ℕ) (n : ℕ) → n ≤ length l → length e ≡ length (take n l) → (value (take n (e ++ drop n l)) ≡ value e) × (value (e ++ drop n l) + value (take n l) ≡ value l + value e)
value_front l e n h len =
    let t : length (take n l) ≡ n = length-take-le n l h in
    let a : value (e ++ drop n l) ≡ value e + value (drop n l) * 2 ^ (32 * length e) = value_append e (drop n l) in
    let w : value (drop n l) * 2 ^ (32 * length e) ≡ value (drop n l) * 2 ^ (32 * n) = ap (λ (k : ℕ). value (drop n l) * 2 ^ (32 * k)) (len ∙ t) in
    let b : value l ≡ value (drop n l) * 2 ^ (32 * n) + value (take n l) = value_split l n h in
    (ap value (take_at e (drop n l) n (len ∙ t)), omega arith)

-- the limbs from n on become f
pub value_back : (l f : List ℕ) (n : ℕ) → n ≤ length l → value (take n l ++ (f ++ drop (length l - n) (drop n l))) ≡ value (take n l) + value f * 2 ^ (32 * n)
unfolding value
value_back l f n h =
    let z : drop (length l - n) (drop n l) ≡ [] = drop_of_length-le (drop n l) {i = length l - n} (omega (arith, length-drop n l)) in
    let e : value (f ++ []) ≡ value f + value [] * 2 ^ (32 * length f) = value_append f [] in
    let a : value (take n l ++ (f ++ [])) ≡ value (take n l) + value (f ++ []) * 2 ^ (32 * length (take n l)) = value_append (take n l) (f ++ []) in
    let e' : value (f ++ []) ≡ value f = omega arith in
    let w : value (f ++ []) * 2 ^ (32 * length (take n l)) ≡ value f * 2 ^ (32 * n) = (λ j. e' j * 2 ^ (32 * length-take-le n l h j)) in
    rw z (omega arith)

pub store_two : (l : List ℕ) (n k lo hi : ℕ) → n + 2 ≤ length l → lo ≡ k % 4294967296 → hi ≡ k / 4294967296 → value (take (n + 2) (set (set l n lo) (n + 1) hi)) ≡ value (take n l) + k * 2 ^ (32 * n)
store_two l n k lo hi h el eh =
    let a : value (take (suc n) (set l n lo)) ≡ value (take n l) + lo * 2 ^ (32 * n) = value_set l n lo (omega arith) in
    let b : value (take (suc (suc n)) (set (set l n lo) (suc n) hi)) ≡ value (take (suc n) (set l n lo)) + hi * 2 ^ (32 * suc n) =
    value_set (set l n lo) (suc n) hi (lt-length-set l n lo (omega arith)) in
    let w : hi * 2 ^ (32 * suc n) ≡ hi * (4294967296 * 2 ^ (32 * n)) = ap (λ (x : ℕ). hi * x) (weight_suc n) in
    let s : k * 2 ^ (32 * n) ≡ (lo + 4294967296 * hi) * 2 ^ (32 * n) = ap (λ (x : ℕ). x * 2 ^ (32 * n)) (omega arith) in
    let two : n + 2 ≡ suc (suc n) = omega arith in
    rw (two, add-one) (omega arith)

pub store_three : (l : List ℕ) (n x k lo hi : ℕ) → n + 3 ≤ length l → lo ≡ k % 4294967296 → hi ≡ k / 4294967296
    → value (take (n + 3) (set (set (set l n x) (n + 1) lo) (n + 2) hi)) ≡ value (take n l) + (x + 4294967296 * k) * 2 ^ (32 * n)
store_three l n x k lo hi h el eh =
    let a : value (take (n + 1) (set l n x)) ≡ value (take n l) + x * 2 ^ (32 * n) = value_store l n x (omega arith) in
    let b : value (take (n + 1 + 2) (set (set (set l n x) (n + 1) lo) (n + 1 + 1) hi)) ≡ value (take (n + 1) (set l n x)) + k * 2 ^ (32 * (n + 1)) =
    store_two (set l n x) (n + 1) k lo hi (omega (arith, length-set l n x)) el eh in
    let w : k * 2 ^ (32 * (n + 1)) ≡ 4294967296 * k * 2 ^ (32 * n) = weight_next k n in
    let e : n + 1 + 2 ≡ n + 3 = omega arith in
    let d : n + 1 + 1 ≡ n + 2 = omega arith in
    let b' = rw (e, d) at b in
    omega arith

-- two lists that agree from i on differ by the limbs below it
pub value_same : (l l₀ : List ℕ) (i : ℕ) → i ≤ length l → length l ≡ length l₀ → drop i l ≡ drop i l₀ → value l + value (take i l₀) ≡ value l₀ + value (take i l)
value_same l l₀ i h n e =
    let a : value l ≡ value (drop i l) * 2 ^ (32 * i) + value (take i l) = value_split l i h in
    let b : value l₀ ≡ value (drop i l₀) * 2 ^ (32 * i) + value (take i l₀) = value_split l₀ i (omega arith) in
    let d : value (drop i l) * 2 ^ (32 * i) ≡ value (drop i l₀) * 2 ^ (32 * i) = ap (λ (z : List ℕ). value z * 2 ^ (32 * i)) e in
    omega arith

pub value_below : (l : List ℕ) (j : ℕ) → ((i : ℕ) → get_or l i 0 < 4294967296) → value (take j l) < 2 ^ (32 * j)
unfolding value
value_below l zero h = omega arith
value_below [] (suc j) h = pow_pos (32 * suc j)
value_below (x ∷ l) (suc j) h = omega (arith, h 0, value_below l j (λ i. h (suc i)), weight_suc j)

-- of all limbs
pub value_bound : (l : List ℕ) → ((i : ℕ) → get_or l i 0 < 4294967296) → value l < 2 ^ (32 * length l)
value_bound l h = rw (take-length l) at (value_below l (length l) h)

-- Limbs as many, with the same value, are the same limbs: a contract on the value of a slice says every limb of it.
pub value_injective : (l m : List ℕ) → length l ≡ length m → ((i : ℕ) → get_or l i 0 < 4294967296) → ((i : ℕ) → get_or m i 0 < 4294967296) → value l ≡ value m → l ≡ m
unfolding value
value_injective [] [] n f g e = refl
value_injective [] (y ∷ m) n f g e = absurd (omega arith)
value_injective (x ∷ l) [] n f g e = absurd (omega arith)
value_injective (x ∷ l) (y ∷ m) n f g e =
    let a : x < 4294967296 = f 0 in
    let b : y < 4294967296 = g 0 in
    let h : x ≡ y = omega arith in
    let t : value l ≡ value m = omega arith in
    let r : l ≡ m = value_injective l m (omega arith) (λ i. f (suc i)) (λ i. g (suc i)) t in
    (λ j. h j ∷ r j)

-- ── limbs that are not written

-- the first n limbs of l became e, and those from r on stay
pub front_stays : (l e : List ℕ) (n r : ℕ) → n ≤ length l → length e ≡ length (take n l) → n ≤ r → drop r (e ++ drop n l) ≡ drop r l
front_stays l e n r h len m =
    let j : length e + (r - n) ≡ r = omega (arith, length-take-le n l h) in
    let k : n + (r - n) ≡ r = omega arith in
    ap (λ (z : ℕ). drop z (e ++ drop n l)) (sym j) ∙ drop-append-add e (drop n l) (r - n) ∙ drop-drop (r - n) n l ∙ ap (λ (z : ℕ). drop z l) k
