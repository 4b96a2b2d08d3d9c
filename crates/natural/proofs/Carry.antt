-- Laws on the loops from the lowest limb up; l is the list so far, l₀ the list at entry.
--   Worked: Carried, Borrowed         the limbs below i are worked on, with a carry into limb i, or a borrow from it
--   start, carried_again              `times_add`: before the loop, and after a turn
--   borrowed_again                    after a turn that takes away; carried_end, borrowed_end: where no limb is left
--   Columns                           a number is added to the limbs below i, or taken away
--   columns_start, -again             `columns`: before the loops, and after a turn
--   columns_through, -end, -stopped   where `other` has no limb more, at the end, and where nothing is carried any more
--   above, weight_above               a call worked on the limbs from n on
use mathlib.Core.Path.{◌≡◌, refl, sym, ap, ◌∙◌}
use mathlib.Core.Bool.{Bool, true, false, cond}
use mathlib.Core.List.{List, ◌++◌}
use Prim.Native.Nat.{ℕ, ◌+◌, ◌-◌, ◌*◌, ◌^◌, ◌≤◌, ◌<◌}
use native.Mathlib.Omega.{arith}
use lib.ListN.{length, take, drop, get_or, set, length-drop, length-set}
use lib.Seq.{get_or-drop, drop-drop, drop-set-lt, take_all}
use Rattle.limbs.specs.Value.{value}
use Rattle.limbs.proofs.Value.{weight_next, weight_add, value_next, value_store, value_same, value_split, value_back, part_from}

-- the limbs below i are worked on, those from i on are as at entry: with s the former are m times those at entry, and t
pub record Worked (l l₀ : List ℕ) (m i s t : ℕ) : Type 0 where
  pub within : i ≤ length l
  pub long : length l ≡ length l₀
  pub rest : drop i l ≡ drop i l₀
  pub sum : value (take i l) + s ≡ value (take i l₀) * m + t

-- with a carry c into limb i
abbrev pub Carried : List ℕ → List ℕ → ℕ → ℕ → ℕ → ℕ → Type 0
Carried l l₀ m i c t = Worked l l₀ m i (c * 2 ^ (32 * i)) t

-- with a borrow b from limb i
abbrev pub Borrowed : List ℕ → List ℕ → ℕ → ℕ → ℕ → Type 0
Borrowed l l₀ i b s = Worked l l₀ 1 i s (b * 2 ^ (32 * i))

pub start : (l : List ℕ) (m s t : ℕ) → s ≡ t → Worked l l m 0 s t
unfolding value
start l m s t e = record { within = omega arith; long = refl; rest = refl; sum = omega arith }

same_at : (l l₀ : List ℕ) (i : ℕ) → drop i l ≡ drop i l₀ → get_or l i 0 ≡ get_or l₀ i 0
same_at l l₀ i e = ap (λ (n : ℕ). get_or l n 0) (omega arith) ∙ sym (get_or-drop i l 0 0) ∙ ap (λ (z : List ℕ). get_or z 0 0) e ∙ get_or-drop i l₀ 0 0 ∙ ap (λ (n : ℕ). get_or l₀ n 0) (omega arith)

drop_again : (l l₀ : List ℕ) (i x : ℕ) → drop i l ≡ drop i l₀ → drop (i + 1) (set l i x) ≡ drop (i + 1) l₀
drop_again l l₀ i x e = drop-set-lt (i + 1) l i x (omega arith) ∙ sym (drop-drop 1 i l) ∙ ap (λ (z : List ℕ). drop 1 z) e ∙ drop-drop 1 i l₀

-- limb i becomes x, with a it is m times what it was, and d
again : {l l₀ : List ℕ} {m i s t : ℕ} (x a d s' t' : ℕ) → Worked l l₀ m i s t → i < length l → x + a ≡ get_or l i 0 * m + d → s + a * 2 ^ (32 * i) + t' ≡ s' + (t + d * 2 ^ (32 * i))
    → Worked (set l i x) l₀ m (i + 1) s' t'
again {l} {l₀} {m} {i} x a d s' t' v h e f =
    let p : value (take (i + 1) (set l i x)) ≡ value (take i l) + x * 2 ^ (32 * i) = value_store l i x h in
    let q : value (take (i + 1) l₀) * m ≡ (value (take i l₀) + get_or l₀ i 0 * 2 ^ (32 * i)) * m = ap (λ (n : ℕ). n * m) (value_next l₀ i (omega arith)) in
    let w : (x + a) * 2 ^ (32 * i) ≡ (get_or l₀ i 0 * m + d) * 2 ^ (32 * i) = ap (λ (n : ℕ). n * 2 ^ (32 * i)) (e ∙ ap (λ (n : ℕ). n * m + d) (same_at l l₀ i v.rest)) in
    record { within = omega (arith, length-set l i x); long = length-set l i x ∙ v.long; rest = drop_again l l₀ i x v.rest; sum = omega arith }

pub carried_again : {l l₀ : List ℕ} {m i t : ℕ} (c x q y t' : ℕ) → Carried l l₀ m i c t → i < length l → x + 4294967296 * q ≡ get_or l i 0 * m + (y + c) → t' ≡ t + y * 2 ^ (32 * i)
    → Carried (set l i x) l₀ m (i + 1) q t'
carried_again {i = i} c x q y t' v h e f = again x (4294967296 * q) (y + c) (q * 2 ^ (32 * (i + 1))) t' v h e (omega (arith, weight_next q i))

pub borrowed_again : {l l₀ : List ℕ} {i s : ℕ} (b x q y s' : ℕ) → Borrowed l l₀ i b s → i < length l → x + y + b ≡ get_or l i 0 + 4294967296 * q → s' ≡ s + y * 2 ^ (32 * i)
    → Borrowed (set l i x) l₀ (i + 1) q s'
borrowed_again {i = i} b x q y s' v h e f = again x (y + b) (4294967296 * q) s' (q * 2 ^ (32 * (i + 1))) v h (omega arith) (omega (arith, weight_next q i))

-- what holds of the limbs below i holds of all of them where i is the length
whole : {l l₀ : List ℕ} {m i s t : ℕ} → Worked l l₀ m i s t → length l ≤ i → (i ≡ length l₀) × (value l + s ≡ value l₀ * m + t)
whole {l} {l₀} {m} {i} {s} {t} v h =
    let e : i ≡ length l₀ = omega arith in
    (e, rw (take_all i l h, take_all i l₀ (omega arith)) at v.sum)

pub carried_end : {l l₀ : List ℕ} {m i t : ℕ} (c : ℕ) → Carried l l₀ m i c t → length l ≤ i → value l + c * 2 ^ (32 * length l₀) ≡ value l₀ * m + t
carried_end {l} {l₀} c v h = let e = whole v h in rw e.0 at e.1

pub borrowed_end : {l l₀ : List ℕ} {i s : ℕ} (b : ℕ) → Borrowed l l₀ i b s → length l ≤ i → value l + s ≡ value l₀ + b * 2 ^ (32 * length l₀)
borrowed_end b v h = let e = whole v h in let f = rw e.0 at e.1 in omega arith

-- a number t is added to the limbs below i, with a carry c into limb i, or it is taken away from them, with a borrow
abbrev pub Columns : Bool → List ℕ → List ℕ → ℕ → ℕ → ℕ → Type 0
Columns away l l₀ i c t = Worked l l₀ 1 i (cond away t (c * 2 ^ (32 * i))) (cond away (c * 2 ^ (32 * i)) t)

pub columns_start : (away : Bool) (l : List ℕ) → Columns away l l 0 0 0
columns_start false l = start l 1 0 0 refl
columns_start true l = start l 1 0 0 refl

pub columns_again : (away : Bool) {l l₀ : List ℕ} {i : ℕ} (c t x q y t' : ℕ) → Columns away l l₀ i c t → i < length l → x + cond away (y + c) (4294967296 * q) ≡ get_or l i 0 + cond away (4294967296 * q) (y + c) → t' ≡ t + y * 2 ^ (32 * i)
    → Columns away (set l i x) l₀ (i + 1) q t'
columns_again false c t x q y t' v h e f = carried_again c x q y t' v h (e ∙ omega arith) f
columns_again true c t x q y t' v h e f = borrowed_again c x q y t' v h (omega arith) f

pub columns_end : (away : Bool) {l l₀ : List ℕ} {i : ℕ} (c t : ℕ) → Columns away l l₀ i c t → length l ≤ i → value l + cond away t (c * 2 ^ (32 * length l₀)) ≡ value l₀ + cond away (c * 2 ^ (32 * length l₀)) t
columns_end false c t v h = omega (arith, carried_end c v h)
columns_end true c t v h = omega (arith, borrowed_end c v h)

-- all limbs of o are worked on
pub columns_through : (away : Bool) (l l₀ o : List ℕ) (i c : ℕ) → Columns away l l₀ i c (value (take i o)) → i ≡ length o → Columns away l l₀ (length o) c (value o)
columns_through away l l₀ o i c v e =
    let f : value (take i o) ≡ value o = ap value (take_all i o (omega arith)) in
    rw (← e, ← f) v

-- nothing is carried any more
pub columns_stopped : (away : Bool) {l l₀ : List ℕ} {i : ℕ} (c t : ℕ) → Columns away l l₀ i c t → c ≡ 0 → value l + cond away t (0 * 2 ^ (32 * length l₀)) ≡ value l₀ + cond away (0 * 2 ^ (32 * length l₀)) t
columns_stopped away {l} {l₀} {i} c t v z = go away v (ap (λ (n : ℕ). n * 2 ^ (32 * i)) z) (value_same l l₀ i v.within v.long v.rest)
  where
    go : (away : Bool) → Columns away l l₀ i c t → c * 2 ^ (32 * i) ≡ 0 * 2 ^ (32 * i) → value l + value (take i l₀) ≡ value l₀ + value (take i l) → value l + cond away t (0 * 2 ^ (32 * length l₀)) ≡ value l₀ + cond away (0 * 2 ^ (32 * length l₀)) t
    go false v f e = omega arith
    go true v f e = omega arith

-- a call changed the part of a slice from n on to f; s and t as its contract has them
pub above : (l f : List ℕ) (n s t : ℕ) → n ≤ length l → value f + s ≡ value (take (length l - n) (drop n l)) + t
    → value (take n l ++ (f ++ drop (length l - n) (drop n l))) + s * 2 ^ (32 * n) ≡ value l + t * 2 ^ (32 * n)
above l f n s t h e =
    let g : (value f + s) * 2 ^ (32 * n) ≡ (value (drop n l) + t) * 2 ^ (32 * n) = ap (λ (k : ℕ). k * 2 ^ (32 * n)) (rw (part_from l n) at e) in
    omega (arith, value_back l f n h, value_split l n h)

-- the weight above the top limb of that part
pub weight_above : (l : List ℕ) (n r : ℕ) → n ≤ length l → r * 2 ^ (32 * length (take (length l - n) (drop n l))) * 2 ^ (32 * n) ≡ r * 2 ^ (32 * length l)
weight_above l n r h =
    let e : length (drop n l) + n ≡ length l = omega (arith, length-drop n l) in
    let w : r * 2 ^ (32 * (length (drop n l) + n)) ≡ r * (2 ^ (32 * length (drop n l)) * 2 ^ (32 * n)) = ap (λ (k : ℕ). r * k) (weight_add (length (drop n l)) n) in
    rw (part_from l n) (omega (arith, ap (λ (k : ℕ). r * 2 ^ (32 * k)) e))
