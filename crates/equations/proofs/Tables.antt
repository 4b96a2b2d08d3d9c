-- Folded constants of a table: one computed test over the whole table gives each row's rule.
--   constant_small                        each constant is at most 2 ^ 45
--   older_positive, older_same            numbers of the older houses with row 0
--   lost_fits                             a constant times the hundredths lost
--   figure_at, figure_sum_at, figure_lost what the code returns for a row is the exact value rounded up; `figure` and `figure_sum` are in Multiplied
use mathlib.Core.Path.{◌≡◌, ap}
use mathlib.Core.Bool.{true, ◌&&◌}
use mathlib.Core.List.{List, [], ◌∷◌}
use Prim.Native.Nat.{ℕ, zero, suc, ◌+◌, ◌-◌, ◌*◌, ◌^◌, ◌≤◌, ◌<◌}
use native.Mathlib.Nat.{add-zero, suc-add, add-suc, le_of_suc-le-suc, le_trans, mul-pos, mul-le-mul_right}
use native.Mathlib.Omega.{arith}
use lib.Dec.{leb, eqb}
use lib.ListN.{length, get_or}
use lib.Ieee.{Float}
use borrow.Author.Tests.{leb-true, eqb-true}
use Rattle.octets.proofs.Bools.{both}
use Rattle.product.specs.Ratio.{Ratio, ◌over◌, ◌·◌, ◌⊕◌, Same, rounded_up, rounded_u64}
use Rattle.equations.specs.Rows.{city_at}
use Rattle.product.specs.Chain.{Factor, number, quantity, chain}
use Rattle.equations.specs.Equations.{application_at, microgram, micrograms}
use Rattle.equations.specs.Constants.{numbers, folds, folds_all, folded_from}
use Rattle.product.proofs.Ratios.{AtMost}
use Rattle.equations.proofs.Chains.{others}
use Rattle.equations.proofs.Multiplied.{term, largest64, figure, figure_sum}

-- of the row that is the table's entry n
row_constant : (equation : ℕ → List (List Factor)) (d : ℕ) (ks : List ℕ) (i : ℕ) → folded_from equation d i ks ≡ true → (n : ℕ) → n < length ks
    → (get_or ks n 0 ≤ 2 ^ 45) × (folds_all (get_or ks n 0) d (equation (i + n)) ≡ true)
unfolding folded_from
row_constant equation d [] i e n h = absurd (omega arith)
row_constant equation d (k ∷ ks) i e zero h =
    let t = both (leb k (2 ^ 45)) (folds_all k d (equation i)) (both (leb k (2 ^ 45) && folds_all k d (equation i)) (folded_from equation d (suc i) ks) e).0 in
    rw add-zero (leb-true k (2 ^ 45) t.0, t.1)
row_constant equation d (k ∷ ks) i e (suc n) h =
    rw (add-suc i n, ← suc-add i n)
    (row_constant equation d ks (suc i) (both (leb k (2 ^ 45) && folds_all k d (equation i)) (folded_from equation d (suc i) ks) e).1 n (le_of_suc-le-suc h))

record Folded (k d : ℕ) (l : List Factor) : Type 0 where
  pub positive : 0 < (numbers l).lower
  pub same : Same (k over d) (microgram · numbers l)

folded : (k d : ℕ) (l : List Factor) → folds k d l ≡ true → Folded k d l
folded k d l e =
    let q = microgram · numbers l in
    let t = both (leb 1 q.lower) (eqb (k * q.lower) (q.upper * d)) e in
    let p = leb-true 1 q.lower t.0 in
    record { positive = omega arith; same = eqb-true (k * q.lower) (q.upper * d) t.1 }

-- the row's constant k, of a table that starts with row 1
module _ (equation : ℕ → List (List Factor)) (d : ℕ) (ks : List ℕ) (t : folded_from equation d 1 ks ≡ true) (row k : ℕ) (e : k ≡ get_or ks (row - 1) 0) (h : 1 ≤ row) (g : row ≤ length ks) where
  of_entry : (k ≤ 2 ^ 45) × (folds_all k d (equation row) ≡ true)
  of_entry =
      let a : 1 + (row - 1) ≡ row = omega arith in
      rw e (rw a at (row_constant equation d ks 1 t (row - 1) (omega arith)))

  pub constant_small : k ≤ 2 ^ 45
  constant_small = of_entry.0

  at_row : folds_all k d (equation row) ≡ true
  at_row = of_entry.1

  scaled : (m : ℕ) → 2 ^ 45 * m ≤ largest64 * d → k * m ≤ largest64 * d
  scaled m f = le_trans (mul-le-mul_right {m = k} {n = 2 ^ 45} m constant_small) f

-- an equation of one chain
pub figure_at : (l : ℕ → List Factor) (fs : List Factor) (ks : List ℕ) (row k d m r : ℕ) → r ≡ rounded_u64 (k over d · chain fs) → folded_from (λ i. l i ∷ []) d 1 ks ≡ true
    → k ≡ get_or ks (row - 1) 0 → 1 ≤ row → row ≤ length ks → chain fs ≡ chain (others (l row)) → 0 < d → AtMost (chain fs) m → 2 ^ 45 * m ≤ largest64 * d
    → r ≡ rounded_up (micrograms (l row ∷ []))
figure_at l fs ks row k d m r u t e h g o hd a f =
    let c = folded k d (l row) (both (folds k d (l row)) true (at_row (λ i. l i ∷ []) d ks t row k e h g)).0 in
    figure (l row) fs k d m r u o hd c.positive c.same a (scaled (λ i. l i ∷ []) d ks t row k e h g m f)

-- an equation of two chains
pub figure_sum_at : (l m : ℕ → List Factor) (fs : List Factor) (p q : Ratio) (ks : List ℕ) (row k d b r : ℕ) → r ≡ rounded_u64 (k over d · ((p ⊕ q) · chain fs))
    → folded_from (λ i. l i ∷ m i ∷ []) d 1 ks ≡ true → k ≡ get_or ks (row - 1) 0 → 1 ≤ row → row ≤ length ks → p · chain fs ≡ chain (others (l row)) → q · chain fs ≡ chain (others (m row))
    → 0 < d → 0 < p.lower → 0 < q.lower → 0 < (chain fs).lower → AtMost ((p ⊕ q) · chain fs) b → 2 ^ 45 * b ≤ largest64 * d
    → r ≡ rounded_up (micrograms (l row ∷ m row ∷ []))
figure_sum_at l m fs p q ks row k d b r u t e h g ol om hd hp hq hf a f =
    let s = both (folds k d (l row)) (folds k d (m row) && true) (at_row (λ i. l i ∷ m i ∷ []) d ks t row k e h g) in
    let x = folded k d (l row) s.0 in
    let y = folded k d (m row) (both (folds k d (m row)) true s.1).0 in
    figure_sum (l row) (m row) fs p q k d b r u ol om hd hp hq hf x.positive y.positive x.same y.same a (scaled (λ i. l i ∷ m i ∷ []) d ks t row k e h g b f)

-- ── the older houses of row 0, t days of which m are theirs

pub older_positive : (t m : ℕ) → 0 < t → 0 < m → 0 < 1 * (1 * (t * (m * 1)))
older_positive t m h g = let p : 0 < t * m = mul-pos h g in omega arith

pub older_same : (k t m : ℕ) → k ≡ 4000000000000 → k * (1 * (1 * (1 * (t * (m * 1))))) ≡ 1000000000 * (4000 * (m * (1 * (1 * 1)))) * t
older_same k t m e =
    let g : k * (t * m) ≡ 4000000000000 * (t * m) = ap (λ (n : ℕ). n * (t * m)) e in
    omega arith

-- ── the application, whose constants are for one hundredth lost

lost_across : (k h A a W v R r N : ℕ) → k * (1 * (a * (v * (r * (100 * (1 * (1000 * 1))))))) ≡ 1000000000 * (A * (W * (R * (1 * (N * (1 * 1)))))) * 1
    → h * k * (1 * (a * (v * (r * (100 * (1 * (1000 * 1))))))) ≡ 1000000000 * (A * (W * (R * (h * (N * (1 * 1)))))) * 1
lost_across k h A a W v R r N e =
    let g : k * (1 * (a * (v * (r * (100 * (1 * (1000 * 1))))))) * h ≡ 1000000000 * (A * (W * (R * (1 * (N * (1 * 1)))))) * 1 * h = ap (λ (n : ℕ). n * h) e in
    omega arith

pub lost_fits : (h k : ℕ) → h ≤ 5 → k ≤ 2 ^ 45 → h * k < 2 ^ 64
lost_fits h k l m =
    let p : h * k ≤ 5 * k = mul-le-mul_right {m = h} {n = 5} k l in
    omega arith

pub figure_lost : (x : Float) (fs : List Factor) (ks : List ℕ) (row k h r : ℕ) → r ≡ rounded_u64 ((h * k) over 1 · chain fs) → folded_from (λ i. application_at x (number 1 100) (city_at i)) 1 1 ks ≡ true
    → k ≡ get_or ks (row - 1) 0 → 1 ≤ row → row ≤ length ks → h ≤ 5 → chain fs ≡ chain (quantity x ∷ []) → AtMost (chain fs) 1
    → r ≡ rounded_up (micrograms (application_at x (number h 100) (city_at row)))
unfolding numbers others
figure_lost x fs ks row k h r u t e hr gr hh o a =
    let equation : ℕ → List (List Factor) = (λ i. application_at x (number 1 100) (city_at i)) in
    let c = city_at row in
    let g = folded k 1 (term (equation row)) (both (folds k 1 (term (equation row))) true (at_row equation 1 ks t row k e hr gr)).0 in
    let s = constant_small equation 1 ks t row k e hr gr in
    let p : h * k ≤ 5 * k = mul-le-mul_right {m = h} {n = 5} k hh in
    figure (term (application_at x (number h 100) c)) fs (h * k) 1 1 r u o (omega arith) g.positive
    (lost_across k h c.area.upper c.area.lower c.volume.upper c.volume.lower c.density.upper c.density.lower c.houses g.same) a (omega arith)
