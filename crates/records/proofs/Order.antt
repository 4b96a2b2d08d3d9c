-- The worst of the first n numbers by any order on numbers: what that is, `Worst`; that `worst_by` names it, `worst_is`, and that nothing else is it, `worst_unique`.
-- From n numbers to one more: `worst_first`, `worst_still`, `worst_over`. What an order must be for this: `Ranking`; the order by figures is one: `by_figures`.
use mathlib.Core.Path.{◌≡◌, refl, sym, ◌∙◌}
use mathlib.Core.Bool.{Bool, true, false, cond, false≢true}
use Prim.Native.Nat.{ℕ, zero, suc, ◌+◌, ◌≤◌, ◌<◌}
use native.Mathlib.Nat.{not-suc-le-zero}
use native.Mathlib.Numerals.{add-one}
use native.Mathlib.Omega.{arith}
use borrow.Author.Count.{below_more}
use borrow.Author.Tests.{lt-ltb, le-ltb, ltb-true, ltb-false}
use lib.Dec.{ltb}
use Rattle.records.specs.Lines.{outranks, worst_by}

pub record Worst (R : ℕ → ℕ → Bool) (n k : ℕ) : Type 0 where
  pub there : k < n
  pub none_above : (j : ℕ) → j < n → R j k ≡ false
  pub above_earlier : (j : ℕ) → j < k → R k j ≡ true

module _ {R : ℕ → ℕ → Bool} where
  not_earlier : {n j k : ℕ} → Worst R n j → Worst R n k → j < k → ⊥
  not_earlier {k = k} p q h = false≢true (sym (p.none_above k q.there) ∙ q.above_earlier _ h)

  pub worst_unique : {n j k : ℕ} → Worst R n j → Worst R n k → j ≡ k
  worst_unique p q = let a = not_earlier p q in let b = not_earlier q p in omega arith

  -- with more that do not outrank it
  pub worst_still : {n m w : ℕ} → Worst R n w → n ≤ m → ((j : ℕ) → n ≤ j → j < m → R j w ≡ false) → Worst R m w
  worst_still {n} {m} {w} p h rest = record {
    there = omega (arith, p.there);
    none_above = λ j i. go j i (ltb j n) refl;
    above_earlier = p.above_earlier;
  }
    where
      go : (j : ℕ) → j < m → (t : Bool) → ltb j n ≡ t → R j w ≡ false
      go j i true e = p.none_above j (ltb-true j n e)
      go j i false e = rest j (ltb-false j n e) i

-- ── one more that does

pub record Ranking (R : ℕ → ℕ → Bool) : Type 0 where
  pub not_itself : (k : ℕ) → R k k ≡ false
  pub one_way : (j k : ℕ) → R j k ≡ true → R k j ≡ false
  pub above_lower : (i j k : ℕ) → R i k ≡ true → R j k ≡ false → R i j ≡ true

module _ {R : ℕ → ℕ → Bool} (r : Ranking R) where
  pub worst_first : Worst R 1 0
  worst_first = record { there = omega arith; none_above = λ j h. (let z : j ≡ 0 = omega arith in rw z (r.not_itself 0)); above_earlier = λ j h. absurd (not-suc-le-zero h) }

  -- it takes over
  pub worst_over : {n w : ℕ} → Worst R n w → R n w ≡ true → Worst R (n + 1) n
  worst_over {n} {w} p e =
      let o : (j : ℕ) → j < n → R n j ≡ true = λ j h. r.above_lower n j w e (p.none_above j h) in
      record { there = omega arith; none_above = below_more (λ j. R j n ≡ false) n (λ j h. r.one_way n j (o j h)) (r.not_itself n); above_earlier = o }

  worst_next : (n w : ℕ) → Worst R n w → (t : Bool) → R n w ≡ t → Worst R (n + 1) (cond t n w)
  worst_next n w p true e = worst_over p e
  worst_next n w p false e = worst_still p (omega arith) (λ j l h. (let z : j ≡ n = omega arith in rw z e))

  pub worst_is : (n : ℕ) → 0 < n → Worst R n (worst_by R n)
  unfolding worst_by
  worst_is zero h = absurd (not-suc-le-zero h)
  worst_is (suc zero) h = rw (r.not_itself 0) worst_first
  worst_is (suc (suc n)) h = let w = worst_by R (suc n) in rw (← add-one (suc n)) (worst_next (suc n) w (worst_is (suc n) (omega arith)) (R (suc n) w) refl)

pub by_figures : (f : ℕ → ℕ) → Ranking (outranks f)
by_figures f = record {
  not_itself = λ k. le-ltb (f k) (f k) (omega arith);
  one_way = λ j k e. le-ltb (f j) (f k) (omega (arith, ltb-true (f k) (f j) e));
  above_lower = λ i j k e h. lt-ltb (f j) (f i) (omega (arith, ltb-true (f k) (f i) e, ltb-false (f k) (f j) h));
}
