-- A case without refusal has what its equation asks: `in_range`.
use mathlib.Core.Path.{◌≡◌, refl, ap}
use mathlib.Core.List.{List}
use Prim.Native.Nat.{ℕ, zero, suc, ◌*◌, ◌≤◌, ◌<◌}
use native.Mathlib.Omega.{arith}
use Rattle.binary64.specs.Quantity.{one}
use Rattle.binary64.proofs.Exact.{not_nan, whole_zero}
use Rattle.kinds.specs.Case.{kinds, kind_of, row_of, count_of, pattern_at, quantity_of, exact_of, exact_at, refusal_of}
use Rattle.scenario.specs.Decoding.{case_with, case_of_patterns, case_of, head_of}
use Rattle.kinds.specs.Ranges.{Between, ByRow, OwnUpTo, allowed_by}
use Rattle.kinds.proofs.KindTable.{each_kind, ◌then◌}
use Rattle.kinds.proofs.Ranges.{WithinRanges, accepted_exactly}
use Rattle.product.specs.Ratio.{Ratio}
use Rattle.product.specs.Ranges.{UpTo}
use Rattle.equations.specs.Ranges.{Within, InRange}
use Rattle.equations.proofs.Quantities.{exact_quantity}

-- ── a quantity within its limit

least : (n : ℕ) → 0 ≤ n
least n = omega arith

-- with the paper's rows it is zero
own_most : (row m p : ℕ) → OwnUpTo row m p → exact_of p ≤ m * one
own_most zero m p h = h.0 refl
own_most (suc row) m p h = rw (h.1 (λ (e : suc row ≡ 0). omega arith), whole_zero) (least (m * one))

-- T is 0 with the paper's rows
count_most : (row t m : ℕ) → ByRow row (Between 1 m t) (Between 0 0 t) → t ≤ m
count_most zero t m h = (h.0 refl).1
count_most (suc row) t m h = let z = (h.1 (λ (e : suc row ≡ 0). omega arith)).1 in omega arith

-- ── a case within the ranges

module _ (b : List ℕ) (w : WithinRanges b) where
  listed : (i : ℕ) → i < 6 → {m : ℕ} → exact_at b i ≤ m * one → UpTo m (quantity_of (pattern_at b i))
  listed i h l = let s = w.numbers i h in record { number = not_nan (pattern_at b i) s; most = rw (ap (λ (r : Ratio). r.upper) (exact_quantity (pattern_at b i) s)) l }

  own : (i : ℕ) → i < 6 → {m : ℕ} → OwnUpTo (row_of b) m (pattern_at b i) → UpTo m (quantity_of (pattern_at b i))
  own i h {m} l = listed i h (own_most (row_of b) m (pattern_at b i) l)

  of_its_kind : InRange (case_of b) (head_of b)
  unfolding InRange Within case_of_patterns case_with head_of kinds
  of_its_kind =
      each_kind
      (λ k. (allowed_by k b).row → (allowed_by k b).count → (allowed_by k b).quantities → InRange (case_of_patterns k (pattern_at b)) (head_of b))
      (tt
      then (λ r t q. (r.1, λ z. (t.0 z).0, (listed 0 (omega arith) q.0, (listed 1 (omega arith) q.1, (listed 2 (omega arith) q.2, (own 3 (omega arith) q.3, tt))))))
      then (λ r t q. (r.1, λ z. (t.0 z).0, (listed 2 (omega arith) q.2, (own 3 (omega arith) q.3, (own 4 (omega arith) q.4, (own 5 (omega arith) q.5, (listed 0 (omega arith) q.0, tt)))))))
      then (λ r t q. (r.1, count_most (row_of b) (count_of b) _ t, (own 3 (omega arith) q.3, (own 4 (omega arith) q.4, (own 5 (omega arith) q.5, (listed 0 (omega arith) q.0, tt))))))
      then (λ r t q. (λ z. (t.0 z).0, (listed 1 (omega arith) q.1, (listed 0 (omega arith) q.0, (listed 2 (omega arith) q.2, tt)))))
      then (λ r t q.
      let z = r.1 in
      ((t.0 (omega arith)).0, (listed 0 (omega arith) q.0, (listed 1 (omega arith) q.1, (listed 2 (omega arith) q.2, (listed 3 (omega arith) q.3, (listed 4 (omega arith) q.4, tt)))))))
      then (λ r t q. (r.1, (own 5 (omega arith) q.5, (own 4 (omega arith) q.4, (own 3 (omega arith) q.3, (listed 0 (omega arith) q.0, (listed 1 (omega arith) q.1, tt)))))))
      then (λ r t q. (count_most (row_of b) (count_of b) _ t, (listed 3 (omega arith) q.3, (listed 0 (omega arith) q.0, (listed 2 (omega arith) q.2, (listed 1 (omega arith) q.1, (listed 4 (omega arith) q.4, tt)))))))
      then (λ r t q.
      let z = r.0 in
      ((t.1 (λ n. omega arith)).0, (listed 0 (omega arith) q.0, (listed 1 (omega arith) q.1, (listed 2 (omega arith) q.2, tt))))))
      (kind_of b) w.kind w.row w.count w.quantities

pub in_range : (b : List ℕ) → refusal_of b ≡ 0 → InRange (case_of b) (head_of b)
in_range b none = of_its_kind b ((accepted_exactly b).0 none)
