-- The search's rule and its meaning: `worst_is_highest` (worst_of names a worst line), `worst_is_unique` (and no other line is one).
use mathlib.Core.Path.{◌≡◌}
use mathlib.Core.List.{List}
use Prim.Native.Nat.{ℕ, ◌<◌}
use borrow.Author.Tests.{lt-ltb, le-ltb, ltb-true, ltb-false}
use lib.ListN.{length}
use Rattle.records.specs.Layout.{Line}
use Rattle.records.specs.Lines.{figure_of, outranks, worst_of, IsWorst}
use Rattle.records.proofs.Order.{Worst, worst_unique, worst_is, by_figures}

module _ (m : ℕ) (ls : List Line) where
  abbrev f : ℕ → ℕ
  f = figure_of m ls

  in_numbers : {k : ℕ} → Worst (outranks f) (length ls) k → IsWorst m ls k
  in_numbers {k} w = record {
    there = w.there;
    none_higher = λ j h. ltb-false (f k) (f j) (w.none_above j h);
    none_earlier_as_high = λ j h. ltb-true (f j) (f k) (w.above_earlier j h);
  }

  by_order : {k : ℕ} → IsWorst m ls k → Worst (outranks f) (length ls) k
  by_order {k} w = record {
    there = w.there;
    none_above = λ j h. le-ltb (f k) (f j) (w.none_higher j h);
    above_earlier = λ j h. lt-ltb (f j) (f k) (w.none_earlier_as_high j h);
  }

  pub worst_is_highest : 0 < length ls → IsWorst m ls (worst_of m ls)
  unfolding worst_of
  worst_is_highest h = in_numbers (worst_is (by_figures f) (length ls) h)

  pub worst_is_unique : (j k : ℕ) → IsWorst m ls j → IsWorst m ls k → j ≡ k
  worst_is_unique j k p q = worst_unique (by_order p) (by_order q)
