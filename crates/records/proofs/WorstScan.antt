-- The search for the worst of n records, each as long as the width w, in a buffer b.
-- A compartment's number is one of four: `one_of_four`. The figure of record k: `figure_in`, `figure_read`, among n of them `figure_at_lem`. From one record to the next that outranks it: `scan_start`, `scan_next`; where there is none: `scan_end`.
use mathlib.Core.Path.{◌≡◌, refl, ap, ◌∙◌}
use mathlib.Core.Bool.{true, false}
use mathlib.Core.List.{List}
use Prim.Native.Nat.{ℕ, zero, suc, ◌+◌, ◌*◌, ◌-◌, ◌≤◌, ◌<◌}
use native.Mathlib.Nat.{mul-suc, le_of_suc-le-suc, not-suc-le-zero}
use native.Mathlib.Omega.{arith}
use lib.ListN.{get_or, drop}
use Rattle.octets.specs.Bytes.{number_at}
use Rattle.records.specs.Layout.{figures_in, record_at, line_of, first_lines, figures_end}
use Rattle.records.specs.Compartments.{compartment_number}
use Rattle.records.specs.declared.compartment.Compartment.{Compartment}
use Rattle.records.specs.declared.compartment.Compartment.TheVariants.{Stp, SurfaceWater, Air, Soil}
use Rattle.records.specs.Lines.{figure, figure_of, outranks, worst_of}
use Rattle.records.proofs.RecordLaws.{number_at_drop, number_part, length_first_lines}
use Rattle.records.proofs.LinesFrom.{line_at}
use Rattle.records.proofs.Order.{Worst, worst_unique, worst_still, worst_first, worst_over, worst_is, by_figures}

-- ── the figure of a record

figures_in_at : (m c : ℕ) (b : List ℕ) → c < m → get_or (figures_in m b) c 0 ≡ number_at b (8 * c) 8
unfolding figures_in
figures_in_at zero c b h = absurd (not-suc-le-zero h)
figures_in_at (suc m) zero b h = refl
figures_in_at (suc m) (suc c) b h =
    let e : 8 * suc c ≡ 8 + 8 * c = omega (arith, mul-suc 8 c) in
    figures_in_at m c (drop 8 b) (le_of_suc-le-suc h) ∙ rw e (number_at_drop b 8 (8 * c) 8)

pub one_of_four : (c : Compartment) → (1 ≤ compartment_number c) × (compartment_number c ≤ 4)
one_of_four Stp = omega arith
one_of_four SurfaceWater = omega arith
one_of_four Air = omega arith
one_of_four Soil = omega arith

module _ (w m : ℕ) (b : List ℕ) where
  abbrev pub figure_in : ℕ → ℕ
  figure_in k = figure m (line_of (record_at w b k))

  pub figure_read : (k : ℕ) → figures_end ≤ w → 1 ≤ m → m ≤ 4 → figure_in k ≡ number_at b (w * k + (56 + 8 * m)) 8
  unfolding figure line_of
  figure_read k d p q =
      let r = record_at w b k in
      let e : 64 + 8 * (m - 1) ≡ 56 + 8 * m = omega arith in
      figures_in_at 4 (m - 1) (drop 64 r) (omega arith)
      ∙ number_at_drop r 64 (8 * (m - 1)) 8
      ∙ rw e (number_part b (w * k) w (56 + 8 * m) 8 (omega arith))

  -- ── the search: best is the worst of those up to it

  abbrev pub Best : ℕ → Type 0
  Best k = Worst (outranks figure_in) (k + 1) k

  -- none of those behind k, and before n, outranks it
  abbrev pub NoneBetween : ℕ → ℕ → Type 0
  NoneBetween k n = (j : ℕ) → k + 1 ≤ j → j < n → outranks figure_in j k ≡ false

  pub scan_start : Best 0
  scan_start = worst_first (by_figures figure_in)

  pub scan_next : {j k : ℕ} → Best k → NoneBetween k j → k + 1 ≤ j → outranks figure_in j k ≡ true → Best j
  scan_next s none h e = worst_over (by_figures figure_in) (worst_still s h none) e

  -- the same numbers as those of the lines
  as_lines : {n k : ℕ} → Worst (outranks figure_in) n k → Worst (outranks (figure_of m (first_lines w n b))) n k
  as_lines {n} {k} s =
      let f = λ (j : ℕ) (h : j < n). ap (figure m) (line_at w n j b h) in
      record {
        there = s.there;
        none_above = λ j h. rw (f j h, f k s.there) (s.none_above j h);
        above_earlier = λ j h. rw (f j (omega (arith, s.there)), f k s.there) (s.above_earlier j h);
      }

  pub scan_end : (n : ℕ) {k : ℕ} → Best k → NoneBetween k n → k < n → k ≡ worst_of m (first_lines w n b)
  unfolding worst_of
  scan_end n s none h = rw (length_first_lines w n b) (worst_unique (as_lines (worst_still s (omega arith) none)) (worst_is (by_figures (figure_of m (first_lines w n b))) n (omega arith)))

-- the figure of record k, of the lines of n records
pub figure_at_lem : (w n m k : ℕ) (b : List ℕ) → figures_end ≤ w → 1 ≤ m → m ≤ 4 → k < n → figure_of m (first_lines w n b) k ≡ number_at b (w * k + (56 + 8 * m)) 8
figure_at_lem w n m k b d p q h = ap (figure m) (line_at w n k b h) ∙ figure_read w m b k d p q
