-- Demand 2, of the result of a call of `work_out`: what its own contract, as the toolchain reads it (`Reads.Learnt`), says.
--   bounds_of_ceiling   an exact value rounded up is within the bounds, at any margin
--   figures_within      the bounds of an accepted case's figures, wherever they are worked out or filed
--   WorkOutCall, met    a call of `work_out`; that the function meets the contract which a call goes by
--   figure_exact        an accepted result's figures are the exact values rounded up
--   figure_bounds       each is within the bounds: never below, hardly above, zero exactly when the value is zero
--   zero_iff            the last part by itself
--   refusal_first, refused_no_figure   demand 1: the refusal is the first condition that holds, and beside one stand zeros
--   result_exactly      there is none exactly when the case is within the ranges, in plain numbers
-- That no lower number is 0 is in Positive.
use mathlib.Core.Path.{◌≡◌, sym, ◌∙◌, subst}
use mathlib.Core.List.{List, [], ◌∷◌, map}
use Prim.Native.Nat.{ℕ, ◌+◌, ◌*◌, ◌^◌, ◌≤◌, ◌<◌}
use native.Mathlib.Nat.{mul-le-mul_right}
use native.Mathlib.Omega.{arith}
use lib.ListN.{get_or}
use Rattle.natural.proofs.Ceiling.{ceiling_not_below, ceiling_less_than_one_above, ceiling_zero}
use Rattle.product.specs.Ratio.{Ratio, ◌over◌, rounded_up}
use Rattle.kinds.specs.Refusal.{IsFirst}
use Rattle.kinds.specs.Case.{refusals, refusal_of}
use Rattle.kinds.proofs.Refusals.{refusal_order}
use Rattle.kinds.proofs.Ranges.{WithinRanges, accepted_exactly}
use Rattle.emission.specs.Called.{Called}
use Rattle.kinds.specs.Number.{refused}
use Rattle.emission.specs.Figures.{exact_values, figures_of, figures_in, WithinBounds, margin}
use Rattle.emission.proofs.Accepted.{figures_exact, figure_rounded, figures_refused}
use Rattle.emission.proofs.Positive.{lower_not_zero}
use Rattle.emission.proofs.work_out.Kinds as work_out_kinds
use Rattle.emission.proofs.work_out.Reads as work_out_reads
use Rattle.emission.proofs.work_out.Met as work_out_met
use Rattle.emission.proofs.work_out.Statement as work_out_statement

-- ── the law, for every exact value

above : (n d f M : ℕ) → f * d < n + d → f * d * M ≤ n * M + n + d * M
above n d f M h =
    let e : f * d * M ≤ (n + d) * M = mul-le-mul_right {m = f * d} {n = n + d} M (omega arith) in
    omega arith

pub bounds_of_ceiling : (m : ℕ) (p : Ratio) → 0 < p.lower → WithinBounds m p (rounded_up p)
bounds_of_ceiling m p h =
    let z = ceiling_zero p.upper p.lower h in
    record {
      lower_not_0 = h;
      never_below = ceiling_not_below p.upper p.lower h;
      not_far_above = above p.upper p.lower (rounded_up p) (2 ^ m) (ceiling_less_than_one_above p.upper p.lower h);
      zero_only = z.0;
      zero_then = z.1;
    }

-- ── of figures by their definition, as filing stores them

-- at any margin
figures_within_at : (m : ℕ) (b : List ℕ) → refusal_of b ≡ 0 → (i : ℕ) → i < 4 → WithinBounds m (get_or (exact_values b) i (0 over 1)) (get_or (figures_of b) i 0)
figures_within_at m b e i h = rw (figure_rounded b e i) (bounds_of_ceiling m (get_or (exact_values b) i (0 over 1)) (lower_not_zero b e i h))

pub figures_within : (b : List ℕ) → refusal_of b ≡ 0 → (i : ℕ) → i < 4 → WithinBounds margin (get_or (exact_values b) i (0 over 1)) (get_or (figures_of b) i 0)
figures_within = figures_within_at margin

-- ── a call of `work_out`

abbrev pub WorkOutCall : Type 0
WorkOutCall = Called 1 work_out_kinds.ps work_out_kinds.r work_out_reads.Learnt

pub met : {M : Type 1} → work_out_statement.statement M
met = work_out_met.met

-- the bytes of the case that it was called on
abbrev pub bytes : WorkOutCall → List ℕ
bytes c = c.args.0.now

pub figure_exact : (c : WorkOutCall) → refused c.result ≡ 0 → figures_in c.result ≡ map rounded_up (exact_values (bytes c))
figure_exact c e = c.kept.1 ∙ figures_exact (bytes c) (sym c.kept.0 ∙ e)

-- at any margin
pub figure_bounds_at : (m : ℕ) (c : WorkOutCall) → refused c.result ≡ 0 → (i : ℕ) → i < 4 → WithinBounds m (get_or (exact_values (bytes c)) i (0 over 1)) (get_or (figures_in c.result) i 0)
figure_bounds_at m c e i h =
    subst (λ (fs : List ℕ). WithinBounds m (get_or (exact_values (bytes c)) i (0 over 1)) (get_or fs i 0)) (sym c.kept.1) (figures_within_at m (bytes c) (sym c.kept.0 ∙ e) i h)

pub figure_bounds : (c : WorkOutCall) → refused c.result ≡ 0 → (i : ℕ) → i < 4 → WithinBounds margin (get_or (exact_values (bytes c)) i (0 over 1)) (get_or (figures_in c.result) i 0)
figure_bounds = figure_bounds_at margin

pub zero_iff : (c : WorkOutCall) → refused c.result ≡ 0 → (i : ℕ) → i < 4
    → (get_or (figures_in c.result) i 0 ≡ 0 → (get_or (exact_values (bytes c)) i (0 over 1)).upper ≡ 0) × ((get_or (exact_values (bytes c)) i (0 over 1)).upper ≡ 0 → get_or (figures_in c.result) i 0 ≡ 0)
zero_iff c e i h = let w = figure_bounds c e i h in (w.zero_only, w.zero_then)

-- ── demand 1, of the same call

pub refusal_first : (c : WorkOutCall) → IsFirst (refusals (bytes c)) (refused c.result)
refusal_first c = (refusal_order (bytes c) (refused c.result)).0 (sym c.kept.0)

pub result_exactly : (c : WorkOutCall) → (refused c.result ≡ 0 → WithinRanges (bytes c)) × (WithinRanges (bytes c) → refused c.result ≡ 0)
result_exactly c = let e = accepted_exactly (bytes c) in (λ z. e.0 (sym c.kept.0 ∙ z), λ w. c.kept.0 ∙ e.1 w)

pub refused_no_figure : (c : WorkOutCall) → (refused c.result ≡ 0 → ⊥) → figures_in c.result ≡ 0 ∷ 0 ∷ 0 ∷ 0 ∷ []
refused_no_figure c h = c.kept.1 ∙ sym (figures_refused (bytes c) (λ (z : refusal_of (bytes c) ≡ 0). h (c.kept.0 ∙ z)))
