-- Demand 2's bounds in plain numbers: the figures that they leave for 1/13 kg (`bounds_of_p1`), for nothing (`bounds_of_nothing`)
-- and for a third of a microgram (`bounds_of_a_third`).
use mathlib.Core.Path.{◌≡◌, refl}
use Prim.Native.Nat.{ℕ, ◌≤◌}
use native.Mathlib.Omega.{arith}
use Rattle.product.specs.Ratio.{◌over◌}
use Rattle.equations.specs.RowExamples.{kg}
use Rattle.emission.specs.Figures.{WithinBounds, margin}

pub bounds_of_p1 : (f : ℕ) → (WithinBounds margin (kg 1 13) f → (76923077 ≤ f) × (f ≤ 76923082)) × ((76923077 ≤ f) × (f ≤ 76923082) → WithinBounds margin (kg 1 13) f)
bounds_of_p1 f = (
  λ w. (omega (arith, w.never_below), omega (arith, w.not_far_above)),
  λ h. record {
    lower_not_0 = omega arith;
    never_below = omega (arith, h.0);
    not_far_above = omega (arith, h.1);
    zero_only = λ z. omega (arith, h.0);
    zero_then = λ z. omega (arith);
  },
)

pub bounds_of_nothing : (f : ℕ) → WithinBounds margin (0 over 1) f → f ≡ 0
bounds_of_nothing f w = w.zero_then refl

pub bounds_of_a_third : (f : ℕ) → WithinBounds margin (1 over 3) f → f ≡ 1
bounds_of_a_third f w = omega (arith, w.never_below, w.not_far_above)
