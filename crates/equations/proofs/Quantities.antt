-- The quantities that the equations take have the exact values that the limits are on.
--   exact_quantity     of one quantity, by its pattern
--   quantities_exact   of an accepted case: the enum's a to f have the exact values of the case's bytes
use mathlib.Core.Path.{◌≡◌, ap, ◌∙◌}
use mathlib.Core.List.{List, [], ◌∷◌, map}
use Prim.Native.Nat.{ℕ, ◌<◌}
use native.Mathlib.Omega.{arith}
use Rattle.binary64.specs.Quantity.{whole, one}
use Rattle.binary64.proofs.Exact.{pattern_back}
use Rattle.kinds.specs.Case.{pattern_at, of_six, quantity_of, exact_of, exact_at, refusal_of}
use Rattle.scenario.specs.Decoding.{case_of, quantities_in}
use Rattle.kinds.specs.Ranges.{Number}
use Rattle.kinds.proofs.Ranges.{accepted_exactly}
use Rattle.scenario.proofs.Said.{accepted_says}
use Rattle.product.specs.Ratio.{◌over◌, exactly}

pub exact_quantity : (p : ℕ) → Number p → exactly (quantity_of p) ≡ exact_of p over one
exact_quantity p h = ap (λ (n : ℕ). whole n over one) (pattern_back p h)

pub quantities_exact : (b : List ℕ) → refusal_of b ≡ 0 → map exactly (quantities_in (case_of b)) ≡ of_six (λ i. exact_at b i over one)
quantities_exact b none =
    let n = ((accepted_exactly b).0 none).numbers in
    let x : (i : ℕ) → i < 6 → exactly (quantity_of (pattern_at b i)) ≡ exact_at b i over one = (λ i h. exact_quantity (pattern_at b i) (n i h)) in
    ap (map exactly) (accepted_says b none).1
    ∙ (λ j. x 0 (omega arith) j ∷ x 1 (omega arith) j ∷ x 2 (omega arith) j ∷ x 3 (omega arith) j ∷ x 4 (omega arith) j ∷ x 5 (omega arith) j ∷ [])
