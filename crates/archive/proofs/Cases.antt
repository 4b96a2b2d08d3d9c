-- What this crate uses of an offer within the ranges: `case_size_lem`, `sized_line`, `storable_line` (its line can be a record).
use mathlib.Core.Path.{◌≡◌, refl, ap, ◌∙◌}
use mathlib.Core.Bool.{Bool, true, false, cond}
use mathlib.Core.List.{List, [], ◌∷◌}
use Prim.Native.Nat.{ℕ, zero, suc, ◌^◌, ◌<◌}
use native.Mathlib.Omega.{arith}
use lib.Dec.{eqb}
use lib.ListN.{length, get_or, length-map}
use Rattle.kinds.specs.Case.{route_of, refusal_of}
use Rattle.kinds.proofs.Ranges.{accepted_exactly}
use Rattle.product.specs.Ratio.{Ratio, rounded_up}
use Rattle.emission.specs.Figures.{exact_values, figures_of}
use Rattle.emission.proofs.Accepted.{figures_exact}
use Rattle.emission.proofs.FigureSize.{figures_fit}
use Rattle.archive.specs.Offers.{Offer, Within}
use Rattle.archive.specs.Archive.{line_for}
use Rattle.records.proofs.RecordLaws.{Fit, Sized, Storable}

pub case_size_lem : (c : List ℕ) → refusal_of c ≡ 0 → length c ≡ 64
case_size_lem c e = ((accepted_exactly c).0 e).sixty_four

four_either : (t : Bool) (p q : List Ratio) → length p ≡ 4 → length q ≡ 4 → length (cond t p q) ≡ 4
four_either true p q e f = e
four_either false p q e f = f

four_values : (c : List ℕ) → length (exact_values c) ≡ 4
unfolding exact_values
four_values c = four_either (eqb (route_of c) 1) _ _ refl refl

four_figures : (c : List ℕ) → refusal_of c ≡ 0 → length (figures_of c) ≡ 4
four_figures c e = ap length (figures_exact c e) ∙ length-map (exact_values c) rounded_up ∙ four_values c

pub sized_line : (o : Offer) → Within o → Sized (line_for o)
sized_line o w = record { case_size_lem = case_size_lem o.case w.case_within; four = four_figures o.case w.case_within }

all_fit : (xs : List ℕ) → ((i : ℕ) → i < length xs → get_or xs i 0 < 2 ^ 64) → Fit xs
all_fit [] h = tt
all_fit (x ∷ xs) h = (h zero (omega arith), all_fit xs (λ i l. h (suc i) (omega arith)))

pub storable_line : (o : Offer) → Within o → Storable (line_for o)
storable_line o w =
    let e = w.case_within in
    let n = four_figures o.case e in
    record { sized = sized_line o w; fit = all_fit (figures_of o.case) (λ i l. figures_fit o.case e i (omega arith)) }
