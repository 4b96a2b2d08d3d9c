-- What holds of each equation of a case: by row, by user, and of the four exact values by route.
--   by_row, with_loss        with row 0 and with the others; whatever the user
--   with_usage               of kind 8, by the usage on site
--   OfAll, alone             of the emissions to water, air and soil; where water alone has an equation
--   each_value               of the emissions to water, air and soil, so of the four exact values
use mathlib.Core.Path.{◌≡◌, refl}
use mathlib.Core.Bool.{Bool, true, false, cond}
use mathlib.Core.List.{List, [], ◌∷◌}
use Prim.Native.Nat.{ℕ, zero, suc, ◌≤◌, ◌<◌}
use native.Mathlib.Omega.{arith}
use lib.Dec.{eqb}
use lib.Ieee.{Float}
use lib.ListN.{get_or}
use borrow.Author.Tests.{eqb-true}
use Rattle.kinds.specs.Case.{route_of}
use Rattle.kinds.specs.Polymers.{usage_at}
use Rattle.std.proofs.Common.{Option, Some, None}
use Rattle.kinds.proofs.UsageTable.{most_used, usage_small}
use Rattle.scenario.specs.Decoding.{case_of, head_of}
use Rattle.product.specs.Ratio.{Ratio, ◌over◌}
use Rattle.product.specs.Chain.{Factor, number}
use Rattle.equations.specs.Equations.{loss, plastics, plastics_at, Emitted, emitted, to_water, to_air, to_soil, micrograms}
use Rattle.emission.specs.Figures.{exact_values}

-- with row 0, and with the others
pub by_row : {A : Type 0} (P : A → Type 0) (row : ℕ) (x y : A) → (row ≡ 0 → P x) → P y → P (cond (eqb row 0) x y)
by_row P row x y own paper = go (eqb row 0) refl
  where
    go : (z : Bool) → eqb row 0 ≡ z → P (cond z x y)
    go true e = own (eqb-true row 0 e)
    go false e = paper

pub with_loss : (P : List (List Factor) → Type 0) (user : ℕ) (f : Factor → List (List Factor)) → P (f (number 3 100)) → P (f (number 5 100)) → P (f (loss user))
with_loss P user f g h = go (eqb user 1)
  where
    go : (z : Bool) → P (f (cond z (number 3 100) (number 5 100)))
    go true = g
    go false = h

-- without a usage there is no equation
pub with_usage : (P : List (List Factor) → Type 0) (row user : ℕ) (a x : Float) (t : ℕ) → P [] → ((q : ℕ) → q ≤ most_used → P (plastics q a x t)) → P (plastics_at (usage_at row user) a x t)
with_usage P row user a x t none some = go (usage_at row user) refl
  where
    go : (u : Option ℕ) → usage_at row user ≡ u → P (plastics_at u a x t)
    go None e = none
    go (Some q) e = some q (usage_small row user q e)

-- of the emissions to water, air and soil
abbrev pub OfAll : (List (List Factor) → Type 0) → Emitted → Type 0
OfAll P e = P e.water × P e.air × P e.soil

-- where water alone has an equation, and what has none needs nothing
pub alone : {A : Type 0} → A → A × Unit {0} × Unit {0}
alone w = (w, tt, tt)

-- ── the four exact values

four : (P : Ratio → Type 0) (p q r s : Ratio) → P p → P q → P r → P s → (i : ℕ) → i < 4 → P (get_or (p ∷ q ∷ r ∷ s ∷ []) i (0 over 1))
four P p q r s a b c d zero h = a
four P p q r s a b c d (suc zero) h = b
four P p q r s a b c d (suc (suc zero)) h = c
four P p q r s a b c d (suc (suc (suc zero))) h = d
four P p q r s a b c d (suc (suc (suc (suc i)))) h = absurd (omega arith)

-- an emission without an equation has exact value 0 over 1
pub each_value : (P : Ratio → Type 0) (b : List ℕ) → P (0 over 1) → OfAll (λ e. P (micrograms e)) (emitted (case_of b) (head_of b))
    → (i : ℕ) → i < 4 → P (get_or (exact_values b) i (0 over 1))
unfolding exact_values
each_value P b none all i h = go (eqb (route_of b) 1)
  where
    go : (z : Bool)
        → (let w = micrograms (to_water (case_of b) (head_of b)) in let a = micrograms (to_air (case_of b) (head_of b)) in let s = micrograms (to_soil (case_of b) (head_of b)) in
        P (get_or (cond z (w ∷ 0 over 1 ∷ a ∷ s ∷ []) (0 over 1 ∷ w ∷ a ∷ s ∷ [])) i (0 over 1)))
    go true = four P _ _ _ _ all.0 none all.1 all.2 i h
    go false = four P _ _ _ _ none all.0 all.1 all.2 i h
