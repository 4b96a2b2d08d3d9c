-- What is known of a case that `decode` accepts or refuses.
--   accepted_is, refused_is               what the answer of `decode` says of the case
--   figures_refused, figures_exact, figure_rounded, figures_accepted   its four figures, and each of them
use mathlib.Core.Path.{◌≡◌, refl, sym, ap, ◌∙◌}
use mathlib.Core.Bool.{Bool, true, false, cond}
use mathlib.Core.List.{List, [], ◌∷◌, map}
use Prim.Native.Nat.{ℕ}
use lib.Dec.{eqb}
use lib.ListN.{get_or, get_or-map}
use borrow.Author.Tests.{eqb-true, eqb-false, eq-eqb, ne_eqb}
use Rattle.natural.specs.Ceiling.{ceiling}
use Rattle.kinds.specs.Case.{route_of, refusal_of}
use Rattle.scenario.specs.Decoding.{case_of, head_of, decoded}
use Rattle.scenario.specs.declared.Case.{Case}
use Rattle.scenario.specs.declared.Head.{Head}
use Rattle.scenario.specs.declared.Accepted.{Accepted}
use Rattle.std.proofs.Common.{Result, Ok, Err}
use Rattle.kinds.specs.declared.refusal.Refusal.{Refusal}
use Rattle.kinds.specs.Number.{number, refusal_at}
use Rattle.kinds.proofs.Numbers.{refusal_named}
use Rattle.product.specs.Ratio.{◌over◌, rounded_up}
use Rattle.equations.specs.Equations.{to_water, to_air, to_soil, micrograms}
use Rattle.emission.specs.Figures.{exact_values, figures_of}

-- ── the answer of `decode`

pub accepted_is : (b : List ℕ) (a : Accepted) → decoded b ≡ Ok a → (refusal_of b ≡ 0) × (head_of b ≡ a.head) × (case_of b ≡ a.case)
unfolding decoded
accepted_is b a = go (eqb (refusal_of b) 0) refl
  where
    go : (t : Bool) → eqb (refusal_of b) 0 ≡ t → cond {A = Result Accepted Refusal} t (Ok (record { head = head_of b; case = case_of b })) (Err (refusal_at (refusal_of b))) ≡ Ok a
        → (refusal_of b ≡ 0) × (head_of b ≡ a.head) × (case_of b ≡ a.case)
    go true e a = (eqb-true (refusal_of b) 0 e, cc, cc)
    go false e a = cc

pub refused_is : (b : List ℕ) (r : Refusal) → decoded b ≡ Err r → (number r ≡ refusal_of b) × (refusal_of b ≡ 0 → ⊥)
unfolding decoded
refused_is b r = go (eqb (refusal_of b) 0) refl
  where
    go : (t : Bool) → eqb (refusal_of b) 0 ≡ t → cond {A = Result Accepted Refusal} t (Ok (record { head = head_of b; case = case_of b })) (Err (refusal_at (refusal_of b))) ≡ Err r → (number r ≡ refusal_of b) × (refusal_of b ≡ 0 → ⊥)
    go true e a = cc
    go false e a =
        let some = eqb-false (refusal_of b) 0 e in
        let named : refusal_at (refusal_of b) ≡ r = cc in
        (sym (ap number named) ∙ refusal_named b some, some)

-- ── its figures

pub figures_refused : (b : List ℕ) → (refusal_of b ≡ 0 → ⊥) → 0 ∷ 0 ∷ 0 ∷ 0 ∷ [] ≡ figures_of b
unfolding figures_of
figures_refused b h = rw (ne_eqb (refusal_of b) 0 h)

pub figures_exact : (b : List ℕ) → refusal_of b ≡ 0 → figures_of b ≡ map rounded_up (exact_values b)
unfolding figures_of
figures_exact b h = rw (eq-eqb (refusal_of b) 0 h)

-- each of them
pub figure_rounded : (b : List ℕ) → refusal_of b ≡ 0 → (i : ℕ) → get_or (figures_of b) i 0 ≡ rounded_up (get_or (exact_values b) i (0 over 1))
unfolding ceiling
figure_rounded b e i = ap (λ (l : List ℕ). get_or l i 0) (figures_exact b e) ∙ get_or-map rounded_up (exact_values b) i (0 over 1)

-- rounded up, then put in their places
placed : (b : List ℕ)
    → (let w = rounded_up (micrograms (to_water (case_of b) (head_of b))) in let a = rounded_up (micrograms (to_air (case_of b) (head_of b))) in let s = rounded_up (micrograms (to_soil (case_of b) (head_of b))) in
    cond (eqb (head_of b).route 1) (w ∷ 0 ∷ a ∷ s ∷ []) (0 ∷ w ∷ a ∷ s ∷ []))
    ≡ map rounded_up (exact_values b)
unfolding exact_values head_of ceiling
placed b = go (eqb (route_of b) 1)
  where
    go : (z : Bool)
        → (let w = rounded_up (micrograms (to_water (case_of b) (head_of b))) in let a = rounded_up (micrograms (to_air (case_of b) (head_of b))) in let s = rounded_up (micrograms (to_soil (case_of b) (head_of b))) in
        cond z (w ∷ 0 ∷ a ∷ s ∷ []) (0 ∷ w ∷ a ∷ s ∷ []))
        ≡ (let w = micrograms (to_water (case_of b) (head_of b)) in let a = micrograms (to_air (case_of b) (head_of b)) in let s = micrograms (to_soil (case_of b) (head_of b)) in
        map rounded_up (cond z (w ∷ 0 over 1 ∷ a ∷ s ∷ []) (0 over 1 ∷ w ∷ a ∷ s ∷ [])))
    go true = refl
    go false = refl

-- w, a and s are the figures of the case k and the head h
pub figures_accepted : (b : List ℕ) (h : Head) (k : Case) (w a s : ℕ) → refusal_of b ≡ 0 → head_of b ≡ h → case_of b ≡ k
    → w ≡ rounded_up (micrograms (to_water k h)) → a ≡ rounded_up (micrograms (to_air k h)) → s ≡ rounded_up (micrograms (to_soil k h))
    → cond (eqb h.route 1) (w ∷ 0 ∷ a ∷ s ∷ []) (0 ∷ w ∷ a ∷ s ∷ []) ≡ figures_of b
figures_accepted b h k w a s r eh ek ew ea es =
    (λ j. cond (eqb (sym eh j).route 1)
    ((ew ∙ water) j ∷ 0 ∷ (ea ∙ air) j ∷ (es ∙ soil) j ∷ [])
    (0 ∷ (ew ∙ water) j ∷ (ea ∙ air) j ∷ (es ∙ soil) j ∷ []))
    ∙ placed b
    ∙ sym (figures_exact b r)
  where
    water : rounded_up (micrograms (to_water k h)) ≡ rounded_up (micrograms (to_water (case_of b) (head_of b)))
    water = λ j. rounded_up (micrograms (to_water (sym ek j) (sym eh j)))

    air : rounded_up (micrograms (to_air k h)) ≡ rounded_up (micrograms (to_air (case_of b) (head_of b)))
    air = λ j. rounded_up (micrograms (to_air (sym ek j) (sym eh j)))

    soil : rounded_up (micrograms (to_soil k h)) ≡ rounded_up (micrograms (to_soil (case_of b) (head_of b)))
    soil = λ j. rounded_up (micrograms (to_soil (sym ek j) (sym eh j)))
