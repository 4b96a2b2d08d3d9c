-- Laws of the faults found: `folded` (what a fold gives),
-- `faults_by_limits` (those of the six, by a fold over limits and patterns), `told_first` (refusals 8 to 11 by them), `faults_numbers`.
-- The rule of a limit held as a pattern is in crate kinds, `Limits`.
use mathlib.Core.Path.{◌≡◌, refl, sym, ◌∙◌, ap}
use mathlib.Core.Bool.{false, not, ◌&&◌}
use mathlib.Core.List.{List, [], ◌∷◌, ◌++◌}
use Prim.Native.Nat.{ℕ, zero, suc}
use lib.Dec.{leb, eqb}
use lib.ListN.{length}
use denote.Param.Members.{Mut}
use Rattle.std.proofs.Common.{Option}
use Rattle.std.specs.Fn.{Called}
use Rattle.std.specs.Iterator.{Drains}
use Rattle.std.specs.List.{FoldsTo, fold, zip}
use Rattle.std.proofs.lemmas.Fn.{fold_over}
use Rattle.std.proofs.lemmas.Grind.{fold-append}
use Rattle.std.proofs.lemmas.Iterator.{YieldsList}
use Rattle.kinds.specs.Refusal.{◌when◌, first_of}
use Rattle.kinds.proofs.Refusals.{none_holds}
use Rattle.kinds.specs.Case.{kind_at, listing_at, any_not_number, not_zero_bytes, over_limit, sum_over, quantity_refusals}
use Rattle.kinds.specs.Patterns.{at, limit_patterns}
use Rattle.kinds.proofs.Six.{six_are, six_same}
use Rattle.kinds.proofs.Limits.{limits_right, not_zero_by_limit, over_by_limit}
use Rattle.scenario.specs.Faults.{add_faults, told_of, faults_of}
use Rattle.scenario.specs.declared.quantities.Faults.{Faults}

-- ── of all six

-- what a call of `fold` gives, by what each call of its closure gives
pub folded : {S A B C F : Type 0} {steps : S → Option A → S → Type 0} {v : A → B} {s : S} {all : List B} → YieldsList steps v s all
    → (g : Mut F (C × (A × Unit {0})) C) (f : F) (a r : C) (h : C → B → C)
    → (xs : List A) × (f' : F) × Drains steps s xs × FoldsTo {P = F × C} (λ p x q. Called g p.0 (p.1, (x, tt)) q.1 q.0) (f, a) xs (f', r)
    → ((b : C) (x : A) (c : C) (f' : F) → Called g f (b, (x, tt)) c f' → (c ≡ h b (v x)) × (f' ≡ f)) → r ≡ fold h a all
folded {steps = steps} {v = v} {s = s} {all = all} y g f a r h ran step =
    fold_over steps v g (λ ys b. b ≡ fold h a ys) f
    (λ ys b x c f' j k. let p = step b x c f' k in (rw (fold-append h a ys (v x ∷ []), ← j) p.0, p.1))
    s all a r y.runs refl ran

-- the faults found in six patterns, one after the other by its limit
abbrev found : List ℕ → List ℕ → ℕ → Faults
found ms ps zero = record { invalid = false; stray = false; over = false }
found ms ps (suc i) = add_faults (found ms ps i) (at ms i) (at ps i)

found_lem : (k row : ℕ) (ps : List ℕ) → found (limit_patterns (eqb row 0) (kind_at k).quantities) ps 6 ≡ faults_of k row (at ps)
unfolding add_faults faults_of
found_lem k row ps =
    let own = eqb row 0 in
    let ms = limit_patterns own (kind_at k).quantities in
    rw (
      six_same (λ i. eqb (at ms i) 0 && not (eqb (at ps i) 0)) (λ i. not_zero_bytes own (listing_at k i) (at ps i))
          (λ i. not_zero_by_limit own (listing_at k i) (at ms i) (at ps i) (limits_right own k i)),
      six_same (λ i. not (eqb (at ms i) 0) && not (leb (at ps i) (at ms i))) (λ i. over_limit own (listing_at k i) (at ps i))
          (λ i. over_by_limit own (listing_at k i) (at ms i) (at ps i) (limits_right own k i)),
    )

-- a fold over the limits and the patterns
pub faults_by_limits : (k row : ℕ) (ms ps : List ℕ) → ms ≡ limit_patterns (eqb row 0) (kind_at k).quantities → length ms ≡ 6 → length ps ≡ 6
    → fold (λ (f : Faults) (x : ℕ × ℕ). add_faults f x.0 x.1) (record { invalid = false; stray = false; over = false }) (zip ms ps) ≡ faults_of k row (at ps)
faults_by_limits k row ms ps e m n =
    (λ j. fold (λ (f : Faults) (x : ℕ × ℕ). add_faults f x.0 x.1) (record { invalid = false; stray = false; over = false }) (zip (six_are ms 0 m j) (six_are ps 0 n j)))
    ∙ ap (λ l. found l ps 6) e
    ∙ found_lem k row ps

-- ── refusals 8 to 11 by the faults of six

pub told_first : (k row : ℕ) (p : ℕ → ℕ) (f : Faults) → f ≡ faults_of k row p → first_of (told_of f ++ (11 when sum_over k p) ∷ []) ≡ first_of (quantity_refusals k row p)
unfolding faults_of
told_first k row p f e = rw e

pub faults_numbers : (k row : ℕ) (p : ℕ → ℕ) {f : Faults} → f ≡ faults_of k row p → 0 ≡ first_of (told_of f) → any_not_number p ≡ false
unfolding faults_of
faults_numbers k row p {f} e h = rw e at (none_holds (told_of f) refl (sym h) 0)
