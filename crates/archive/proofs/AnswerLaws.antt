-- An answer or a state by the refusal: `accepted_same`, `accepted_map`, `accepted_refused`; two effects that agree tell the same, `same_answer`.
-- Results: a refusal by its number, `refused_as`, `beside`; what a `?` returns, `handed_on`; where each number of a list is a refusal's: the number of the result, `refused_by`, and what is told of it, `told_as`.
-- What the functions of this crate say, by their effect: `of_emptying`, `of_filing_lem`, `of_showing`, `of_naming`.
use mathlib.Core.Path.{◌≡◌, refl, sym, ap, ◌∙◌}
use mathlib.Core.Bool.{true}
use mathlib.Core.List.{List, []}
use Prim.Native.Nat.{ℕ, zero, suc}
use native.Mathlib.Omega.{arith}
use borrow.Author.Tests.{eqb-false}
use Rattle.std.specs.Prelude.{Result, Ok, Err, IsErrAnd}
use Rattle.octets.proofs.Bools.{every}
use Rattle.kinds.specs.Refusal.{Condition, first_of}
use Rattle.kinds.specs.Number.{number, refusal_at, refused}
use Rattle.kinds.specs.declared.refusal.Refusal.{Refusal}
use Rattle.kinds.proofs.Numbers.{refusal_of_number, number_not_zero, named, first_named}
use Rattle.archive.specs.Conditions.{accepted}
use Rattle.archive.specs.Offers.{Offer}
use Rattle.archive.specs.Answers.{Places, part, Answer, answering, shown, of_emptied, of_filing, of_highest, Effect, refusal_by, answer_by}
use Rattle.archive.specs.Archive.{empty_refusals, empty_answer, emptying, file_refusals, file_answer, filing, show_effect, show_refusal, show_part, worst_refusals, worst_answer, naming}

-- ── by the refusal

pub accepted_same : {A : Type 0} (r : ℕ) (x : A) → accepted r x x ≡ x
accepted_same zero x = refl
accepted_same (suc r) x = refl

pub accepted_refused : {A : Type 0} (r : ℕ) (x y : A) → (r ≡ 0 → ⊥) → accepted r x y ≡ y
accepted_refused zero x y h = absurd (h refl)
accepted_refused (suc r) x y h = refl

pub accepted_map : {A B : Type 0} (f : A → B) (r : ℕ) (x y : A) → f (accepted r x y) ≡ accepted r (f x) (f y)
accepted_map f zero x y = refl
accepted_map f (suc r) x y = refl

pub same_answer : {S T : Type 0} (e : Effect S) (f : Effect T) → refusal_by e ≡ refusal_by f → (refusal_by f ≡ 0 → e.gives ≡ f.gives) → e.beside ≡ f.beside → answer_by e ≡ answer_by f
same_answer e f q g s = rw q (ap (answering (refusal_by f)) (go (refusal_by f) g))
  where
    go : (r : ℕ) → (r ≡ 0 → e.gives ≡ f.gives) → accepted r e.gives e.beside ≡ accepted r f.gives f.beside
    go zero h = h refl
    go (suc r) h = s

-- ── results

-- a refusal has another number than 0
pub has_number : (r : Refusal) → number r ≡ 0 → ⊥
has_number r = eqb-false (number r) 0 (number_not_zero r)

-- beside a refusal, by its number
pub beside : {A : Type 0} (r : Refusal) {n : ℕ} (x y : A) → number r ≡ n → accepted n x y ≡ y
beside r x y e = accepted_refused _ x y (λ z. has_number r (e ∙ z))

-- a refusal by its number, and a result by it
pub refused_as : {T : Type 0} (r : Refusal) {n : ℕ} (x : Result T Refusal) → number r ≡ n → Err r ≡ accepted n x (Err (refusal_at n))
refused_as r x e = sym (beside r x _ e ∙ ap Err (ap refusal_at (sym e) ∙ refusal_of_number r))

-- what a `?` returns
pub handed_on : {T : Type 0} (a : Result T Refusal) (r : Refusal) → IsErrAnd a (λ x. x ≡ r) → a ≡ Err r
handed_on (Ok x) r h = absurd h
handed_on (Err x) r h = ap Err h

-- a result that is x where no condition holds, and otherwise the refusal of the first: its number, and what is told of it
abbrev pub by_first : {T : Type 0} → List Condition → T → Result T Refusal
by_first cs x = accepted (first_of cs) (Ok x) (Err (refusal_at (first_of cs)))

module _ {T : Type 0} (cs : List Condition) (k : every named cs ≡ true) (x : T) where
  pub told_as : (of : Result T Refusal → Answer) (p q : Places) → of (Ok x) ≡ answering 0 p → ((r : Refusal) → of (Err r) ≡ answering (number r) q)
      → of (by_first cs x) ≡ answering (first_of cs) (accepted (first_of cs) p q)
  told_as of p q e f = go (first_of cs) (first_named cs k)
    where
      go : (n : ℕ) → ((n ≡ 0 → ⊥) → number (refusal_at n) ≡ n) → of (accepted n (Ok x) (Err (refusal_at n))) ≡ answering n (accepted n p q)
      go zero h = e
      go (suc n) h = f (refusal_at (suc n)) ∙ ap (λ (m : ℕ). answering m q) (h (λ z. omega (arith, z)))

  pub refused_by : refused (by_first cs x) ≡ first_of cs
  refused_by = go (first_of cs) (first_named cs k)
    where
      go : (n : ℕ) → ((n ≡ 0 → ⊥) → number (refusal_at n) ≡ n) → refused (accepted n (Ok x) (Err (refusal_at n))) ≡ n
      go zero h = refl
      go (suc n) h = h (λ z. omega (arith, z))

-- ── of the calls

pub of_emptying : (b : List ℕ) → of_emptied (emptying b) ≡ empty_answer b
unfolding empty_refusals emptying refusal_at every
of_emptying b = told_as (empty_refusals b) refl _ of_emptied _ _ refl (λ r. refl)

pub of_filing_lem : (b : List ℕ) (u : ℕ) (o : Offer) → of_filing (filing b u o) u ≡ file_answer b u o
unfolding file_refusals filing refusal_at every
of_filing_lem b u o = told_as (file_refusals b u o) refl _ (λ a. of_filing a u) _ _ refl (λ r. refl)

pub of_showing : (b : List ℕ) (u k : ℕ) → shown (show_refusal b u k) (show_part b u k) ≡ answer_by (show_effect b u k)
unfolding show_part
of_showing b u k = ap (answering (show_refusal b u k)) (accepted_map part (show_refusal b u k) _ [])

pub of_naming : (b : List ℕ) (u m : ℕ) → of_highest (naming b u m) ≡ worst_answer b u m
unfolding worst_refusals naming refusal_at every
of_naming b u m = told_as (worst_refusals b u m) refl _ of_highest _ _ refl (λ r. refl)
