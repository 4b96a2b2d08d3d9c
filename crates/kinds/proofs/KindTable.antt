-- Laws of the table of kinds: `no_kind_lem` (what is none of them), `each_kind` (what holds of each), `tested` (one computed test of all, by their numbers),
-- `not_summed` (of which nothing is summed). Of any table that is numbered from 1: `beyond` (what is none of its entries). Of ranges: `inside`.
-- Laws of limits are in `Limits`, of usages in `UsageTable`.
use mathlib.Core.Path.{◌≡◌, refl}
use mathlib.Core.Bool.{Bool, true, false, ◌&&◌, ◌||◌}
use mathlib.Core.List.{List, [], ◌∷◌}
use Prim.Native.Nat.{ℕ, zero, suc, ◌+◌, ◌≤◌, ◌<◌}
use native.Mathlib.Nat.{add-zero, zero-add, add-suc, suc-add}
use native.Mathlib.Omega.{arith}
use lib.Dec.{leb, eqb}
use lib.ListN.{length, get_or, get_or-eq_default}
use borrow.Author.Tests.{leb-true, le-leb, eqb-true, eqb-false, ne_eqb}
use Rattle.kinds.specs.Case.{Range, within, Kind, kinds, no_kind, kind_at}
use Rattle.kinds.specs.Ranges.{Between, IsKind}
use Rattle.octets.proofs.Bools.{both}

pub inside : (r : Range) (n : ℕ) → (within r n ≡ true → Between r.from r.to n) × (Between r.from r.to n → within r n ≡ true)
inside r n = (
  λ h. let p = both (leb r.from n) (leb n r.to) h in (leb-true r.from n p.0, leb-true n r.to p.1),
  λ h. rw (le-leb r.from n h.0, le-leb n r.to h.1),
)

-- ── kinds by their numbers

-- k is none of the numbers from 1 to n
abbrev pub OtherThan : ℕ → ℕ → Type 0
OtherThan n k = 1 ≤ k → n < k

pub beyond : {A : Type 0} (none : A) (xs : List A) (k : ℕ) → OtherThan (length xs) k → get_or (none ∷ xs) k none ≡ none
beyond none xs zero o = refl
beyond none xs (suc k) o = get_or-eq_default (none ∷ xs) none (o (omega arith))

pub no_kind_lem : (k : ℕ) → OtherThan (length kinds) k → kind_at k ≡ no_kind
unfolding kind_at
no_kind_lem = beyond no_kind kinds

-- from 1 to n
abbrev pub Each : (ℕ → Type 0) → ℕ → Type 0
Each P zero = Unit {0}
Each P (suc n) = Each P n × P (suc n)

infixl 1 ◌then◌
pub ◌then◌ : {A B : Type 0} → A → B → A × B
a then b = (a, b)

each_to : (P : ℕ → Type 0) (n : ℕ) → Each P n → (k : ℕ) → 1 ≤ k → k ≤ n → P k
each_to P zero e k h l = absurd (omega arith)
each_to P (suc n) e k h l = go (eqb k (suc n)) refl (each_to P n e.0 k h)
  where
    go : (t : Bool) → eqb k (suc n) ≡ t → (k ≤ n → P k) → P k
    go true q below = rw (eqb-true k (suc n) q) e.1
    go false q below = let m = eqb-false k (suc n) q in below (omega arith)

pub each_kind : (P : ℕ → Type 0) → Each P (length kinds) → (k : ℕ) → IsKind k → P k
unfolding kinds
each_kind P e k h = each_to P (length kinds) e k h.0 h.1

-- ── one test of all

module _ (test : ℕ → Kind → Bool) where
  unfoldable pub tests : ℕ → List Kind → Bool
  tests n [] = true
  tests n (x ∷ xs) = test n x && tests (suc n) xs

  test_at : (xs : List Kind) (n : ℕ) → tests n xs ≡ true → ((k : ℕ) → test k no_kind ≡ true) → (i : ℕ) → test (n + i) (get_or xs i no_kind) ≡ true
  unfolding tests
  test_at [] n e none i = none (n + i)
  test_at (x ∷ xs) n e none zero = rw add-zero (both (test n x) (tests (suc n) xs) e).0
  test_at (x ∷ xs) n e none (suc i) = rw (add-suc n i, ← suc-add n i) (test_at xs (suc n) (both (test n x) (tests (suc n) xs) e).1 none i)

  pub tested : tests 0 (no_kind ∷ kinds) ≡ true → ((k : ℕ) → test k no_kind ≡ true) → (k : ℕ) → test k (kind_at k) ≡ true
  unfolding kind_at
  tested e none k = rw zero-add at (test_at (no_kind ∷ kinds) 0 e none k)

empty : List ℕ → Bool
empty [] = true
empty (x ∷ xs) = false

only_empty : (l : List ℕ) → (empty l || false) ≡ true → l ≡ []
unfolding empty
only_empty [] e = refl
only_empty (x ∷ xs) e = let z : ◌≡◌ {A = ℕ} 0 1 = cc in absurd (omega arith)

pub not_summed : (k : ℕ) → (k ≡ 5 → ⊥) → (k ≡ 8 → ⊥) → (kind_at k).summed ≡ []
unfolding tests empty kinds
not_summed k h g = only_empty (kind_at k).summed (rw (ne_eqb k 5 h, ne_eqb k 8 g) at (tested (λ i x. empty x.summed || (eqb i 5 || eqb i 8)) refl (λ i. refl) k))
