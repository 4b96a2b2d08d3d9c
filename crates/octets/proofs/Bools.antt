-- Laws of tests: `both`, `neither`. A test that passes at each entry of a table: `every`, `every_at`; at each number below another: `all_below`, `all_below_lem`.
use mathlib.Core.Path.{◌≡◌}
use mathlib.Core.Bool.{Bool, true, ◌&&◌}
use mathlib.Core.List.{List, [], ◌∷◌}
use mathlib.Core.Logic.{⊎_elim}
use Prim.Native.Nat.{ℕ, zero, suc, ◌<◌}
use native.Mathlib.Nat.{eq-or-lt_of_le}
use native.Mathlib.Omega.{arith}
use lib.ListN.{get_or}
pub use Rattle.std.proofs.lemmas.Bool.{and_parts as both, or_parts as neither}

-- and at what stands for an entry that is not there
module _ {A : Type 0} (test : A → Bool) where
  unfoldable pub every : List A → Bool
  every [] = true
  every (x ∷ xs) = test x && every xs

  pub every_at : (xs : List A) (none : A) → every xs ≡ true → test none ≡ true → (i : ℕ) → test (get_or xs i none) ≡ true
  unfolding every
  every_at [] none e n i = n
  every_at (x ∷ xs) none e n zero = (both (test x) (every xs) e).0
  every_at (x ∷ xs) none e n (suc i) = every_at xs none (both (test x) (every xs) e).1 n i

module _ (test : ℕ → Bool) where
  unfoldable pub all_below : ℕ → Bool
  all_below zero = true
  all_below (suc n) = all_below n && test n

  pub all_below_lem : (n : ℕ) → all_below n ≡ true → (i : ℕ) → i < n → test i ≡ true
  unfolding all_below
  all_below_lem zero e i h = absurd (omega arith)
  all_below_lem (suc n) e i h =
      let p = both (all_below n) (test n) e in
      ⊎_elim (λ (q : i ≡ n). rw q p.1) (λ (l : i < n). all_below_lem n p.0 i l) (eq-or-lt_of_le (omega arith))
