-- Laws of the first refusal that holds.
-- Of any list of conditions: `first_of_is_first`, `first_is_first_of`, `first_of_append`, `first_of_some`, `first_of_none` (one list after another),
-- `none_holds` (where the first is 0).
-- Of a case: `refusal_order`, `refusal_numbers`, `refusal_of_length`.
-- What a case without refusal satisfies is in `Ranges`.
use mathlib.Core.Path.{◌≡◌, refl, subst}
use mathlib.Core.Bool.{Bool, true, false, not, cond}
use mathlib.Core.List.{List, [], ◌∷◌, ◌++◌, map}
use Prim.Native.Nat.{ℕ, zero, suc}
use lib.Dec.{eqb}
use lib.ListN.{length, get_or}
use borrow.Author.Tests.{ne_eqb, eqb-false, not-true}
use Rattle.kinds.specs.Refusal.{Condition, ◌when◌, first_of, IsFirst, none, here, later, numbered}
use Rattle.kinds.specs.Case.{not_sixty_four, refusals, refusal_of}
use Rattle.octets.proofs.Bools.{both}

pub first_of_is_first : (cs : List Condition) → IsFirst cs (first_of cs)
first_of_is_first [] = none
first_of_is_first (c ∷ cs) = go c.holds refl (first_of_is_first cs)
  where
    go : (t : Bool) → c.holds ≡ t → IsFirst cs (first_of cs) → IsFirst (c ∷ cs) (cond t c.number (first_of cs))
    go true e r = here e
    go false e r = later e r

pub first_is_first_of : {cs : List Condition} {n : ℕ} → IsFirst cs n → first_of cs ≡ n
first_is_first_of none = refl
first_is_first_of (here e) = rw e
first_is_first_of (later e r) = rw e (first_is_first_of r)

-- a list after another: its conditions count where none of the other holds
pub first_of_append : (cs ds : List Condition) → numbered cs ≡ true → first_of (cs ++ ds) ≡ cond (eqb (first_of cs) 0) (first_of ds) (first_of cs)
first_of_append [] ds h = refl
first_of_append (c ∷ cs) ds h =
    let p = both (not (eqb c.number 0)) (numbered cs) h in
    go c.holds (not-true (eqb c.number 0) p.0) (first_of_append cs ds p.1)
  where
    go : (t : Bool) → eqb c.number 0 ≡ false → first_of (cs ++ ds) ≡ cond (eqb (first_of cs) 0) (first_of ds) (first_of cs)
        → cond t c.number (first_of (cs ++ ds)) ≡ cond (eqb (cond t c.number (first_of cs)) 0) (first_of ds) (cond t c.number (first_of cs))
    go true z r = rw z
    go false z r = r

-- the same, of an answer n to the first list
pub first_of_some : (cs ds : List Condition) (n : ℕ) → numbered cs ≡ true → n ≡ first_of cs → (n ≡ 0 → ⊥) → n ≡ first_of (cs ++ ds)
first_of_some cs ds n h e z = rw (first_of_append cs ds h, ← e, ne_eqb n 0 z)

pub first_of_none : (cs ds : List Condition) (n m : ℕ) → numbered cs ≡ true → n ≡ first_of cs → n ≡ 0 → m ≡ first_of ds → m ≡ first_of (cs ++ ds)
first_of_none cs ds n m h e z f = rw (first_of_append cs ds h, ← e, z) f

pub none_holds : (cs : List Condition) → numbered cs ≡ true → first_of cs ≡ 0 → (i : ℕ) → (get_or cs i (0 when false)).holds ≡ false
none_holds [] h e = λ i. refl
none_holds (c ∷ cs) h e =
    let p = both (not (eqb c.number 0)) (numbered cs) h in
    go c.holds refl (not-true (eqb c.number 0) p.0) e (none_holds cs p.1)
  where
    go : (t : Bool) → c.holds ≡ t → eqb c.number 0 ≡ false → cond t c.number (first_of cs) ≡ 0
        → (first_of cs ≡ 0 → (i : ℕ) → (get_or cs i (0 when false)).holds ≡ false) → (i : ℕ) → (get_or (c ∷ cs) i (0 when false)).holds ≡ false
    go true q z e r i = absurd (eqb-false c.number 0 z e)
    go false q z e r zero = q
    go false q z e r (suc i) = r e i

-- ── of a case

pub refusal_order : (b : List ℕ) (n : ℕ) → (refusal_of b ≡ n → IsFirst (refusals b) n) × (IsFirst (refusals b) n → refusal_of b ≡ n)
unfolding refusal_of
refusal_order b n = (λ (e : first_of (refusals b) ≡ n). subst (IsFirst (refusals b)) e (first_of_is_first (refusals b)), first_is_first_of)

-- the numbers in the list are the paper's, whatever the case
pub refusal_numbers : (b : List ℕ) → map (λ (c : Condition). c.number) (refusals b) ≡ 1 ∷ 2 ∷ 3 ∷ 4 ∷ 5 ∷ 31 ∷ 6 ∷ 7 ∷ 8 ∷ 9 ∷ 10 ∷ 11 ∷ []
refusal_numbers b = refl

pub refusal_of_length : (b : List ℕ) → (length b ≡ 64 → ⊥) → refusal_of b ≡ 1
unfolding refusal_of not_sixty_four
refusal_of_length b h = rw (ne_eqb (length b) 64 h)
