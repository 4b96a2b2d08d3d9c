-- Laws between a chain as the paper prints it and what the code multiplies.
--   small, within_each                each quantity within its limit is up to the largest limit
--   product_of, chain_at_most, remainder_at_most, sum_at_most   what the code multiplies is at most the product of the limits
--   counted                           what holds of T where row is 0, and of what stands in its place otherwise
--   figure, figure_sum                what the code returns is the exact value rounded up; here a figure is shown to fit 64 bits, from the limits
use mathlib.Core.Path.{◌≡◌, refl, sym, ap, ◌∙◌}
use mathlib.Core.Bool.{Bool, true, false, ◌&&◌, cond}
use mathlib.Core.List.{List, [], ◌∷◌, map}
use Prim.Native.Nat.{ℕ, ◌+◌, ◌*◌, ◌≤◌, ◌<◌, min}
use native.Mathlib.Nat.{mul-pos}
use native.Mathlib.Omega.{arith}
use lib.Dec.{leb, eqb}
use lib.Ieee.{Float}
use borrow.Author.Tests.{leb-true, eqb-true}
use Rattle.octets.proofs.Bools.{both}
use Rattle.product.specs.Ratio.{Ratio, ◌over◌, ◌·◌, ◌⊕◌, one_less, exactly, Same, rounded_up, rounded_u64}
use Rattle.product.specs.Chain.{Factor, quantity, less, chain}
use Rattle.equations.specs.Equations.{microgram, micrograms}
use Rattle.equations.specs.Constants.{numbers}
use Rattle.product.specs.Ranges.{UpTo, Each, largest}
use Rattle.product.proofs.Limbs.{up_to_largest}
use Rattle.equations.specs.Ranges.{Within}
use Rattle.product.proofs.Ratios.{same_of, distributes_left, same_scaled, same_trans, same_times, same_plus, distributes, rounded_same, AtMost, one_less_at_most, at_most_times, at_most_plus, scaled_fits}
use Rattle.equations.proofs.Chains.{AllPositive, emission_positive, one_term, others, others_positive, two_terms}

-- all limits are at most the largest
unfoldable pub small : List ℕ → Bool
small [] = true
small (m ∷ ms) = leb m largest && small ms

pub within_each : (xs : List Float) (ms : List ℕ) → small ms ≡ true → Within xs ms → Each xs
unfolding Within Each small
within_each [] [] h w = tt
within_each [] (m ∷ ms) h w = tt
within_each (x ∷ xs) [] h w = absurd w
within_each (x ∷ xs) (m ∷ ms) h w =
    let s = both (leb m largest) (small ms) h in
    (up_to_largest x m w.0 (leb-true m largest s.0), within_each xs ms s.1 w.1)

unfoldable pub product_of : List ℕ → ℕ
product_of [] = 1
product_of (m ∷ ms) = m * product_of ms

-- each quantity at most its limit
pub chain_at_most : (xs : List Float) (ms : List ℕ) → Within xs ms → AtMost (chain (map quantity xs)) (product_of ms)
unfolding chain Within product_of
chain_at_most [] [] w = omega arith
chain_at_most [] (m ∷ ms) w = absurd w
chain_at_most (x ∷ xs) [] w = absurd w
chain_at_most (x ∷ xs) (m ∷ ms) w = at_most_times (exactly x) (chain (map quantity xs)) m (product_of ms) w.0.most (chain_at_most xs ms w.1)

-- after 1 less a quantity
pub remainder_at_most : (x : Float) (xs : List Float) (ms : List ℕ) → Within xs ms → AtMost (chain (less x ∷ map quantity xs)) (1 * product_of ms)
unfolding chain
remainder_at_most x xs ms w = at_most_times (one_less (exactly x)) (chain (map quantity xs)) 1 (product_of ms) (one_less_at_most (exactly x)) (chain_at_most xs ms w)

-- after a sum of two
pub sum_at_most : (a b : Float) (m n : ℕ) (xs : List Float) (ms : List ℕ) → UpTo m a → UpTo n b → Within xs ms → AtMost ((exactly a ⊕ exactly b) · chain (map quantity xs)) ((m + n) * product_of ms)
sum_at_most a b m n xs ms u v w =
    at_most_times (exactly a ⊕ exactly b) (chain (map quantity xs)) (m + n) (product_of ms) (at_most_plus (exactly a) (exactly b) m n u.most v.most) (chain_at_most xs ms w)

-- the chain of an equation that has one
abbrev pub term : List (List Factor) → List Factor
term [] = []
term (l ∷ ls) = l

-- the second chain of an equation that has two
abbrev pub next : List (List Factor) → List Factor
next [] = []
next (l ∷ ls) = term ls

-- T with row 0, otherwise n
pub counted : (P : ℕ → Type 0) (row T n : ℕ) → (row ≡ 0 → P T) → P n → P (cond (eqb row 0) T n)
counted P row T n f g = go (eqb row 0) refl
  where
    go : (b : Bool) → eqb row 0 ≡ b → P (cond b T n)
    go true e = f (eqb-true row 0 e)
    go false e = g

abbrev pub largest64 : ℕ
largest64 = 18446744073709551615

plain : (r n : ℕ) → r ≡ min largest64 n → n ≤ largest64 → r ≡ n
plain r n e h = omega arith

-- One chain: the code's factors fs are the chain's other factors, and k over d has the value of its numbers.
pub figure : (l fs : List Factor) (k d m r : ℕ) → r ≡ rounded_u64 (k over d · chain fs) → chain fs ≡ chain (others l) → 0 < d → 0 < (numbers l).lower
    → Same (k over d) (microgram · numbers l) → AtMost (chain fs) m → k * m ≤ largest64 * d → r ≡ rounded_up (micrograms (l ∷ []))
figure l fs k d m r u o h g e a f =
    let q : 0 < (chain fs).lower = rw o (others_positive l) in
    plain r (rounded_up ((k over d) · chain fs)) u (scaled_fits k d m largest64 (chain fs) h q a f)
    ∙ ap (λ (c : Ratio). rounded_up ((k over d) · c)) o
    ∙ rounded_same ((k over d) · chain (others l)) (microgram · numbers l · chain (others l)) (mul-pos h (others_positive l)) (mul-pos (mul-pos (omega arith) g) (others_positive l)) (same_scaled (k over d) (microgram · numbers l) (chain (others l)) e)
    ∙ ap rounded_up (sym (one_term l))

-- Two chains that share the factors fs and the value of their numbers: before fs one has p and the other q, and the code their sum.
pub figure_sum : (l m fs : List Factor) (p q : Ratio) (k d b r : ℕ) → r ≡ rounded_u64 (k over d · ((p ⊕ q) · chain fs))
    → p · chain fs ≡ chain (others l) → q · chain fs ≡ chain (others m) → 0 < d → 0 < p.lower → 0 < q.lower → 0 < (chain fs).lower
    → 0 < (numbers l).lower → 0 < (numbers m).lower → Same (k over d) (microgram · numbers l) → Same (k over d) (microgram · numbers m)
    → AtMost ((p ⊕ q) · chain fs) b → k * b ≤ largest64 * d → r ≡ rounded_up (micrograms (l ∷ m ∷ []))
unfolding AllPositive
figure_sum l m fs p q k d b r u ol om h hp hq hf hl hm el em a f =
    let c = k over d in
    let x = p · chain fs in
    let y = q · chain fs in
    let hx : 0 < x.lower = mul-pos hp hf in
    let hy : 0 < y.lower = mul-pos hq hf in
    let hs : 0 < (x ⊕ y).lower = mul-pos hx hy in
    let hc : 0 < (c · x ⊕ c · y).lower = mul-pos (mul-pos h hx) (mul-pos h hy) in
    let gl : 0 < (microgram · numbers l · x).lower = mul-pos (mul-pos (omega arith) hl) hx in
    let gm : 0 < (microgram · numbers m · y).lower = mul-pos (mul-pos (omega arith) hm) hy in
    let split : Same (c · ((p ⊕ q) · chain fs)) (c · x ⊕ c · y) =
    same_trans (c · ((p ⊕ q) · chain fs)) (c · (x ⊕ y)) (c · x ⊕ c · y) (mul-pos h hs)
    (same_times c c ((p ⊕ q) · chain fs) (x ⊕ y) refl (distributes p q (chain fs))) (distributes_left x y c) in
    let folded : Same (c · x ⊕ c · y) (microgram · numbers l · x ⊕ microgram · numbers m · y) =
    same_plus (c · x) (microgram · numbers l · x) (c · y) (microgram · numbers m · y)
    (same_scaled c (microgram · numbers l) x el) (same_scaled c (microgram · numbers m) y em) in
    let terms : Same (microgram · numbers l · x ⊕ microgram · numbers m · y) (micrograms (l ∷ m ∷ [])) =
    same_of (λ j. microgram · numbers l · ol j ⊕ microgram · numbers m · om j) refl (two_terms l m) in
    plain r (rounded_up (c · ((p ⊕ q) · chain fs))) u (scaled_fits k d b largest64 ((p ⊕ q) · chain fs) h (mul-pos (mul-pos hp hq) hf) a f)
    ∙ rounded_same (c · ((p ⊕ q) · chain fs)) (micrograms (l ∷ m ∷ [])) (mul-pos h (mul-pos (mul-pos hp hq) hf)) (emission_positive (l ∷ m ∷ []) (hl, (hm, tt)))
    (same_trans (c · ((p ⊕ q) · chain fs)) (c · x ⊕ c · y) (micrograms (l ∷ m ∷ [])) hc split
    (same_trans (c · x ⊕ c · y) (microgram · numbers l · x ⊕ microgram · numbers m · y) (micrograms (l ∷ m ∷ [])) (mul-pos gl gm) folded terms))
