-- A figure of a case within the ranges is a number of 64 bits: `figures_fit`.
-- Each chain of an equation is at most `cap` micrograms, by the limits of its quantities (`cap_chain`), and an equation has two at the most.
use mathlib.Core.Path.{◌≡◌, refl}
use mathlib.Core.Bool.{Bool, true, cond}
use mathlib.Core.List.{List, [], ◌∷◌}
use Prim.Native.Nat.{ℕ, zero, suc, ◌+◌, ◌-◌, ◌*◌, ◌^◌, ◌≤◌, ◌<◌}
use native.Mathlib.Nat.{mul-le-mul_right}
use native.Mathlib.Omega.{arith}
use borrow.Author.Tests.{leb-true}
use lib.Dec.{leb, eqb}
use lib.Ieee.{Float}
use lib.ListN.{get_or}
use Rattle.natural.proofs.Ceiling.{ceiling_at_most}
use Rattle.octets.proofs.Bools.{every, every_at}
use Rattle.kinds.specs.Case.{refusal_of}
use Rattle.kinds.specs.Polymers.{usage_at}
use Rattle.scenario.specs.Decoding.{case_of, head_of}
use Rattle.scenario.specs.declared.Case.{Case}
use Rattle.scenario.specs.declared.Case.TheVariants.{Measured, Unknown, Application, Sanitary, Formulation, Hygiene, Toilets, Plastics}
use Rattle.scenario.specs.declared.Head.{Head}
use Rattle.product.specs.Ratio.{◌over◌, ◌·◌, exactly, rounded_up}
use Rattle.product.specs.Chain.{Factor, number, quantity, less, chain}
use Rattle.equations.specs.Rows.{cities, no_city, city_at, hygienes, no_hygiene, hygiene_at}
use Rattle.equations.specs.Equations.{total, loss, measured, measured_at, unknown, unknown_at, application, application_at, formulation, consumption, consumption_at, plastics, plastics_at, emitted, to_water, to_air, to_soil, microgram, micrograms}
use Rattle.emission.specs.Figures.{exact_values, figures_of}
use Rattle.equations.specs.Ranges.{Within, InRange}
use Rattle.equations.specs.Constants.{numbers}
use Rattle.product.proofs.Ratios.{AtMost, at_most_times}
use Rattle.equations.proofs.Chains.{others, gather}
use Rattle.equations.proofs.Multiplied.{product_of, chain_at_most, remainder_at_most, term, next}
use Rattle.emission.proofs.Accepted.{figure_rounded}
use Rattle.emission.proofs.InRanges.{in_range}
use Rattle.emission.proofs.Cases.{by_row, with_loss, with_usage, OfAll, alone, each_value}
use Rattle.emission.proofs.Positive.{lower_not_zero}

-- ── chains and sums of chains

abbrev cap : ℕ
cap = 4611686018427387904

-- at most n chains, each at most the cap
abbrev CappedBy : ℕ → List (List Factor) → Type 0
CappedBy n [] = Unit {0}
CappedBy zero (l ∷ ls) = ⊥
CappedBy (suc n) (l ∷ ls) = AtMost (microgram · chain l) cap × CappedBy n ls

abbrev Capped : List (List Factor) → Type 0
Capped = CappedBy 2

spread : (n d a b m M : ℕ) → a ≤ m * b → 1000000000 * n * m ≤ M * d → 1000000000 * (n * a) ≤ M * (1 * (d * b))
spread n d a b m M e f =
    let r : a * n ≤ m * b * n = mul-le-mul_right {m = a} {n = m * b} n e in
    let s : 1000000000 * n * m * b ≤ M * d * b = mul-le-mul_right {m = 1000000000 * n * m} {n = M * d} b f in
    omega arith

-- a chain whose quantities multiply to at most m
cap_chain : (l : List Factor) (m : ℕ) → AtMost (chain (others l)) m → 1000000000 * (numbers l).upper * m ≤ cap * (numbers l).lower → AtMost (microgram · chain l) cap
cap_chain l m a f = rw (gather l) (spread (numbers l).upper (numbers l).lower (chain (others l)).upper (chain (others l)).lower m cap a f)

plus : (a b c d M N : ℕ) → 1000000000 * a ≤ M * (1 * b) → 1000000000 * c ≤ N * (1 * d) → 1000000000 * (a * d + c * b) ≤ (M + N) * (1 * (b * d))
plus a b c d M N e f =
    let r : 1000000000 * a * d ≤ M * (1 * b) * d = mul-le-mul_right {m = 1000000000 * a} {n = M * (1 * b)} d e in
    let s : 1000000000 * c * b ≤ N * (1 * d) * b = mul-le-mul_right {m = 1000000000 * c} {n = N * (1 * d)} b f in
    omega arith

total_capped : (n : ℕ) (ls : List (List Factor)) → CappedBy n ls → AtMost (micrograms ls) (n * cap)
unfolding total
total_capped n [] h = omega arith
total_capped zero (l ∷ ls) h = absurd h
total_capped (suc n) (l ∷ ls) h =
    let e : suc n * cap ≡ cap + n * cap = omega arith in
    rw e (plus (chain l).upper (chain l).lower (total ls).upper (total ls).lower cap (n * cap) h.0 (total_capped n ls h.1))

-- ── the rows of the paper: one computed test over each table

small : ℕ → List Factor → Bool
small m l = leb (1000000000 * (numbers l).upper * m) (cap * (numbers l).lower)

cap_small : (l : List Factor) (m : ℕ) → AtMost (chain (others l)) m → small m l ≡ true → AtMost (microgram · chain l) cap
unfolding small
cap_small l m a e = cap_chain l m a (leb-true (1000000000 * (numbers l).upper * m) (cap * (numbers l).lower) e)

-- ── each kind

older_cap : (t x : ℕ) → 31 ≤ t → 1000000000 * (4000 * (x * (1 * (1 * 1)))) * (1 * (100 * (1000 * 1))) ≤ cap * (1 * (1 * (t * (x * 1))))
older_cap t x h = let p : 31 * x ≤ t * x = mul-le-mul_right {m = 31} {n = t} x h in omega arith

measured_rows : (a b c : Float) (row : ℕ) → Within (c ∷ a ∷ []) (1 ∷ 100 ∷ []) → Within (c ∷ b ∷ []) (1 ∷ 100 ∷ []) → Capped (measured_at a b c (city_at row))
unfolding small every cities city_at numbers others product_of
measured_rows a b c row v w = (
  cap_small (term (measured_at a b c (city_at row))) (product_of (1 ∷ 100 ∷ [])) (chain_at_most (c ∷ a ∷ []) (1 ∷ 100 ∷ []) v) (every_at (λ r. small 100 (term (measured_at a b c r))) (no_city ∷ cities) no_city refl refl row),
  (cap_small (next (measured_at a b c (city_at row))) (product_of (1 ∷ 100 ∷ [])) (chain_at_most (c ∷ b ∷ []) (1 ∷ 100 ∷ []) w) (every_at (λ r. small 100 (next (measured_at a b c r))) (no_city ∷ cities) no_city refl refl row), tt),
)

unknown_rows : (a c : Float) (row : ℕ) → Within (c ∷ a ∷ []) (1 ∷ 1 ∷ []) → Capped (unknown_at a c (city_at row))
unfolding small every cities city_at numbers others product_of
unknown_rows a c row w =
    (cap_small (term (unknown_at a c (city_at row))) (product_of (1 ∷ 1 ∷ [])) (chain_at_most (c ∷ a ∷ []) (1 ∷ 1 ∷ []) w) (every_at (λ r. small 1 (term (unknown_at a c r))) (no_city ∷ cities) no_city refl refl row), tt)

application_rows : (a : Float) (n row : ℕ) → small 1 (term (application_at a (number n 100) no_city)) ≡ true → every (λ r. small 1 (term (application_at a (number n 100) r))) (no_city ∷ cities) ≡ true → Within (a ∷ []) (1 ∷ []) → Capped (application_at a (number n 100) (city_at row))
unfolding city_at others product_of
application_rows a n row e f w =
    (cap_small (term (application_at a (number n 100) (city_at row))) (product_of (1 ∷ [])) (chain_at_most (a ∷ []) (1 ∷ []) w) (every_at (λ r. small 1 (term (application_at a (number n 100) r))) (no_city ∷ cities) no_city f e row), tt)

consumption_rows : (a b : Float) (row : ℕ) → Within (a ∷ b ∷ []) (1 ∷ 1 ∷ []) → Capped (consumption_at a b (hygiene_at row))
unfolding small every hygienes hygiene_at numbers others product_of
consumption_rows a b row w =
    (cap_small (term (consumption_at a b (hygiene_at row))) (product_of (1 ∷ 1 ∷ [])) (chain_at_most (a ∷ b ∷ []) (1 ∷ 1 ∷ []) w) (every_at (λ r. small 1 (term (consumption_at a b r))) (no_hygiene ∷ hygienes) no_hygiene refl refl row), tt)

by_formulation : (h : Head) (a b x : Float) → 1 ≤ h.count → Within (a ∷ b ∷ x ∷ []) (1000000 ∷ 1 ∷ 1 ∷ []) → Capped (formulation a b x h.count)
unfolding numbers others product_of
by_formulation h a b x t w = (cap_chain (term (formulation a b x h.count)) (product_of (1000000 ∷ 1 ∷ 1 ∷ [])) (chain_at_most (a ∷ b ∷ x ∷ []) (1000000 ∷ 1 ∷ 1 ∷ []) w) (omega arith), tt)

capped : (k : Case) (h : Head) → InRange k h → OfAll Capped (emitted k h)
unfolding InRange Within emitted numbers others product_of small every cities chain
capped (Measured a b c s) h r =
    let w = r.2 in
    alone (by_row Capped h.row (measured a b c (quantity s.area) h.count) (measured_at a b c (city_at h.row))
    (λ z.
    let l = r.1 z in (
      cap_chain (term (measured a b c (quantity s.area) h.count)) (product_of (1 ∷ 100 ∷ 1000 ∷ [])) (chain_at_most (c ∷ a ∷ s.area ∷ []) (1 ∷ 100 ∷ 1000 ∷ []) (w.1.1.0, (w.0, (w.1.1.1.0, tt)))) (omega arith),
      (cap_chain (next (measured a b c (quantity s.area) h.count)) (product_of (1 ∷ 100 ∷ 1000 ∷ [])) (chain_at_most (c ∷ b ∷ s.area ∷ []) (1 ∷ 100 ∷ 1000 ∷ []) (w.1.1.0, (w.1.0, (w.1.1.1.0, tt)))) (older_cap h.count (h.count - 30) l), tt),
    ))
    (measured_rows a b c h.row (w.1.1.0, (w.0, tt)) (w.1.1.0, (w.1.0, tt))))
capped (Unknown a c s) h r =
    let w = r.2 in
    alone (by_row Capped h.row (unknown a c (quantity s.area) (quantity s.volume) (quantity s.density) h.count) (unknown_at a c (city_at h.row))
    (λ z.
    let l = r.1 z in
    (cap_chain (term (unknown a c (quantity s.area) (quantity s.volume) (quantity s.density) h.count)) (product_of (1 ∷ 1000 ∷ 100 ∷ 5000 ∷ 1 ∷ [])) (chain_at_most (c ∷ s.area ∷ s.volume ∷ s.density ∷ a ∷ []) (1 ∷ 1000 ∷ 100 ∷ 5000 ∷ 1 ∷ []) w) (omega arith), tt))
    (unknown_rows a c h.row (w.0, (w.1.1.1.1.0, tt))))
capped (Application a s) h r =
    let w = r.2 in
    let own : Factor → List (List Factor) = (λ B. application a (quantity s.area) (quantity s.volume) (quantity s.density) B h.count) in
    let most = chain_at_most (s.area ∷ s.volume ∷ s.density ∷ a ∷ []) (1000 ∷ 100 ∷ 5000 ∷ 1 ∷ []) w in
    let n = r.1 in
    alone (by_row Capped h.row (own (loss h.user)) (application_at a (loss h.user) (city_at h.row))
    (λ z. with_loss Capped h.user own
    (cap_chain (term (own (number 3 100))) (product_of (1000 ∷ 100 ∷ 5000 ∷ 1 ∷ [])) most (omega arith), tt)
    (cap_chain (term (own (number 5 100))) (product_of (1000 ∷ 100 ∷ 5000 ∷ 1 ∷ [])) most (omega arith), tt))
    (with_loss Capped h.user (λ B. application_at a B (city_at h.row)) (application_rows a 3 h.row refl refl (w.1.1.1.0, tt)) (application_rows a 5 h.row refl refl (w.1.1.1.0, tt))))
capped (Sanitary a b c) h r =
    let w = r.1 in
    let D : ℕ = cond (eqb h.row 0) h.count 260 in
    let d : 1 ≤ D = by_row (λ t. 1 ≤ t) h.row h.count 260 r.0 (omega arith) in
    alone (cap_chain (term (to_water (Sanitary a b c) h)) (1000000 * (1 * product_of (1 ∷ []))) (at_most_times (exactly a) (chain (less b ∷ quantity c ∷ [])) 1000000 (1 * product_of (1 ∷ [])) w.1.0.most (remainder_at_most b (c ∷ []) (1 ∷ []) (w.1.1.0, tt))) (omega arith), tt)
capped (Formulation a b c d e) h r =
    let w = r.1 in (
      by_formulation h a b c r.0 (w.0, (w.1.0, (w.1.1.0, tt))),
      by_formulation h a b d r.0 (w.0, (w.1.0, (w.1.1.1.0, tt))),
      by_formulation h a b e r.0 (w.0, (w.1.0, (w.1.1.1.1.0, tt))),
    )
capped (Hygiene a b g m s) h r =
    let w = r.1 in
    alone (by_row Capped h.row (consumption a b (quantity g) (quantity m) (quantity s)) (consumption_at a b (hygiene_at h.row))
    (λ z. (cap_chain (term (consumption a b (quantity g) (quantity m) (quantity s))) (product_of (1 ∷ 100 ∷ 10000 ∷ 1 ∷ 1 ∷ [])) (chain_at_most (s ∷ m ∷ g ∷ a ∷ b ∷ []) (1 ∷ 100 ∷ 10000 ∷ 1 ∷ 1 ∷ []) w) (omega arith), tt))
    (consumption_rows a b h.row (w.1.1.1.0, (w.1.1.1.1.0, tt))))
capped (Toilets a b c d e) h r =
    let w = r.1 in
    let N : ℕ = cond (eqb h.row 0) h.count 1 in
    let n : N ≤ 100 = by_row (λ t. t ≤ 100) h.row h.count 1 (λ z. r.0) (omega arith) in alone (
      cap_chain (term (to_water (Toilets a b c d e) h)) (1 * (5 * (1 * (1 * product_of (1 ∷ []))))) (at_most_times (exactly a) (chain (quantity c ∷ quantity b ∷ less d ∷ quantity e ∷ [])) 1 (5 * (1 * (1 * product_of (1 ∷ [])))) w.1.0.most
          (at_most_times (exactly c) (chain (quantity b ∷ less d ∷ quantity e ∷ [])) 5 (1 * (1 * product_of (1 ∷ []))) w.1.1.0.most
          (at_most_times (exactly b) (chain (less d ∷ quantity e ∷ [])) 1 (1 * product_of (1 ∷ [])) w.1.1.1.0.most (remainder_at_most d (e ∷ []) (1 ∷ []) (w.1.1.1.1.0, tt))))) (omega arith),
      tt,
    )
capped (Plastics a b c) h r =
    let t = r.0 in
    let w = r.1 in
    let to : (x : Float) → Within (a ∷ x ∷ []) (1 ∷ 1 ∷ []) → Capped (plastics_at (usage_at h.row h.user) a x h.count) =
    (λ x v. with_usage Capped h.row h.user a x h.count tt
    (λ q l. (cap_chain (term (plastics q a x h.count)) (product_of (1 ∷ 1 ∷ [])) (chain_at_most (a ∷ x ∷ []) (1 ∷ 1 ∷ []) v) (omega arith), tt))) in
    (to c (w.0, (w.1.1.0, tt)), to b (w.0, (w.1.0, tt)), tt)

-- ── the four figures

value_most : (b : List ℕ) → refusal_of b ≡ 0 → (i : ℕ) → i < 4 → AtMost (get_or (exact_values b) i (0 over 1)) (2 * cap)
value_most b none =
    let k = case_of b in
    let h = head_of b in
    let c = capped k h (in_range b none) in
    each_value (λ p. AtMost p (2 * cap)) b (omega arith) (total_capped 2 (to_water k h) c.0, total_capped 2 (to_air k h) c.1, total_capped 2 (to_soil k h) c.2)

pub figures_fit : (b : List ℕ) → refusal_of b ≡ 0 → (i : ℕ) → i < 4 → get_or (figures_of b) i 0 < 2 ^ 64
figures_fit b e i h =
    let p = get_or (exact_values b) i (0 over 1) in
    let m : rounded_up p ≤ 2 * cap = ceiling_at_most p.upper p.lower (2 * cap) (lower_not_zero b e i h) (value_most b e i h) in
    rw (figure_rounded b e i) (omega arith)
