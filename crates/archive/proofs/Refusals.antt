-- Laws of the refusals of this crate's calls. The laws of any list of conditions are in crate kinds.
-- `empty_named`, `state_named`, `show_named`, `worst_named`: the refusals of each call by name. `compartment_known` (12 does not hold of what is one); `full_exactly`, `full_short`, `full_most` (23 of a filing, in plain numbers).
-- A filing's list begins with the offer's own, of which none holds exactly where it is within the ranges, `own_exactly`: `behind_own`; where none of all holds, `none_of_all`; of an offer within the ranges, `within_behind`; file's is then `from_state_lem`, or else `case_refused`.
-- That a refusal is the first that holds is in `history`.
use mathlib.Core.Path.{◌≡◌, refl, sym, ◌∙◌}
use mathlib.Core.Bool.{Bool, true, false, cond}
use mathlib.Core.List.{List, [], ◌∷◌, ◌++◌}
use Prim.Native.Nat.{ℕ, zero, suc, ◌+◌, ◌-◌, ◌≤◌, ◌<◌}
use native.Mathlib.Omega.{arith}
use borrow.Author.Tests.{ltb-false, eqb-false, le-ltb, ne_eqb}
use lib.Dec.{eqb, leb, ltb}
use lib.ListN.{length}
use Rattle.kinds.specs.Number.{number}
use Rattle.kinds.specs.declared.refusal.Refusal.TheVariants.{NotCompartment, Broken, Held, Full, NoRecord}
use Rattle.kinds.specs.Refusal.{Condition, ◌when◌, first_of}
use Rattle.kinds.specs.Case.{refusals, refusal_of}
use Rattle.octets.proofs.Bools.{neither}
use Rattle.kinds.proofs.Refusals.{first_of_append, first_of_some}
use Rattle.records.specs.Compartments.{compartment_number}
use Rattle.records.specs.declared.compartment.Compartment.{Compartment}
use Rattle.records.specs.declared.compartment.Compartment.TheVariants.{Stp, SurfaceWater, Air, Soil}
use Rattle.archive.specs.Conditions.{full, not_compartment}
use Rattle.records.specs.Buffer.{count_at, broken, lines_in}
use Rattle.records.specs.Layout.{most_records, record_size, trailer_size}
use Rattle.records.specs.Lines.{held}
use Rattle.archive.specs.Offers.{Offer, offer, own_refusals, Within}
use Rattle.archive.specs.Archive.{empty_refusals, from_state, file_refusals, file_refusal, show_refusals, worst_refusals}

-- ── by name: which refusal each condition is for

pub empty_named : (b : List ℕ) → empty_refusals b ≡ (number Full when ltb (length b) trailer_size) ∷ []
unfolding empty_refusals
empty_named b = refl

pub state_named : (b : List ℕ) (u : ℕ) (o : Offer) → from_state b u o
    ≡ (number Broken when broken b u) ∷ (number Held when held (lines_in b u) o.case) ∷ (number Full when full (length b) u (count_at b u)) ∷ []
state_named b u o = refl

pub show_named : (b : List ℕ) (u k : ℕ) → show_refusals b u k ≡ (number Broken when broken b u) ∷ (number NoRecord when leb (count_at b u) k) ∷ []
unfolding show_refusals
show_named b u k = refl

pub worst_named : (b : List ℕ) (u m : ℕ) → worst_refusals b u m
    ≡ (number NotCompartment when not_compartment m) ∷ (number Broken when broken b u) ∷ (number NoRecord when eqb (count_at b u) 0) ∷ []
unfolding worst_refusals
worst_named b u m = refl

pub compartment_known : (c : Compartment) → not_compartment (compartment_number c) ≡ false
compartment_known Stp = refl
compartment_known SurfaceWater = refl
compartment_known Air = refl
compartment_known Soil = refl

-- ── free space in plain numbers

free_then : (size used n : ℕ) → full size used n ≡ false → (used + 96 ≤ size) × (n ≡ 1000000 → ⊥)
unfolding full
free_then size used n e =
    let p = neither _ _ e in
    let r : record_size ≤ size - used = ltb-false _ _ p.0 in
    (omega arith, eqb-false _ _ p.1)

then_free : (size used n : ℕ) → used + 96 ≤ size → (n ≡ 1000000 → ⊥) → full size used n ≡ false
unfolding full
then_free size used n h o = rw (le-ltb (size - used) record_size (omega arith), ne_eqb n most_records o)

pub full_exactly : (size used n : ℕ) → (full size used n ≡ false → (used + 96 ≤ size) × (n ≡ 1000000 → ⊥)) × (used + 96 ≤ size → (n ≡ 1000000 → ⊥) → full size used n ≡ false)
full_exactly size used n = (free_then size used n, then_free size used n)

is_full : (size used n : ℕ) → (full size used n ≡ false → ⊥) → full size used n ≡ true
is_full size used n h = go (full size used n) refl
  where
    go : (t : Bool) → full size used n ≡ t → t ≡ true
    go true e = refl
    go false e = absurd (h e)

pub full_short : (size used n : ℕ) → size < used + 96 → full size used n ≡ true
full_short size used n h = is_full size used n (λ e. omega (arith, ((full_exactly size used n).0 e).0))

pub full_most : (size used n : ℕ) → n ≡ 1000000 → full size used n ≡ true
full_most size used n h = is_full size used n (λ e. ((full_exactly size used n).0 e).1 h)

-- ── file

both_zero : (r q : ℕ) → cond (eqb r 0) q r ≡ 0 → (r ≡ 0) × (q ≡ 0)
both_zero zero q e = (refl, e)
both_zero (suc r) q e = absurd (omega (arith, (rw (ne_eqb (suc r) 0 (λ z. omega arith)) at e)))

-- an offer is within the ranges when it has no refusal of its own
own_exactly : (o : Offer) → (first_of (own_refusals o) ≡ 0 → Within o) × (Within o → first_of (own_refusals o) ≡ 0)
unfolding refusal_of
own_exactly o = (λ e. record { case_within = e }, λ w. w.case_within)

-- others behind them: those from the state, or the ledger's from its lines
pub behind_own : (o : Offer) (ds : List Condition) → first_of (own_refusals o ++ ds) ≡ cond (eqb (first_of (own_refusals o)) 0) (first_of ds) (first_of (own_refusals o))
behind_own o ds = first_of_append (own_refusals o) ds refl

pub none_of_all : (o : Offer) (ds : List Condition) → first_of (own_refusals o ++ ds) ≡ 0 → Within o × (first_of ds ≡ 0)
none_of_all o ds e = let z = both_zero (first_of (own_refusals o)) (first_of ds) (sym (behind_own o ds) ∙ e) in ((own_exactly o).0 z.0, z.1)

pub within_behind : (o : Offer) (ds : List Condition) → Within o → first_of (own_refusals o ++ ds) ≡ first_of ds
within_behind o ds w = behind_own o ds ∙ rw ((own_exactly o).1 w)

-- file's refusal: from the state where the offer is within the ranges, and the case's own where it has one
pub from_state_lem : (b : List ℕ) (u : ℕ) (o : Offer) → Within o → file_refusal b u o ≡ first_of (from_state b u o)
unfolding file_refusals
from_state_lem b u o = within_behind o (from_state b u o)

pub case_refused : (b : List ℕ) (u : ℕ) (o : Offer) (r : ℕ) → r ≡ refusal_of o.case → (r ≡ 0 → ⊥) → r ≡ file_refusal b u o
unfolding file_refusals refusal_of
case_refused b u o r e h = first_of_some (refusals o.case) (from_state b u o) r refl e h

-- from the state, where the case has no refusal
pub behind_case : (b : List ℕ) (u : ℕ) {c d : List ℕ} {r : ℕ} → 0 ≡ refusal_of c → d ≡ c → r ≡ first_of (from_state b u (offer d)) → r ≡ file_refusal b u (offer c)
behind_case b u {c} z e q = q ∙ rw e (sym (from_state_lem b u (offer c) (record { case_within = sym z })))
