-- Demands 1 and 2 of single calls of the C interface, on any bytes and with any numbers.
-- `c_refusal_first`: the result is the number of the first condition of the call's list that holds, or 0, and then places and bytes are the stated ones; the result and each
-- variable of the call in plain terms: `CReturned`.
-- `c_beside_a_refusal`: what each place then holds: the buffer as it was, the used length as given (empty: 0), zeros.
-- `c_figure_bounds`: with the result 0 the figures in the caller's place are within demand 2's bounds.
use mathlib.Core.Path.{◌≡◌, refl, sym, ◌∙◌}
use mathlib.Core.List.{List, [], ◌∷◌}
use Prim.Native.Nat.{ℕ, zero, suc, ◌+◌, ◌<◌}
use lib.ListN.{get_or}
use Rattle.kinds.specs.Refusal.{IsFirst}
use Rattle.kinds.specs.Case.{refusals, refusal_of}
use Rattle.kinds.proofs.Refusals.{refusal_order}
use Rattle.product.specs.Ratio.{◌over◌}
use Rattle.emission.specs.Figures.{exact_values, WithinBounds, margin}
use Rattle.emission.specs.Called.{ends}
use Rattle.emission.proofs.Accepted.{figures_refused}
use Rattle.emission.proofs.Demand2.{figures_within}
use Rattle.records.specs.Layout.{used_length, record_size}
use Rattle.records.specs.Lines.{worst_of}
use Rattle.records.specs.Buffer.{count_at, lines_in}
use Rattle.archive.specs.Conditions.{accepted}
use Rattle.archive.specs.Offers.{offer}
use Rattle.archive.specs.Answers.{start, entry, line}
use Rattle.archive.specs.Archive.{empty_refusal, file_refusal, worst_refusal}
use Rattle.archive.proofs.AnswerLaws.{accepted_map}
use Rattle.csorvelin.specs.Place.{start_shown, length_shown}
use Rattle.history.specs.Seen.{SeenInOrder, SeenUnchanged}
use Rattle.history.specs.Interface.{CWorkOutCall, CCall, empties, files, shows, names, c_seen, CReturned}
use Rattle.history.proofs.Demand1.{way_refusal, way_in_order, way_unchanged}
use Rattle.history.proofs.Interface.{c_lawful}

entry_by : (r n v m w : ℕ) → accepted r (entry n v) (entry m w) ≡ entry (accepted r n m) (accepted r v w)
entry_by zero n v m w = refl
entry_by (suc r) n v m w = refl

c_returned : (call : CCall) (u : ℕ) (f : List ℕ) → CReturned call (c_seen call u f).answer.refusal
unfolding start_shown length_shown
c_returned (empties k) u f =
    let p : start (ends k).1.0.now ≡ start (accepted (empty_refusal k.args.0.now) 16 0) = (λ i. (k.kept.0 i).places) ∙ sym (accepted_map start (empty_refusal k.args.0.now) 16 0) in
    rw (way_refusal c_lawful (empties k) u f) (refl, cc p)
c_returned (files k) u f =
    let b = k.args.0.now in
    let v = k.args.1.0.now in
    let n = count_at b v in
    let r = file_refusal b v (offer k.args.1.1.0.now) in
    let p : entry (ends k).1.1.1.0.now (ends k).1.0.now ≡ entry (accepted r n 0) (accepted r (used_length record_size (n + 1)) v) = (λ i. (k.kept.0 i).places) ∙ entry_by r n (used_length record_size (n + 1)) 0 v in
    rw (way_refusal c_lawful (files k) u f) (refl, cc p, cc p)
c_returned (shows k) u f = rw k.kept.0 (refl, k.kept.1, k.kept.2)
c_returned (names k) u f =
    let r = worst_refusal k.args.0.now k.args.1.0 k.args.1.1.0 in
    let w = worst_of k.args.1.1.0 (lines_in k.args.0.now k.args.1.0) in
    let p : line (ends k).1.1.1.0.now ≡ line (accepted r w 0) = (λ i. (k.kept i).places) ∙ sym (accepted_map line r w 0) in
    rw (way_refusal c_lawful (names k) u f) (refl, cc p)

pub c_refusal_first :
    ((call : CWorkOutCall) → IsFirst (refusals call.args.0.now) call.result)
    × ((call : CCall) (u : ℕ) (f : List ℕ) → SeenInOrder (c_seen call u f) × CReturned call (c_seen call u f).answer.refusal)
c_refusal_first = (λ call. (refusal_order call.args.0.now call.result).0 (sym call.kept.0), λ call u f. (way_in_order c_lawful call u f, c_returned call u f))

-- Of work out the figures; of every other call buffer and places.
pub c_beside_a_refusal :
    ((call : CWorkOutCall) → (call.result ≡ 0 → ⊥) → (ends call).1.0.now ≡ 0 ∷ 0 ∷ 0 ∷ 0 ∷ [])
    × ((call : CCall) (u : ℕ) (f : List ℕ) → SeenUnchanged (c_seen call u f))
c_beside_a_refusal = (
  λ call h. call.kept.1 ∙ sym (figures_refused (call.args.0.now) (λ (z : refusal_of (call.args.0.now) ≡ 0). h (call.kept.0 ∙ z))),
  way_unchanged c_lawful,
)

-- ── demand 2

pub c_figure_bounds : (call : CWorkOutCall) → call.result ≡ 0 → (i : ℕ) → i < 4
    → WithinBounds margin (get_or (exact_values call.args.0.now) i (0 over 1)) (get_or (ends call).1.0.now i 0)
c_figure_bounds call e i h = rw call.kept.1 (figures_within call.args.0.now (sym call.kept.0 ∙ e) i h)
