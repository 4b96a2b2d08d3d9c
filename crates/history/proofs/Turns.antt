-- What goes through the induction, as one record: `Stands`. One call from there, by any lawful way, answers as the ledger does and stands again: `kept`.
-- A request's effect on the buffer and the ledger's ruling are alike, `alike`, one clause for each request; the refused case is one law for all of them.
-- The first empty, from any buffer: `first_stands`.
use mathlib.Core.Path.{◌≡◌, refl, sym, ap, ◌∙◌}
use mathlib.Core.List.{List, [], ◌∷◌, ◌++◌}
use Prim.Native.Nat.{ℕ, zero, suc, ◌+◌, ◌≤◌, ◌<◌}
use native.Mathlib.Omega.{arith}
use borrow.Author.Tests.{ltb-false, leb-false}
use lib.Dec.{ltb, leb}
use lib.ListN.{length}
use Rattle.kinds.specs.Refusal.{◌when◌, first_of}
use Rattle.kinds.specs.Case.{refusal_of}
use Rattle.kinds.proofs.Refusals.{none_holds}
use Rattle.emission.proofs.Demand2.{figure_bounds}
use Rattle.records.specs.Layout.{Line, trailer_size, used_length, most_records, record_size}
use Rattle.records.specs.Buffer.{written}
use Rattle.records.proofs.Holding.{HoldsLines, count_is, sound_is, lines_are, record_is, length_emptied, emptied_holds, length_written, written_holds}
use Rattle.archive.specs.Conditions.{accepted}
use Rattle.archive.specs.Offers.{Offer, Within, line_with}
use Rattle.archive.specs.Answers.{start, entry, part, Answer, emptied, used_in, handed, Effect, refusal_by, answer_by, left_by}
use Rattle.archive.specs.Archive.{empty_refusals, empty_effect, empty_refusal, from_state, file_refusals, line_for, show_refusals, worst_refusals}
use Rattle.archive.proofs.AnswerLaws.{same_answer}
use Rattle.archive.proofs.Cases.{storable_line}
use Rattle.archive.proofs.Refusals.{full_exactly, behind_own, none_of_all}
use Rattle.history.specs.Ledger.{Request, empty, file, show, worst, from_lines, judged_file, ruling, answer, after}
use Rattle.history.specs.Seen.{effect, Way}
use Rattle.history.specs.Calls.{WorkedOut}
use Rattle.history.specs.History.{FedBy, TurnBy, HeldLine, AllHeld}
use Rattle.history.proofs.Lawful.{Lawful, fed_map, turn_does, worked_figures}

-- the buffer b of a size, at the used length u, holds the lines ls, each worked out and within its bounds
pub record Stands (size : ℕ) (b : List ℕ) (u : ℕ) (ls : List Line) : Type 0 where
  pub holds : HoldsLines b u ls
  pub size_is : length b ≡ size
  pub held : AllHeld ls

pub record Kept (size u : ℕ) (ls : List Line) (c : Request) (a : Answer) (b' : List ℕ) : Type 0 where
  pub answered : a ≡ answer size ls c
  pub stands : Stands size b' (handed a u) (after size ls c)

-- ── lines

all_held_snoc : (ls : List Line) (l : Line) → AllHeld ls → HeldLine l → AllHeld (ls ++ (l ∷ []))
all_held_snoc [] l g h = (h, tt)
all_held_snoc (m ∷ ls) l g h = (g.0, all_held_snoc ls l g.1 h)

held_line : (o : Offer) (f : List ℕ) → Within o → WorkedOut o.case f → HeldLine (line_with o f)
held_line o f r w =
    let k = w.call in
    let e = r.case_within in
    record { within_ranges = e; worked = w; bounds = λ i h. rw (← w.on, w.gave) (figure_bounds k (k.kept.0 ∙ ap refusal_of w.on ∙ e) i h) }

-- ── empty, on any buffer

emptied_stands : (b : List ℕ) → refusal_by (ruling (length b) [] empty) ≡ 0 → Stands (length b) (empty_effect b).leaves trailer_size []
emptied_stands b z =
    let h = ltb-false (length b) trailer_size (none_holds ((23 when ltb (length b) trailer_size) ∷ []) refl z 0) in
    record { holds = emptied_holds b h; size_is = length_emptied b h; held = tt }

-- ── a call from a buffer b that holds the lines ls at the used length u

module _ {b : List ℕ} {u : ℕ} {ls : List Line} (h : HoldsLines b u ls) (g : AllHeld ls) where
  still : Stands (length b) b u ls
  still = record { holds = h; size_is = refl; held = g }

  record FreeLines (o : Offer) : Type 0 where
    pub within : Within o
    pub room : u + record_size ≤ length b
    pub fewer : length ls < most_records

  free_lines : (o : Offer) → first_of (judged_file (length b) ls o) ≡ 0 → FreeLines o
  unfolding judged_file
  free_lines o e =
      let z = none_of_all o (from_lines (length b) ls o) e in
      let f = (full_exactly (length b) (used_length record_size (length ls)) (length ls)).0 (none_holds (from_lines (length b) ls o) refl z.1 1) in
      let n = f.1 in
      record { within = z.0; room = rw h.length_is f.0; fewer = omega (arith, h.few) }

  file_stands : (o : Offer) (f : List ℕ) → FreeLines o → (Within o → WorkedOut o.case f)
      → Stands (length b) (written b (length ls) (line_for o)) (used_length record_size (length ls + 1)) (ls ++ (line_with o f ∷ []))
  file_stands o f z fed =
      let w = fed z.within in
      let l = storable_line o z.within in
      record {
        holds = rw (worked_figures w) (written_holds h (line_for o) l z.room z.fewer);
        size_is = length_written h (line_for o) l z.room z.fewer;
        held = all_held_snoc ls (line_with o f) g (held_line o f z.within w);
      }

  -- the same refusal; where there is none the same places, and a buffer that stands; the same places beside a refusal
  record Alike (e : Effect (List ℕ)) (j : Effect (List Line)) : Type 0 where
    pub refused : refusal_by e ≡ refusal_by j
    pub given : refusal_by j ≡ 0 → e.gives ≡ j.gives
    pub stands : refusal_by j ≡ 0 → Stands (length b) e.leaves (used_in e.gives u) j.leaves
    pub beside : e.beside ≡ j.beside

  alike : (c : Request) → FedBy WorkedOut c → Alike (effect c b u) (ruling (length b) ls c)
  unfolding empty_refusals file_refusals judged_file show_refusals worst_refusals
  alike empty d = record { refused = refl; given = λ z. refl; stands = emptied_stands b; beside = refl }
  alike (file o f) d = record {
    refused = behind_own o (from_state b u o) ∙ rw (sound_is h, lines_are h, count_is h, h.length_is) (sym (behind_own o (from_lines (length b) ls o)));
    given = λ z. rw (count_is h);
    stands = λ z. rw (count_is h) (file_stands o f (free_lines o z) d);
    beside = ap (entry 0) h.length_is;
  }
  alike (show k) d = record {
    refused = rw (sound_is h, count_is h);
    given = λ z. ap part (record_is h k (leb-false (length ls) k (none_holds ((24 when leb (length ls) k) ∷ []) refl z 0)));
    stands = λ z. still;
    beside = refl;
  }
  alike (worst m) d = record { refused = rw (sound_is h, count_is h); given = λ z. rw (lines_are h); stands = λ z. still; beside = refl }

  -- by the refusal
  either : (e : Effect (List ℕ)) (j : Effect (List Line)) (r : ℕ) → (r ≡ 0 → Stands (length b) e.leaves (used_in e.gives u) j.leaves)
      → Stands (length b) (accepted r e.leaves b) (accepted r (used_in (accepted r e.gives e.beside) u) u) (accepted r j.leaves ls)
  either e j zero s = s refl
  either e j (suc r) s = still

  kept_of : (c : Request) → FedBy WorkedOut c → Kept (length b) u ls c (answer_by (effect c b u)) (left_by (effect c b u) b)
  unfolding answer after
  kept_of c d =
      let a = alike c d in
      let e = effect c b u in
      let j = ruling (length b) ls c in
      record { answered = same_answer e j a.refused a.given a.beside; stands = rw a.refused (either e j (refusal_by j) a.stands) }

pub kept : {W : Way} (l : Lawful W) {size : ℕ} {b : List ℕ} {u : ℕ} {ls : List Line} (c : Request) {a : Answer} {b' : List ℕ} → Stands size b u ls → TurnBy W c b u a b' → Kept size u ls c a b'
kept l c s t =
    let d = turn_does l t in
    rw (d.answer_is, d.after_is, ← s.size_is) (kept_of s.holds s.held c (fed_map l.worked c t.fed))

-- ── the first call, an accepted empty, on any buffer

pub first_stands : {W : Way} (l : Lawful W) {b : List ℕ} {u v : ℕ} {b' : List ℕ} → TurnBy W empty b u (emptied 0 v) b'
    → (emptied 0 v ≡ answer (length b) [] empty) × (after (length b) [] empty ≡ []) × Stands (length b) b' v []
unfolding answer after empty_refusals
first_stands l {b} {u} {v} t =
    let d = turn_does l t in
    let r = empty_refusal b in
    let z : 0 ≡ r = λ i. (d.answer_is i).refusal in
    let w : v ≡ used_in (accepted r (start 16) (start 0)) 0 = (λ i. used_in (d.answer_is i).places 0) in
    (d.answer_is, rw (← z), rw (d.after_is, w, ← z) (emptied_stands b (sym z)))
