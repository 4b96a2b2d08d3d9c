-- What a call may rely on once it is not refused: `Shown` with `shown_facts`, `Free` with `free_facts`.
-- What worst then tells: `worst_told`. What file answers and leaves: `file_refused`, `file_accepted`; every byte of it, field by field and in plain numbers, is in `Left`.
use mathlib.Core.Path.{◌≡◌, refl, sym, ap, ◌∙◌}
use mathlib.Core.List.{List}
use Prim.Native.Nat.{ℕ, ◌+◌, ◌*◌, ◌≤◌, ◌<◌}
use native.Mathlib.Omega.{arith}
use borrow.Author.Tests.{leb-false, eqb-false}
use lib.ListN.{length}
use Rattle.emission.specs.Figures.{figures_of}
use Rattle.records.specs.Layout.{used_length, most_records, record_size}
use Rattle.records.specs.Lines.{worst_of, IsWorst}
use Rattle.records.specs.Buffer.{count_at, lines_in, written}
use Rattle.records.proofs.RecordLaws.{length_first_lines}
use Rattle.records.proofs.WorstLine.{worst_is_highest}
use Rattle.records.proofs.Trailer.{sound_facts}
use Rattle.archive.specs.Offers.{Offer, Within}
use Rattle.archive.specs.Answers.{line, named, of_filing}
use Rattle.archive.specs.Archive.{show_refusals, show_refusal, from_state, file_refusals, file_refusal, file_answer, file_bytes, filing, worst_refusals, worst_refusal, worst_answer}
use Rattle.std.specs.Prelude.{Result, Ok, Err}
use Rattle.kinds.specs.Number.{number}
use Rattle.kinds.specs.declared.refusal.Refusal.{Refusal}
use Rattle.kinds.proofs.Refusals.{none_holds}
use Rattle.archive.specs.declared.Filed.{Filed}
use Rattle.archive.proofs.AnswerLaws.{beside, refused_as, of_filing_lem}
use Rattle.archive.proofs.Refusals.{full_exactly, none_of_all}

-- ── show that is not refused

pub record Shown (b : List ℕ) (u k : ℕ) : Type 0 where
  pub few : k < most_records
  pub inside : record_size * k + record_size ≤ length b

pub shown_facts : (b : List ℕ) (u k : ℕ) → show_refusal b u k ≡ 0 → Shown b u k
unfolding show_refusals
shown_facts b u k e =
    let h = none_holds (show_refusals b u k) refl e in
    let s = sound_facts b u (h 0) in
    let l : k < count_at b u = leb-false (count_at b u) k (h 1) in
    record { few = omega arith; inside = omega arith }

-- ── a filing that is not refused

pub record Free (b : List ℕ) (u : ℕ) (o : Offer) : Type 0 where
  pub within : Within o
  pub length_is : u ≡ used_length record_size (count_at b u)
  pub room : u + record_size ≤ length b
  pub fewer : count_at b u < most_records

pub free_facts : (b : List ℕ) (u : ℕ) (o : Offer) → file_refusal b u o ≡ 0 → Free b u o
unfolding file_refusals
free_facts b u o e =
    let z = none_of_all o (from_state b u o) e in
    let h = none_holds (from_state b u o) refl z.1 in
    let s = sound_facts b u (h 0) in
    let f = (full_exactly (length b) u (count_at b u)).0 (h 2) in
    let n = f.1 in
    record { within = z.0; length_is = s.length_is; room = f.0; fewer = omega (arith, s.few) }

pub file_refused : (b : List ℕ) (u : ℕ) (o : Offer) (r : Refusal) → number r ≡ file_refusal b u o
    → (Err r ≡ filing b u o) × (b ≡ file_bytes b u o) × (of_filing (Err r) u ≡ file_answer b u o)
unfolding filing
file_refused b u o r e =
    let a : Err r ≡ filing b u o = refused_as r _ e in
    (a, sym (beside r _ b e), ap (λ f. of_filing f u) a ∙ of_filing_lem b u o)

pub file_accepted : (b : List ℕ) (u : ℕ) (o : Offer) {n : ℕ} {c f b' : List ℕ} → file_refusal b u o ≡ 0 → n ≡ count_at b u → c ≡ o.case → f ≡ figures_of o.case
    → b' ≡ written b n (record { case = c; figures = f })
    → let a : Result Filed Refusal = Ok (record { number = n; used = u + record_size }) in
    (a ≡ filing b u o) × (b' ≡ file_bytes b u o) × (of_filing a u ≡ file_answer b u o)
unfolding filing
file_accepted b u o {n} e m d g w =
    let h = free_facts b u o e in
    let z : u + record_size ≡ used_length record_size (count_at b u + 1) = omega (arith, h.length_is) in
    let x : Result Filed Refusal = Ok (record { number = n; used = u + record_size }) in
    let a : x ≡ filing b u o = rw (e, z, m) in
    (a, w ∙ rw (e, m, d, g), ap (λ f. of_filing f u) a ∙ of_filing_lem b u o)

-- ── worst that is not refused

-- it names the worst record: without refusal 24 there is a line, and so a worst one
pub worst_told : (b : List ℕ) (u m k : ℕ) → named 0 k ≡ worst_answer b u m → IsWorst m (lines_in b u) k
unfolding worst_refusals
worst_told b u m k e =
    let z : worst_refusal b u m ≡ 0 = λ i. (sym e i).refusal in
    let n = eqb-false (count_at b u) 0 (none_holds (worst_refusals b u m) refl z 2) in
    let l = length_first_lines record_size (count_at b u) b in
    let p : line k ≡ line (worst_of m (lines_in b u)) = (λ i. (e i).places) ∙ rw z in
    let w : k ≡ worst_of m (lines_in b u) = cc p in
    rw w (worst_is_highest m (lines_in b u) (omega arith))
