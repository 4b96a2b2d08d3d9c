-- What is left of the buffer by an accepted empty, `empty_left`, and by an accepted filing, `file_left`, by what it answers: each field of what is written, and that every other byte is as it was.
-- That this tells every byte is in `LeftWhole`.
use mathlib.Core.Path.{◌≡◌, refl, sym, ◌∙◌}
use mathlib.Core.List.{List, [], ◌∷◌, ◌++◌}
use Prim.Native.Nat.{ℕ, ◌+◌, ◌*◌, ◌≤◌}
use native.Mathlib.Omega.{arith}
use borrow.Author.Tests.{ltb-false}
use lib.ListN.{length, take, length-append}
use Rattle.octets.specs.Bytes.{bytes_of, splice}
use Rattle.octets.proofs.Splice.{length_splice, splice_before, splice_behind}
use Rattle.kinds.proofs.Refusals.{none_holds}
use Rattle.emission.specs.Figures.{figures_of}
use Rattle.records.specs.Layout.{record_of, trailer, trailer_size, used_length, record_size, edition}
use Rattle.records.specs.Buffer.{count_at, written}
use Rattle.records.proofs.Writing.{length_trailer}
use Rattle.records.proofs.RecordLaws.{Sized, length_record_of}
use Rattle.records.proofs.FieldTable.{field_wide}
use Rattle.records.proofs.FieldsWritten.{put_trailer_field, written_case, written_field, written_trailer}
use Rattle.archive.specs.Offers.{Offer}
use Rattle.archive.specs.Answers.{start, entry, emptied, filed}
use Rattle.archive.specs.Archive.{empty_refusals, empty_refusal, empty_answer, empty_bytes, file_refusal, line_for, file_answer, file_bytes}
use Rattle.archive.specs.Left.{LeftByEmpty, LeftByFile}
use Rattle.archive.proofs.Cases.{sized_line}
use Rattle.archive.proofs.Accepted.{free_facts}

-- ── empty

module _ (b : List ℕ) (e : empty_refusal b ≡ 0) where
  room : 16 ≤ length b
  unfolding empty_refusals
  room = ltb-false _ _ (none_holds (empty_refusals b) refl e 0)

  emptied_bytes : take 16 (splice b 0 (trailer record_size edition 0)) ≡ 0 ∷ 0 ∷ 0 ∷ 0 ∷ 0 ∷ 0 ∷ 0 ∷ 0 ∷ 0 ∷ 0 ∷ 0 ∷ 0 ∷ 1 ∷ 0 ∷ 0 ∷ 0 ∷ []
  unfolding splice trailer bytes_of
  emptied_bytes = refl

  emptied_left : LeftByEmpty b (empty_bytes b)
  emptied_left =
      let l = length_trailer record_size edition 0 in
      rw e (record {
        size = length_splice b 0 (trailer record_size edition 0) (omega (arith, room));
        bytes = emptied_bytes;
        in_trailer = put_trailer_field b 0 0 (omega arith);
        behind = λ i h. splice_behind b 0 (trailer record_size edition 0) (omega arith) i (omega arith);
      })

pub empty_left : (b : List ℕ) (v : ℕ) → emptied 0 v ≡ empty_answer b → (v ≡ 16) × LeftByEmpty b (empty_bytes b)
empty_left b v e =
    let z : empty_refusal b ≡ 0 = λ i. (sym e i).refusal in
    let p : start v ≡ start 16 = (λ i. (e i).places) ∙ rw z in
    (cc p, emptied_left b z)

-- ── file

module _ (b : List ℕ) (u : ℕ) (o : Offer) (e : file_refusal b u o ≡ 0) where
  abbrev n : ℕ
  n = count_at b u

  -- what is written
  abbrev vs : List ℕ
  vs = record_of (line_for o) ++ trailer record_size edition (n + 1)

  sized : Sized (line_for o)
  sized = sized_line o (free_facts b u o e).within

  length_vs : length vs ≡ record_size + trailer_size
  length_vs = length-append (record_of (line_for o)) (trailer record_size edition (n + 1)) ∙ rw (length_record_of (line_for o) sized, length_trailer record_size edition (n + 1))

  fits : record_size * n + (record_size + trailer_size) ≤ length b
  fits = let f = free_facts b u o e in omega (arith, f.length_is, f.room)

  filed_left : LeftByFile n (line_for o) b (file_bytes b u o)
  unfolding written
  filed_left =
      rw e (record {
        size = length_splice b (record_size * n) vs (omega (arith, length_vs, fits));
        before = λ i h. splice_before b (record_size * n) vs (omega (arith, fits)) i (omega arith);
        case = written_case b n (line_for o) sized (omega (arith, fits));
        in_record = λ k h. (written_field b n (line_for o) sized (omega (arith, fits)) k h, field_wide (line_for o) sized k h);
        in_trailer = written_trailer b n (line_for o) sized (omega (arith, fits));
        behind = λ i h. splice_behind b (record_size * n) vs (omega (arith, fits)) i (omega (arith, length_vs));
      })

pub file_left : (b : List ℕ) (u : ℕ) (o : Offer) (n v : ℕ) → filed 0 n v ≡ file_answer b u o → (v ≡ 96 * n + 112) × LeftByFile n (record { case = o.case; figures = figures_of o.case }) b (file_bytes b u o)
file_left b u o n v e =
    let z : file_refusal b u o ≡ 0 = λ i. (sym e i).refusal in
    let p : entry n v ≡ entry (count_at b u) (used_length record_size (count_at b u + 1)) = (λ i. (e i).places) ∙ rw z in
    let m : n ≡ count_at b u = cc p in
    let q : v ≡ used_length record_size (count_at b u + 1) = cc p in
    (omega (arith, m, q), rw m (filed_left b u o z))
