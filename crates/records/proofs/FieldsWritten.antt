-- Each field in what is written: of the record `written_field`, the case as a whole `written_case`, of the trailer behind it `written_trailer`, of a trailer alone `put_trailer_field`.
-- What was spliced in is read back: `read_back`. The tables themselves are in `FieldTable`.
use mathlib.Core.Path.{◌≡◌, sym, ap, ◌∙◌}
use mathlib.Core.List.{List, ◌++◌}
use Prim.Native.Nat.{ℕ, ◌+◌, ◌*◌, ◌≤◌, ◌<◌}
use native.Mathlib.Nat.{add-zero}
use native.Mathlib.Omega.{arith}
use lib.ListN.{length, get_or, take, length-append}
use lib.Seq.{take_at, drop-append-add}
use Rattle.octets.specs.Bytes.{splice}
use Rattle.octets.proofs.Splice.{splice_read}
use Rattle.records.specs.Layout.{Line, figure_bytes, record_of, trailer, case_size, record_size, edition, bytes_at}
use Rattle.records.specs.Fields.{fields, no_field, field_bytes, trailer_fields, no_trailer_field, trailer_field_bytes}
use Rattle.records.specs.Buffer.{written}
use Rattle.records.proofs.Writing.{length_trailer}
use Rattle.records.proofs.RecordLaws.{part_part, part_append, Sized, length_record_of}
use Rattle.records.proofs.FieldTable.{fields_cover, trailer_fields_cover, field_in_record, field_in_trailer}

read_back : (l : List ℕ) (at : ℕ) (vs : List ℕ) (o w : ℕ) → at ≤ length l → o + w ≤ length vs → bytes_at (splice l at vs) (at + o) w ≡ bytes_at vs o w
read_back l at vs o w h k = sym (part_part (splice l at vs) at (length vs) o w k) ∙ ap (λ (r : List ℕ). bytes_at r o w) (splice_read l at vs h)

pub put_trailer_field : (b : List ℕ) (at n : ℕ) → at ≤ length b → (k : ℕ) → k < length trailer_fields
    → let f = get_or trailer_fields k no_trailer_field in bytes_at (splice b at (trailer record_size edition n)) (at + f.offset) f.width ≡ trailer_field_bytes n f
put_trailer_field b at n h k i =
    let f = get_or trailer_fields k no_trailer_field in
    let t = trailer record_size edition n in
    read_back b at t f.offset f.width h (rw (length_trailer record_size edition n) (trailer_fields_cover.inside k i)) ∙ field_in_trailer n k

-- a record behind n others, and the trailer behind it
module _ (b : List ℕ) (n : ℕ) (l : Line) (sized : Sized l) (inside : record_size * n ≤ length b) where
  abbrev t : List ℕ
  t = trailer record_size edition (n + 1)

  -- the case as a whole, which begins the record
  pub written_case : bytes_at (written b n l) (record_size * n) case_size ≡ l.case
  unfolding written record_of
  written_case =
      let c = sized.case_size_lem in
      let f = figure_bytes l.figures in
      let e : case_size ≤ length (record_of l) = omega (arith, length_record_of l sized) in
      ap (λ (at : ℕ). bytes_at (written b n l) at case_size) (sym (add-zero (record_size * n)))
      ∙ read_back b (record_size * n) (record_of l ++ t) 0 case_size inside (omega (arith, length-append (record_of l) t))
      ∙ part_append (record_of l) t 0 case_size e
      ∙ take_at l.case f case_size c

  pub written_field : (k : ℕ) → k < length fields
      → let f = get_or fields k no_field in bytes_at (written b n l) (record_size * n + f.offset) f.width ≡ field_bytes l f
  unfolding written
  written_field k i =
      let f = get_or fields k no_field in
      let e : f.offset + f.width ≤ length (record_of l) = rw (length_record_of l sized) (fields_cover.inside k i) in
      read_back b (record_size * n) (record_of l ++ t) f.offset f.width inside (omega (arith, length-append (record_of l) t))
      ∙ part_append (record_of l) t f.offset f.width e
      ∙ field_in_record l sized k

  pub written_trailer : (k : ℕ) → k < length trailer_fields
      → let f = get_or trailer_fields k no_trailer_field in bytes_at (written b n l) (record_size * n + record_size + f.offset) f.width ≡ trailer_field_bytes (n + 1) f
  unfolding written
  written_trailer k i =
      let f = get_or trailer_fields k no_trailer_field in
      let r = record_of l in
      let s = length_record_of l sized in
      let p : record_size * n + record_size + f.offset ≡ record_size * n + (length r + f.offset) = omega arith in
      let c = trailer_fields_cover.inside k i in
      let e : length r + f.offset + f.width ≤ length (r ++ t) = omega (arith, length-append r t, length_trailer record_size edition (n + 1)) in
      ap (λ (at : ℕ). bytes_at (splice b (record_size * n) (r ++ t)) at f.width) p
      ∙ read_back b (record_size * n) (r ++ t) (length r + f.offset) f.width inside e
      ∙ ap (take f.width) (drop-append-add r t f.offset)
      ∙ field_in_trailer (n + 1) k
