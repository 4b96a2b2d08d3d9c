-- A buffer that holds the archive of some lines up to a used length: `HoldsLines`.
-- What its trailer and records say: `count_is`, `sound_is`, `lines_are`, `record_is`. After empty: `emptied_holds`; after an accepted filing: `written_holds`.
-- Sizes: `length_emptied`, `length_written`.
use mathlib.Core.Path.{◌≡◌, refl, sym, ap, ◌∙◌}
use mathlib.Core.Bool.{false}
use mathlib.Core.List.{List, [], ◌∷◌, ◌++◌, append_assoc}
use Prim.Native.Nat.{ℕ, ◌+◌, ◌*◌, ◌≤◌, ◌<◌}
use native.Mathlib.Omega.{arith}
use lib.ListN.{length, get_or, take, drop, length-append, take-append-drop}
use lib.Seq.{take_at}
use Rattle.octets.specs.Bytes.{splice}
use Rattle.octets.proofs.Splice.{length_splice}
use Rattle.records.specs.Layout.{Line, no_line, record_of, records, trailer, archive_of, first_lines, trailer_size, used_length, most_records, record_size, edition, record_at}
use Rattle.records.specs.Buffer.{count_at, broken, lines_in, written}
use Rattle.records.proofs.RecordLaws.{AllStorable, Storable, storable_snoc, length_record_of, length_records, first_lines_records, record_at_lem, records_snoc}
use Rattle.records.proofs.Trailer.{TrailerRead, trailer_read, trailer_sound}
use Rattle.records.proofs.Writing.{length_trailer}

pub record HoldsLines (b : List ℕ) (u : ℕ) (ls : List Line) : Type 0 where
  pub storable : AllStorable ls
  pub few : length ls ≤ most_records
  pub length_is : u ≡ used_length record_size (length ls)
  pub inside : u ≤ length b
  pub bytes : take u b ≡ archive_of record_size edition ls

module _ {b : List ℕ} {u : ℕ} {ls : List Line} (s : HoldsLines b u ls) where
  abbrev n : ℕ
  n = length ls

  abbrev rest : List ℕ
  rest = drop u b

  whole : b ≡ records ls ++ (trailer record_size edition (length ls) ++ drop u b)
  unfolding archive_of
  whole = sym (take-append-drop u b) ∙ ap (λ (r : List ℕ). r ++ drop u b) s.bytes ∙ append_assoc (records ls) (trailer record_size edition (length ls)) (drop u b)

  long : length (records ls) ≡ record_size * length ls
  long = length_records ls s.storable

  read : TrailerRead b u record_size edition n
  read = trailer_read (records ls) rest whole (omega (arith, long, s.length_is)) (omega (arith, s.few)) (omega (arith, s.few)) (omega arith)

  pub count_is : count_at b u ≡ length ls
  count_is = read.count_is

  pub sound_is : broken b u ≡ false
  sound_is = trailer_sound read s.length_is s.inside s.few

  pub lines_are : lines_in b u ≡ ls
  lines_are = rw count_is (ap (first_lines record_size n) whole ∙ first_lines_records ls (trailer record_size edition n ++ rest) s.storable)

  pub record_is : (k : ℕ) → k < length ls → record_at record_size b k ≡ record_of (get_or ls k no_line)
  record_is k h = ap (λ (r : List ℕ). record_at record_size r k) whole ∙ record_at_lem ls (trailer record_size edition n ++ rest) k s.storable h

  front : take (record_size * length ls) b ≡ records ls
  front = ap (take (record_size * n)) whole ∙ take_at (records ls) (trailer record_size edition n ++ rest) (record_size * n) long

-- ── after empty

pub length_emptied : (b : List ℕ) → trailer_size ≤ length b → length (splice b 0 (trailer record_size edition 0)) ≡ length b
length_emptied b h = length_splice b 0 (trailer record_size edition 0) (omega (arith, length_trailer record_size edition 0))

pub emptied_holds : (b : List ℕ) → trailer_size ≤ length b → HoldsLines (splice b 0 (trailer record_size edition 0)) trailer_size []
unfolding archive_of records splice
emptied_holds b h = record {
  storable = tt;
  few = omega arith;
  length_is = refl;
  inside = omega (arith, length_emptied b h);
  bytes = take_at (trailer record_size edition 0) (drop (0 + length (trailer record_size edition 0)) b) trailer_size (length_trailer record_size edition 0);
}

-- ── after a filing

module _ {b : List ℕ} {u : ℕ} {ls : List Line} (s : HoldsLines b u ls) (l : Line) (g : Storable l) (room : u + record_size ≤ length b) (fewer : length ls < most_records) where
  abbrev T : List ℕ
  T = trailer record_size edition (length ls + 1)

  size : length (record_of l ++ T) ≡ record_size + trailer_size
  size = length-append (record_of l) T ∙ omega (arith, length_record_of l g.sized, length_trailer record_size edition (length ls + 1))

  pub length_written : length (written b (length ls) l) ≡ length b
  unfolding written
  length_written = length_splice b (record_size * length ls) (record_of l ++ T) (omega (arith, size, s.length_is))

  one_more : length (ls ++ (l ∷ [])) ≡ length ls + 1
  one_more = length-append ls (l ∷ [])

  abbrev A : List ℕ
  A = archive_of record_size edition (ls ++ (l ∷ []))

  as_archive : written b (length ls) l ≡ A ++ drop (used_length record_size (length ls + 1)) b
  unfolding written splice archive_of
  as_archive =
      let e : record_size * length ls + length (record_of l ++ T) ≡ used_length record_size (length ls + 1) = omega (arith, size) in
      rw (e, front s, one_more, records_snoc ls l) (simp append_assoc)

  length_archive : length A ≡ used_length record_size (length ls + 1)
  unfolding archive_of
  length_archive =
      length-append (records (ls ++ (l ∷ []))) (trailer record_size edition (length (ls ++ (l ∷ []))))
      ∙ omega (arith, length_records (ls ++ (l ∷ [])) (storable_snoc ls l s.storable g), length_trailer record_size edition (length (ls ++ (l ∷ []))), one_more)

  pub written_holds : HoldsLines (written b (length ls) l) (used_length record_size (length ls + 1)) (ls ++ (l ∷ []))
  written_holds = record {
    storable = storable_snoc ls l s.storable g;
    few = omega (arith, one_more);
    length_is = omega (arith, one_more);
    inside = omega (arith, length_written, s.length_is);
    bytes = ap (take (used_length record_size (length ls + 1))) as_archive ∙ take_at A (drop (used_length record_size (length ls + 1)) b) (used_length record_size (length ls + 1)) length_archive;
  }
