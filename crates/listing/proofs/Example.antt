-- `printed_example`: paper 01's printed example, one record, of case P1.
-- `printed_none`: no record, the header alone; `printed_refusal`: no byte at all, the refusal alone.
-- `printed_columns`: two records, the columns of the first all different, so that each field is seen to stand in its own column.
-- `printed_long`, `printed_broken`, `printed_archive`: every input, in plain numbers: over 65,536 bytes, refused by 21, and all others.
use mathlib.Core.Path.{◌≡◌, refl}
use mathlib.Core.Bool.{true, false}
use mathlib.Core.List.{List, [], ◌∷◌, ◌++◌}
use Prim.Native.Nat.{ℕ, ◌≤◌, ◌<◌}
use borrow.Author.Tests.{lt-ltb, le-ltb}
use lib.ListN.{length}
use Rattle.natural.specs.Ceiling.{ceiling}
use Rattle.octets.specs.Bytes.{bytes_of, number_of, number_at}
use Rattle.kinds.specs.Builder.{case_bytes, hundred, unit}
use Rattle.records.specs.Layout.{figure_bytes, record_of, records, trailer, archive_of, figures_in, line_of, first_lines, record_size, edition}
use Rattle.records.specs.Buffer.{broken, lines_in}
use Rattle.listing.specs.Decimal.{digits_within, digits, decimal}
use Rattle.listing.specs.Listing.{codes, header, refusal, refused, columns_of, columns_text, line_text, lines_text, listing_of}

abbrev pub example : List ℕ
example = archive_of record_size edition (record { case = case_bytes 4 1 1 0 0 7 hundred 0 unit 0 0 0; figures = 76923077 ∷ 0 ∷ 0 ∷ 0 ∷ [] } ∷ [])

pub printed_example : listing_of example ≡ codes "n dossier kind row route stp surface air soil\n0 7 4 1 1 76924 0 0 0\n"
unfolding listing_of refused broken header codes archive_of records record_of figure_bytes trailer case_bytes bytes_of number_at number_of first_lines line_of figures_in lines_text line_text columns_text columns_of decimal digits digits_within ceiling
printed_example = refl

-- the quantities are not printed; figures around a thousand micrograms
abbrev pub two_records : List ℕ
two_records =
    archive_of
    record_size
    edition
    (record { case = case_bytes 3 4 2 1 0 12 0 0 0 0 0 0; figures = 5001 ∷ 7000 ∷ 7001 ∷ 8999 ∷ [] } ∷ record { case = case_bytes 1 0 2 0 31 13 0 0 0 0 0 0; figures = 0 ∷ 1 ∷ 0 ∷ 0 ∷ [] } ∷ [])

pub printed_columns : listing_of two_records ≡ codes "n dossier kind row route stp surface air soil\n0 12 3 4 2 6 7 8 9\n1 13 1 0 2 0 1 0 0\n"
unfolding listing_of refused broken header codes archive_of records record_of figure_bytes trailer case_bytes bytes_of number_at number_of first_lines line_of figures_in lines_text line_text columns_text columns_of decimal digits digits_within ceiling
printed_columns = refl

pub printed_none : listing_of (archive_of record_size edition []) ≡ codes "n dossier kind row route stp surface air soil\n"
unfolding listing_of refused broken header codes archive_of records trailer bytes_of number_at number_of first_lines lines_text
printed_none = refl

pub printed_refusal : listing_of [] ≡ codes "refused 21\n"
unfolding listing_of refused broken refusal codes number_at number_of
printed_refusal = refl

pub printed_long : (w : List ℕ) → 65536 < length w → listing_of w ≡ codes "refused 21\n"
unfolding listing_of refused refusal
printed_long w h = rw (lt-ltb 65536 (length w) h)

pub printed_broken : (w : List ℕ) → length w ≤ 65536 → broken w (length w) ≡ true → listing_of w ≡ codes "refused 21\n"
unfolding listing_of refused refusal
printed_broken w h e = rw (le-ltb 65536 (length w) h, e)

pub printed_archive : (w : List ℕ) → length w ≤ 65536 → broken w (length w) ≡ false → listing_of w ≡ header ++ lines_text 0 (lines_in w (length w))
unfolding listing_of refused
printed_archive w h e = rw (le-ltb 65536 (length w) h, e)
