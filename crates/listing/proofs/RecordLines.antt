-- Laws of the lines of records.
--   line_is                                         a line: its number, then its columns
--   chunk_lines, lines_step, lines_end              of records that are parts of an archive: their lines, and those from record k on
--   take_bytes, line_at_most, lines_at_most         bounds on lengths, of records that are bytes
-- What a line's columns are is in `Columns`.
use mathlib.Core.Path.{◌≡◌, refl, sym, ap, ◌∙◌}
use mathlib.Core.List.{List, [], ◌∷◌, ◌++◌, map}
use Prim.Native.Nat.{ℕ, zero, suc, ◌+◌, ◌*◌, ◌^◌, ◌≤◌, ◌<◌}
use native.Mathlib.Numerals.{add-one}
use native.Mathlib.Omega.{arith}
use lib.ListN.{length, get_or, take, drop, drop_of_length-le, length-append, length-map, get_or-map}
use lib.Seq.{drop-cons, get_or-drop}
use Rattle.std.specs.Simd.{first_chunks}
use Rattle.natural.proofs.Ceiling.{ceiling_at_most}
use Rattle.octets.specs.Bytes.{AreBytes, number_at}
use Rattle.octets.proofs.Numbers.{number_at_small}
use Rattle.records.specs.Layout.{Line, line_of, first_lines}
use Rattle.listing.specs.Decimal.{decimal}
use Rattle.listing.specs.Listing.{milligrams, columns_of, columns_text, line_text, lines_text}
use Rattle.listing.proofs.DecimalText.{decimal_at_most}
use Rattle.listing.proofs.Columns.{columns_are}

-- ── a line

pub line_is : (k : ℕ) (l : Line) {xs : List ℕ} → xs ≡ columns_of l → line_text k l ≡ decimal k ++ columns_text xs
unfolding line_text
line_is k l e = rw e refl

-- ── of records, each as a part of an archive

pub chunk_lines : (w n : ℕ) (b : List ℕ) → map line_of (first_chunks w n b) ≡ first_lines w n b
unfolding first_lines
chunk_lines w zero b = refl
chunk_lines w (suc n) b = ap (λ (ls : List Line). line_of (take w b) ∷ ls) (chunk_lines w n (drop w b))

-- the lines from record k on
pub lines_step : (rs : List (List ℕ)) (k : ℕ) (r : List ℕ) → k < length rs → r ≡ get_or rs k r
    → lines_text k (drop k (map line_of rs)) ≡ line_text k (line_of r) ++ lines_text (k + 1) (drop (k + 1) (map line_of rs))
unfolding lines_text
lines_step rs k r h e =
    let first : get_or (map line_of rs) k (line_of r) ≡ line_of r = get_or-map line_of rs k r ∙ ap line_of (sym e) in
    rw (drop-cons (map line_of rs) k (line_of r) (rw length-map h), add-one, first) refl

pub lines_end : (rs : List (List ℕ)) (k : ℕ) → length rs ≤ k → lines_text k (drop k (map line_of rs)) ≡ []
unfolding lines_text
lines_end rs k h = rw (drop_of_length-le (map line_of rs) {i = k} (rw length-map h))

-- ── bounds

pub take_bytes : (n : ℕ) (b : List ℕ) → AreBytes b → AreBytes (take n b)
take_bytes zero b h i = omega arith
take_bytes (suc n) [] h i = omega arith
take_bytes (suc n) (x ∷ b) h zero = h zero
take_bytes (suc n) (x ∷ b) h (suc i) = take_bytes n b (λ j. h (suc j)) i

drop_bytes : (n : ℕ) (b : List ℕ) → AreBytes b → AreBytes (drop n b)
drop_bytes n b h i = rw get_or-drop (h (n + i))

-- a figure in milligrams has at most 17 digits
figure_short : (x : ℕ) → x < 256 ^ 8 → length (decimal (milligrams x)) ≤ 17
figure_short x h =
    let b : milligrams x ≤ 18446744073709552 = ceiling_at_most x 1000 18446744073709552 (omega arith) (omega arith) in
    decimal_at_most 16 (milligrams x) (omega arith)

byte_short : (x : ℕ) → x < 256 → length (decimal x) ≤ 3
byte_short x h = decimal_at_most 2 x (omega arith)

column_more : (x m n : ℕ) (xs : List ℕ) → length (decimal x) ≤ m → length (columns_text xs) ≤ n → length (columns_text (x ∷ xs)) ≤ 1 + m + n
unfolding columns_text
column_more x m n xs p q = omega (arith, length-append (decimal x) (columns_text xs))

line_feed_one : length (columns_text []) ≤ 1
unfolding columns_text
line_feed_one = omega arith

-- number 3, dossier 20, kind, row and route 3 each, four figures 17 each, eight spaces and a line feed
pub line_at_most : (r : List ℕ) (k : ℕ) → AreBytes r → k < 1000 → length (line_text k (line_of r)) ≤ 109
line_at_most r k h g =
    let byte : (at : ℕ) → length (decimal (number_at r at 1)) ≤ 3 = λ at. byte_short (number_at r at 1) (number_at_small r at 1 h) in
    let figure : (at : ℕ) → length (decimal (milligrams (number_at r at 8))) ≤ 17 = λ at. figure_short (number_at r at 8) (number_at_small r at 8 h) in
    let dossier : length (decimal (number_at r 8 8)) ≤ 20 = decimal_at_most 19 (number_at r 8 8) (omega (arith, number_at_small r 8 8 h)) in
    let figures = column_more _ 17 55 _ (figure 64) (column_more _ 17 37 _ (figure 72) (column_more _ 17 19 _ (figure 80) (column_more _ 17 1 _ (figure 88) line_feed_one))) in
    let columns = column_more _ 20 85 _ dossier (column_more _ 3 81 _ (byte 0) (column_more _ 3 77 _ (byte 1) (column_more _ 3 73 _ (byte 2) figures))) in
    let line = ap length (line_is k (line_of r) refl) ∙ length-append (decimal k) (columns_text (columns_of (line_of r))) in
    omega (arith, line, ap (λ (xs : List ℕ). length (columns_text xs)) (columns_are r), columns, decimal_at_most 2 k g)

pub lines_at_most : (w m k : ℕ) (b : List ℕ) → AreBytes b → k + m ≤ 1000 → length (lines_text k (first_lines w m b)) ≤ 109 * m
unfolding lines_text first_lines
lines_at_most w zero k b h g = omega arith
lines_at_most w (suc m) k b h g =
    let l = line_of (take w b) in
    omega (arith, length-append (line_text k l) (lines_text (k + 1) (first_lines w m (drop w b))), line_at_most (take w b) k (take_bytes w b h) (omega arith), lines_at_most w m (k + 1) (drop w b) (drop_bytes w b h) (omega arith))
