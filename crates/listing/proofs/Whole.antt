-- Laws of the whole listing.
--   Accepted, accepted_facts                              what it is that an input is not refused, as facts on numbers
--   listing_refused, listing_accepted, listing_records    the listing, by cases
--   length_refused, length_accepted                       its length, by cases
--   listing_at_most                                       a bound on its length
--   listed_written, listed_needs                          what `print` answers and leaves
--   first_decide, read_decides                            an input's first bytes, as a read leaves them, decide
--   printed_fits, printed_text                            the bytes that are then to be written
use mathlib.Core.Path.{◌≡◌, refl, sym, ap, ◌∙◌}
use mathlib.Core.Bool.{Bool, true, false}
use mathlib.Core.List.{List, ◌++◌, map}
use Prim.Native.Nat.{ℕ, ◌+◌, ◌/◌, ◌≤◌, ◌<◌}
use native.Mathlib.Omega.{arith}
use borrow.Author.Tests.{ltb-false, lt-ltb, leb-true, leb-false, le-leb, lt-leb}
use lib.Dec.{leb}
use lib.ListN.{length, take, drop, length-append, length-drop}
use lib.Seq.{take_all, length-take-le}
use Rattle.octets.specs.Bytes.{AreBytes, splice}
use Rattle.octets.proofs.Splice.{splice_read}
use Rattle.octets.proofs.Bools.{neither}
use Rattle.std.specs.Simd.{first_chunks}
use Rattle.records.specs.Layout.{line_of, record_size}
use Rattle.records.specs.Buffer.{count_at, lines_in}
use Rattle.records.proofs.Trailer.{sound_facts}
use Rattle.std.specs.Prelude.{Ok, Err}
use Rattle.std.specs.declared.result.Result.{Result}
use Rattle.listing.specs.declared.TooShort.{TooShort}
use Rattle.listing.specs.Listing.{codes, header, refusal, lines_text, most_input, most_output, refused, listing_of, too_short, listed, of_listed, lengths, listed_bytes, ReadOf}
use Rattle.listing.proofs.RecordLines.{chunk_lines, lines_at_most}

-- the number of records, with all of the input as used length
abbrev pub count_in : List ℕ → ℕ
count_in b = count_at b (length b)

pub record Accepted (b : List ℕ) : Type 0 where
  pub count_is : length b / record_size ≡ count_in b
  pub few : count_in b ≤ 682

pub accepted_facts : (b : List ℕ) → refused b ≡ false → Accepted b
unfolding refused
accepted_facts b e =
    let n = neither _ _ e in
    let s = sound_facts b (length b) n.1 in
    let m : length b ≤ 65536 = ltb-false _ _ n.0 in
    record { count_is = omega (arith, s.length_is); few = omega (arith, s.length_is) }

-- ── the listing

length_header : length header ≡ 46
unfolding header codes
length_header = refl

pub listing_refused : (b : List ℕ) → refused b ≡ true → listing_of b ≡ refusal
unfolding listing_of
listing_refused b e = rw e

pub listing_accepted : (b : List ℕ) → refused b ≡ false → listing_of b ≡ header ++ lines_text 0 (lines_in b (length b))
unfolding listing_of
listing_accepted b e = rw e

pub length_refused : (b : List ℕ) → refused b ≡ true → length (listing_of b) ≡ 11
unfolding refusal codes
length_refused b e = ap length (listing_refused b e)

pub length_accepted : (b : List ℕ) → refused b ≡ false → length (listing_of b) ≡ 46 + length (lines_text 0 (lines_in b (length b)))
length_accepted b e = rw (listing_accepted b e, length-append header (lines_text 0 (lines_in b (length b))), length_header) refl

-- of the records that whole parts of the archive are
pub listing_records : (b : List ℕ) {rs : List (List ℕ)} → refused b ≡ false → rs ≡ first_chunks record_size (length b / record_size) b → listing_of b ≡ header ++ lines_text 0 (map line_of rs)
listing_records b e f =
    listing_accepted b e ∙ (rw (f, (accepted_facts b e).count_is, chunk_lines record_size (count_in b) b) refl)

at_most_by : (b : List ℕ) → AreBytes b → (r : Bool) → refused b ≡ r → length (listing_of b) ≤ most_output
at_most_by b h true e = omega (arith, length_refused b e)
at_most_by b h false e =
    let a = accepted_facts b e in
    omega (arith, length_accepted b e, lines_at_most record_size (count_in b) 0 b h (omega arith))

-- A buffer of this size holds the listing of every input.
pub listing_at_most : (b : List ℕ) → AreBytes b → length (listing_of b) ≤ most_output
listing_at_most b h = at_most_by b h (refused b) refl

-- ── print

pub listed_written : (b o : List ℕ) {n : ℕ} {q : List ℕ} → n ≡ length (listing_of b) → n ≤ length o → q ≡ splice o 0 (listing_of b)
    → let r : Result ℕ TooShort = Ok n in (r ≡ listed b (length o)) × (q ≡ listed_bytes b o) × (of_listed r ≡ lengths b (length o))
unfolding listed listed_bytes lengths
listed_written b o e h w = let t = le-leb (length (listing_of b)) (length o) (rw e at h) in rw t (ap Ok e, w, rw e)

pub listed_needs : (b o : List ℕ) {n : ℕ} → n ≡ length (listing_of b) → length o < n
    → let r : Result ℕ TooShort = Err (too_short n) in (r ≡ listed b (length o)) × (o ≡ listed_bytes b o) × (of_listed r ≡ lengths b (length o))
unfolding listed listed_bytes lengths
listed_needs b o e h = let t = lt-leb (length (listing_of b)) (length o) (rw e at h) in rw t (ap (λ m. Err (too_short m)) e, refl, rw e)

-- ── from a read

refused_long : (b : List ℕ) → most_input < length b → refused b ≡ true
unfolding refused
refused_long b h = rw (lt-ltb most_input (length b) h)

first_by : (k : ℕ) (w : List ℕ) → most_input < k → (p : Bool) → leb (length w) k ≡ p → listing_of (take k w) ≡ listing_of w
first_by k w h true e = ap listing_of (take_all k w (leb-true (length w) k e))
first_by k w h false e =
    let l = leb-false (length w) k e in
    listing_refused (take k w) (refused_long (take k w) (omega (arith, length-take-le k w (omega arith))))
    ∙ sym (listing_refused w (refused_long w (omega arith)))

-- The first bytes of an input decide, where one more is taken than an archive may have: no byte behind them changes what is printed.
pub first_decide : (k : ℕ) (w : List ℕ) → most_input < k → listing_of (take k w) ≡ listing_of w
first_decide k w h = first_by k w h (leb (length w) k) refl

pub read_decides : (b : List ℕ) (n : ℕ) (w : List ℕ) → most_input < length b → ReadOf b n w → listing_of (take n b) ≡ listing_of w
read_decides b n w h e = ap listing_of e ∙ first_decide (length b) w h

-- ── what a caller of `print_input` may use

-- every read is one of some input
read_of_some : (b : List ℕ) (n : ℕ) → n ≤ length b → ReadOf b n (take n b)
read_of_some b n h = sym (take_all (length b) (take n b) (omega (arith, length-take-le n b h)))

-- a buffer that keeps its length has room for what it is stated to begin with
splice_fits : (out after text : List ℕ) → length after ≡ length out → after ≡ splice out 0 text → length text ≤ length out
unfolding splice
splice_fits out after text k e =
    let l : length (splice out 0 text) ≡ length text + length (drop (0 + length text) out) = length-append text (drop (0 + length text) out) in
    omega (arith, ap length e, length-drop (0 + length text) out)

module _ (b out after : List ℕ) (n r : ℕ) (inside : n ≤ length b) (kept : length after ≡ length out)
    (e : (whole : List ℕ) → ReadOf b n whole → (r ≡ length (listing_of whole)) × (after ≡ splice out 0 (listing_of whole))) where
  pub printed_fits : r ≤ length after
  printed_fits =
      let s = e (take n b) (read_of_some b n inside) in
      omega (arith, s.0, splice_fits out after (listing_of (take n b)) kept s.1)

  pub printed_text : (whole : List ℕ) → ReadOf b n whole → take r after ≡ listing_of whole
  printed_text whole h =
      let s = e whole h in
      rw (s.0, s.1) (splice_read out 0 (listing_of whole) (omega (arith, splice_fits out after (listing_of whole) kept s.1)))
