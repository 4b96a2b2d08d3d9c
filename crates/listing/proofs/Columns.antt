-- Laws of a line's columns.
--   columns_are, columns_read           where a record has them
--   columns_step, columns_end           their text, from column i on
--   milligrams_are                      as a quotient rounded up
use mathlib.Core.Path.{◌≡◌, refl, sym, ◌∙◌}
use mathlib.Core.List.{List, [], ◌∷◌, ◌++◌}
use Prim.Native.Nat.{ℕ, ◌+◌, ◌/◌, ◌%◌, ◌≤◌, ◌<◌, min}
use native.Mathlib.Numerals.{add-one}
use native.Mathlib.Omega.{arith}
use lib.ListN.{length, get_or, take, drop, drop_of_length-le}
use lib.Seq.{drop-cons, get_or-take}
use Rattle.natural.proofs.Ceiling.{ceiling_of}
use Rattle.octets.specs.Bytes.{number_at}
use Rattle.octets.proofs.Numbers.{number_at_one}
use Rattle.records.specs.Layout.{line_of}
use Rattle.records.proofs.RecordLaws.{number_part, line_figures}
use Rattle.listing.specs.Decimal.{decimal}
use Rattle.listing.specs.Listing.{space, line_feed, milligrams, columns_of, columns_text}

-- ── of a record

byte_at : (r : List ℕ) (i : ℕ) → i < 64 → get_or (take 64 r) i 0 ≡ number_at r i 1
byte_at r i h = get_or-take 64 r i 0 h ∙ sym (number_at_one r i)

pub columns_are : (r : List ℕ)
    → columns_of (line_of r)
    ≡ number_at r 8 8 ∷ number_at r 0 1 ∷ number_at r 1 1 ∷ number_at r 2 1
    ∷ milligrams (number_at r 64 8) ∷ milligrams (number_at r 72 8) ∷ milligrams (number_at r 80 8) ∷ milligrams (number_at r 88 8) ∷ []
unfolding columns_of line_of
columns_are r = rw (line_figures r, number_part r 0 64 8 8 (omega arith), byte_at r 0 (omega arith), byte_at r 1 (omega arith), byte_at r 2 (omega arith))

-- from the columns that are read
pub columns_read : (r f : List ℕ) {d k w t a b e g : ℕ} → f ≡ (line_of r).figures → d ≡ number_at r 8 8 → k ≡ number_at r 0 1 → w ≡ number_at r 1 1 → t ≡ number_at r 2 1
    → a ≡ milligrams (get_or f 0 0) → b ≡ milligrams (get_or f 1 0) → e ≡ milligrams (get_or f 2 0) → g ≡ milligrams (get_or f 3 0)
    → d ∷ k ∷ w ∷ t ∷ a ∷ b ∷ e ∷ g ∷ [] ≡ columns_of (line_of r)
columns_read r f h d k w t a b e g = rw (d, k, w, t, a, b, e, g, h ∙ line_figures r) (sym (columns_are r))

-- ── text

pub columns_step : (xs : List ℕ) (i : ℕ) → i < length xs → columns_text (drop i xs) ≡ (space ∷ []) ++ (decimal (get_or xs i 0) ++ columns_text (drop (i + 1) xs))
unfolding columns_text
columns_step xs i h = rw (drop-cons xs i 0 h, add-one) refl

pub columns_end : (xs : List ℕ) (i : ℕ) → length xs ≤ i → columns_text (drop i xs) ≡ line_feed ∷ []
unfolding columns_text
columns_end xs i h = rw (drop_of_length-le xs h)

-- ── milligrams

pub milligrams_are : (x : ℕ) → x / 1000 + min 1 (x % 1000) ≡ milligrams x
milligrams_are x = sym (ceiling_of x 1000 (x / 1000) (x % 1000) (omega arith) (omega arith))
