-- The printed archive, as bytes. Paper 01, 'The printed archive'.
use Rattle.std.specs.Prelude.{◌≡◌, Bool, ◌||◌, cond, List, [], ◌∷◌, ◌++◌, map, ℕ, ◌+◌, ltb, leb, length, take, Ok, Err}
use Rattle.std.specs.declared.result.Result.{Result}
use Prim.Native.Char.{code}
use Prim.Native.String.{String, [] as none, ◌∷◌ as ◌then◌}
use Rattle.natural.specs.Ceiling.{ceiling}
use Rattle.octets.specs.Bytes.{splice}
use Rattle.kinds.specs.Case.{kind_of, row_of, route_of, dossier_of}
use Rattle.records.specs.Layout.{Line}
use Rattle.records.specs.Buffer.{broken, lines_in}
use Rattle.listing.specs.Decimal.{decimal}
use Rattle.listing.specs.declared.TooShort.{TooShort}

abbrev pub space : ℕ
space = 32

abbrev pub line_feed : ℕ
line_feed = 10

-- the codes of a text's characters: its bytes, of ASCII
unfoldable pub codes : String → List ℕ
codes none = []
codes (c then s) = code c ∷ codes s

unfoldable pub header : List ℕ
unfolding codes
header = codes "n dossier kind row route stp surface air soil\n"

unfoldable pub refusal : List ℕ
unfolding codes
refusal = codes "refused 21\n"

-- a figure, which is in micrograms, in milligrams, rounded up
abbrev pub milligrams : ℕ → ℕ
milligrams figure = ceiling figure 1000

-- The columns behind a record's number, from what the record holds, whatever that is.
unfoldable pub columns_of : Line → List ℕ
columns_of l = dossier_of l.case ∷ kind_of l.case ∷ row_of l.case ∷ route_of l.case ∷ map milligrams l.figures

-- further columns on a line, each behind a space, and the line feed
unfoldable pub columns_text : List ℕ → List ℕ
columns_text [] = line_feed ∷ []
columns_text (x ∷ xs) = space ∷ decimal x ++ columns_text xs

-- the line of the record with number k
unfoldable pub line_text : ℕ → Line → List ℕ
line_text k l = decimal k ++ columns_text (columns_of l)

-- lines that are numbered from k on
unfoldable pub lines_text : ℕ → List Line → List ℕ
lines_text k [] = []
lines_text k (l ∷ ls) = line_text k l ++ lines_text (k + 1) ls

-- the most bytes that a printed archive has
abbrev pub most_input : ℕ
most_input = 65536

-- no listing has more bytes: `listing_at_most`
abbrev pub most_output : ℕ
most_output = 74384

-- Refusal 21 with all of the input as used length, or too much input.
unfoldable pub refused : List ℕ → Bool
refused b = ltb most_input (length b) || broken b (length b)

-- The listing of an input, of all its bytes: every byte that is to be printed.
unfoldable pub listing_of : List ℕ → List ℕ
listing_of b = cond (refused b) refusal (header ++ lines_text 0 (lines_in b (length b)))

-- ── into a lent buffer

-- whether a buffer of some size holds the listing
abbrev pub holds : ℕ → List ℕ → Bool
holds size b = leb (length (listing_of b)) size

abbrev pub too_short : ℕ → TooShort
too_short n = record { needed = n }

-- its length, beside whether the buffer was too short
unfoldable pub listed : List ℕ → ℕ → Result ℕ TooShort
listed b size = cond (holds size b) (Ok (length (listing_of b))) (Err (too_short (length (listing_of b))))

-- The answer in numbers: how many bytes were written at the start of the buffer, none where it is too short, and how many the listing has.
pub record Lengths : Type 0 where
  pub written : ℕ
  pub needed : ℕ

abbrev pub of_listed : Result ℕ TooShort → Lengths
of_listed (Ok n) = record { written = n; needed = n }
of_listed (Err e) = record { written = 0; needed = e.needed }

-- what `print` gives in numbers
unfoldable pub lengths : List ℕ → ℕ → Lengths
lengths b size = record { written = cond (holds size b) (length (listing_of b)) 0; needed = length (listing_of b) }

-- the buffer afterwards: the listing at its start and the rest as it was, or all as it was
unfoldable pub listed_bytes : List ℕ → List ℕ → List ℕ
listed_bytes b out = cond (holds (length out) b) (splice out 0 (listing_of b)) out

-- ── from a read

-- n bytes at the start of a buffer are what a read of the whole input leaves there: its first bytes, as many as it has and the buffer takes
abbrev pub ReadOf : List ℕ → ℕ → List ℕ → Type 0
ReadOf buffer n whole = take n buffer ≡ take (length buffer) whole
