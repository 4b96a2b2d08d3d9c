-- What an accepted call leaves of the buffer b as b': every byte of it, field by field, and what empty writes and the case in one piece too. A refused call leaves b.
-- That nothing is unsaid is `emptied_whole` and `filed_whole`.
-- Paper 01, 'The archive': "Empty writes a trailer with n = 0 in the first 16 bytes", file "writes record and trailer and no other byte"; No. 3.
use Rattle.std.specs.Prelude.{◌≡◌, List, [], ◌∷◌, ℕ, ◌+◌, ◌*◌, ◌≤◌, ◌<◌, length, get_or, take}
use Rattle.records.specs.Layout.{Line, bytes_at}
use Rattle.records.specs.Fields.{fields, no_field, field_bytes, trailer_fields, no_trailer_field, trailer_field_bytes}

-- field k of the record of a line that begins at `at`: its bytes, as many as it is wide
abbrev pub FieldLeft : ℕ → Line → List ℕ → ℕ → Type 0
FieldLeft at l b' k = let f = get_or fields k no_field in (bytes_at b' (at + f.offset) f.width ≡ field_bytes l f) × (length (field_bytes l f) ≡ f.width)

-- field k of the trailer of n records that begins at `at`
abbrev pub TrailerLeft : ℕ → ℕ → List ℕ → ℕ → Type 0
TrailerLeft at n b' k = let f = get_or trailer_fields k no_trailer_field in bytes_at b' (at + f.offset) f.width ≡ trailer_field_bytes n f

-- an accepted empty
pub record LeftByEmpty (b b' : List ℕ) : Type 0 where
  pub size : length b' ≡ length b
  pub bytes : take 16 b' ≡ 0 ∷ 0 ∷ 0 ∷ 0 ∷ 0 ∷ 0 ∷ 0 ∷ 0 ∷ 0 ∷ 0 ∷ 0 ∷ 0 ∷ 1 ∷ 0 ∷ 0 ∷ 0 ∷ []
  pub in_trailer : (k : ℕ) → k < length trailer_fields → TrailerLeft 0 0 b' k
  pub behind : (i : ℕ) → 16 ≤ i → get_or b' i 0 ≡ get_or b i 0

-- an accepted filing of a line as record n
pub record LeftByFile (n : ℕ) (l : Line) (b b' : List ℕ) : Type 0 where
  pub size : length b' ≡ length b
  pub before : (i : ℕ) → i < 96 * n → get_or b' i 0 ≡ get_or b i 0
  pub case : bytes_at b' (96 * n) 64 ≡ l.case
  pub in_record : (k : ℕ) → k < length fields → FieldLeft (96 * n) l b' k
  pub in_trailer : (k : ℕ) → k < length trailer_fields → TrailerLeft (96 * n + 96) (n + 1) b' k
  pub behind : (i : ℕ) → 96 * n + 112 ≤ i → get_or b' i 0 ≡ get_or b i 0
