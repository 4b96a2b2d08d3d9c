-- The fields of a record and those of the trailer: two tables, a line for a field, in the order in which they stand.
-- Paper 01, 'A case, 64 bytes' and 'The archive'; No. 3. docs/FORMAT.md prints the same lines, and tests/layout compares them.
-- That they cover the bytes, each once, is `fields_cover` and `trailer_fields_cover`; that a filing leaves each of them so is `each_field` of history.
use Rattle.std.specs.Prelude.{◌≡◌, List, [], ◌∷◌, ℕ, ◌+◌, ◌*◌, ◌≤◌, ◌<◌, length, get_or}
use Prim.Native.String.{String}
use Rattle.octets.specs.Bytes.{bytes_of}
use Rattle.records.specs.Layout.{Line, bytes_at}

-- Its name, its offset, its width in bytes, and where they come from.
pub record Field (S : Type 0) : Type 0 where
  pub name : String
  pub offset : ℕ
  pub width : ℕ
  pub source : S

abbrev pub field : {S : Type 0} → String → ℕ → ℕ → S → Field S
field t o w s = record { name = t; offset = o; width = w; source = s }

-- ── of a record

-- the bytes that the case has at the field's own place, or the figure of a place from 0
pub data Source : Type 0 where
  given : Source
  figure_at : ℕ → Source

abbrev pub fields : List (Field Source)
fields =
    field "kind" 0 1 given
    ∷ field "row" 1 1 given
    ∷ field "route" 2 1 given
    ∷ field "user" 3 1 given
    ∷ field "T" 4 4 given
    ∷ field "dossier number" 8 8 given
    ∷ field "a" 16 8 given
    ∷ field "b" 24 8 given
    ∷ field "c" 32 8 given
    ∷ field "d" 40 8 given
    ∷ field "e" 48 8 given
    ∷ field "f" 56 8 given
    ∷ field "STP" 64 8 (figure_at 0)
    ∷ field "surface water" 72 8 (figure_at 1)
    ∷ field "air" 80 8 (figure_at 2)
    ∷ field "soil" 88 8 (figure_at 3)
    ∷ []

-- what stands for a field that is not there
abbrev pub no_field : Field Source
no_field = field "" 0 0 given

abbrev pub bytes_from : Line → ℕ → ℕ → Source → List ℕ
bytes_from l o w given = bytes_at l.case o w
bytes_from l o w (figure_at k) = bytes_of w (get_or l.figures k 0)

-- the bytes of a field in the record of a line
abbrev pub field_bytes : Line → Field Source → List ℕ
field_bytes l f = bytes_from l f.offset f.width f.source

-- ── of the trailer: the number that stands there, by how many records there are

abbrev pub trailer_fields : List (Field (ℕ → ℕ))
trailer_fields =
    field "distance" 0 8 (λ (n : ℕ). 96 * n)
    ∷ field "number of records" 8 4 (λ (n : ℕ). n)
    ∷ field "edition" 12 4 (λ (n : ℕ). 1)
    ∷ []

abbrev pub no_trailer_field : Field (ℕ → ℕ)
no_trailer_field = field "" 0 0 (λ (n : ℕ). 0)

-- the bytes of a field in the trailer of n records
abbrev pub trailer_field_bytes : ℕ → Field (ℕ → ℕ) → List ℕ
trailer_field_bytes n f = bytes_of f.width (f.source n)

-- ── what it is to cover bytes, each once

-- byte i is a field's
abbrev pub Has : {S : Type 0} → Field S → ℕ → Type 0
Has f i = (f.offset ≤ i) × (i < f.offset + f.width)

-- it is that of exactly one
pub record OneHas {S : Type 0} (fs : List (Field S)) (none : Field S) (i : ℕ) : Type 0 where
  pub index : ℕ
  pub there : index < length fs
  pub has : Has (get_or fs index none) i
  pub only : (k : ℕ) → k < length fs → Has (get_or fs k none) i → k ≡ index

-- the first `size` bytes, each once, and no other; and every field has some
pub record Cover {S : Type 0} (fs : List (Field S)) (none : Field S) (size : ℕ) : Type 0 where
  pub each_once : (i : ℕ) → i < size → OneHas fs none i
  pub inside : (k : ℕ) → k < length fs → let f = get_or fs k none in f.offset + f.width ≤ size
  pub wide : (k : ℕ) → k < length fs → 0 < (get_or fs k none).width
