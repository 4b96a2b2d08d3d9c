-- The fields of a call: the number of a call that has one; a record, which is a case of 64 bytes and four figures; and how many bytes of the
-- record are handed over as the case.
use Rattle.std.specs.Prelude.{cond, List, [], ◌∷◌, ◌++◌, ℕ, ◌+◌, ◌/◌, ◌^◌, ◌≤◌, min, ltb, eqb, length, take, drop, set, replicate, codes, Option, None, Some}
use Rattle.std.specs.Option.{option_and_then}
use Rattle.octets.specs.Bytes.{bytes_of, splice}
use Rattle.cases.specs.declared.fields.Fields.{Fields}
use Rattle.cases.specs.declared.fields.Field.{Field}
use Rattle.cases.specs.declared.fields.Field.TheVariants.{Number, Part, Length}
use Rattle.cases.specs.Words.{index_of, named_in}
use Rattle.cases.specs.Numbers.{number_in}

-- before words set them: route 1, and 64 bytes of the record are the case
abbrev pub blank : Fields
blank = record { number = 0; bytes = set (replicate 96 0) 2 1; length = 64 }

-- the fields of a record: the name, where it stands, and how many bytes it has
abbrev pub parts : List (List ℕ × Field)
parts =
    (codes "kind", Part 0 1)
    ∷ (codes "row", Part 1 1)
    ∷ (codes "route", Part 2 1)
    ∷ (codes "user", Part 3 1)
    ∷ (codes "T", Part 4 4)
    ∷ (codes "dossier", Part 8 8)
    ∷ (codes "a", Part 16 8)
    ∷ (codes "b", Part 24 8)
    ∷ (codes "c", Part 32 8)
    ∷ (codes "d", Part 40 8)
    ∷ (codes "e", Part 48 8)
    ∷ (codes "f", Part 56 8)
    ∷ (codes "stp", Part 64 8)
    ∷ (codes "surface", Part 72 8)
    ∷ (codes "air", Part 80 8)
    ∷ (codes "soil", Part 88 8)
    ∷ []

-- the number has no name
abbrev pub field_named : List ℕ → Option Field
field_named name = named_in name ((codes "", Number) ∷ (parts ++ ((codes "length", Length) ∷ [])))

-- a field of a record stands within its bytes, and has up to eight
abbrev pub holds : Field → Type 0
holds Number = Unit {0}
holds (Part at w) = (at + w ≤ 96) × (w ≤ 8)
holds Length = Unit {0}

-- ── a word: NAME=NUMBER, or a number alone

abbrev pub sign_in : List ℕ → ℕ
sign_in word = index_of 61 word

abbrev pub field_of : List ℕ → Option Field
field_of word = cond (eqb (sign_in word) (length word)) (Some Number) (field_named (take (sign_in word) word))

abbrev pub value_of : List ℕ → Option ℕ
value_of word = cond (eqb (sign_in word) (length word)) (number_in word) (number_in (drop (sign_in word + 1) word))

-- the fields with a number in one's place: nothing where it has no room for the number
abbrev pub with_number : Field → ℕ → Fields → Option Fields
with_number Number x f = Some (record f { number = x })
with_number (Part at w) x f = cond (eqb (x / 256 ^ w) 0) (Some (record f { bytes = splice f.bytes at (bytes_of w x) })) None
with_number Length x f = cond (ltb 255 x) None (Some (record f { length = x }))

-- nothing where there is no such field, or no number
abbrev pub with_field : List ℕ → Fields → Option Fields
with_field word f = option_and_then (λ k. option_and_then (λ x. with_number k x f) (value_of word)) (field_of word)

-- ── words

-- nothing where one is no field
abbrev pub with_fields : List (List ℕ) → Fields → Option Fields
with_fields [] f = Some f
with_fields (w ∷ ws) f = option_and_then (with_fields ws) (with_field w f)

-- ── what the fields hold

-- the bytes of the record that are handed over as the case
abbrev pub case_in : Fields → List ℕ
case_in f = take (min f.length 96) f.bytes
