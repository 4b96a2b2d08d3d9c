-- The tables of fields cover record and trailer, each byte once: `fields_cover`, `trailer_fields_cover`, by one computed test of each (`Covering`).
-- In other terms: `fields_of_case`, `fields_read`, `figures_read`, `compartments_named`, the fields are those that a case is written by, and that are read of it and of a record; `trailer_fields_read`, of the trailer; `numbered_record`, `numbered_fields`, the record whose bytes are 1 to 96, with the names of its fields; `numbered_trailer`.
-- A field of the table in the record of a line: `field_in_record`, with as many bytes as it is wide: `field_wide`; in the trailer of n records: `field_in_trailer`. Among figures: `figure_place`.
-- Fields in what is written are in `FieldsWritten`.
use mathlib.Core.Path.{◌≡◌, refl, sym, ap, ◌∙◌}
use mathlib.Core.Bool.{Bool, true, ◌&&◌}
use mathlib.Core.List.{List, [], ◌∷◌, map}
use Prim.Native.Nat.{ℕ, zero, suc, ◌+◌, ◌-◌, ◌*◌, ◌≤◌, ◌<◌}
use Prim.Native.String.{String}
use native.Mathlib.Nat.{le_of_suc-le-suc, not-suc-le-zero, mul-suc}
use native.Mathlib.Omega.{arith}
use borrow.Author.Tests.{leb-true, eqb-true, ltb-true}
use lib.Dec.{eqb, leb, ltb}
use lib.ListN.{length, take, drop, get_or, length-drop, get_or-map}
use lib.Seq.{take_at, length-take-le, drop-append-add}
use Rattle.octets.specs.Bytes.{bytes_of, number_at}
use Rattle.octets.proofs.Numbers.{length_bytes_of, number_at_one}
use Rattle.octets.proofs.Bools.{both, every, every_at}
use Rattle.kinds.specs.Case.{kind_of, row_of, route_of, user_of, count_of, dossier_of, pattern_at}
use Rattle.kinds.specs.Builder.{case_bytes}
use Rattle.records.specs.Layout.{Line, figure_bytes, record_of, line_of, trailer, trailer_size, record_size, edition, bytes_at}
use Rattle.records.specs.Fields.{Source, given, figure_at, Field, fields, no_field, bytes_from, field_bytes, trailer_fields, no_trailer_field, trailer_field_bytes, Cover}
use Rattle.records.specs.Compartments.{compartment_number}
use Rattle.records.specs.declared.compartment.Compartment.TheVariants.{Stp, SurfaceWater, Air, Soil}
use Rattle.records.specs.Buffer.{distance_at, count_at, edition_at}
use Rattle.records.proofs.RecordLaws.{part_append, line_figures, Sized, length_record_of}
use Rattle.records.proofs.Covering.{in_order_covers}

-- ── covered, each byte once

pub fields_cover : Cover fields no_field record_size
fields_cover = in_order_covers no_field record_size fields refl

pub trailer_fields_cover : Cover trailer_fields no_trailer_field trailer_size
trailer_fields_cover = in_order_covers no_trailer_field trailer_size trailer_fields refl

-- ── in other terms, and in plain numbers

-- the case's fields are those that a case is written by, in the table's order
pub fields_of_case : (kind row route user t dossier a b c d e f : ℕ)
    → map (λ (x : Field Source). bytes_at (case_bytes kind row route user t dossier a b c d e f) x.offset x.width) (take 12 fields)
    ≡ (kind ∷ []) ∷ (row ∷ []) ∷ (route ∷ []) ∷ (user ∷ []) ∷ bytes_of 4 t ∷ bytes_of 8 dossier
    ∷ bytes_of 8 a ∷ bytes_of 8 b ∷ bytes_of 8 c ∷ bytes_of 8 d ∷ bytes_of 8 e ∷ bytes_of 8 f ∷ []
unfolding case_bytes bytes_of
fields_of_case kind row route user t dossier a b c d e f = refl

-- the numbers at the table's places are those that are read of a case, and of a record's figures
pub fields_read : (c : List ℕ) → map (λ (x : Field Source). number_at c x.offset x.width) (take 12 fields)
    ≡ kind_of c ∷ row_of c ∷ route_of c ∷ user_of c ∷ count_of c ∷ dossier_of c
    ∷ pattern_at c 0 ∷ pattern_at c 1 ∷ pattern_at c 2 ∷ pattern_at c 3 ∷ pattern_at c 4 ∷ pattern_at c 5 ∷ []
fields_read c = rw (number_at_one c 0, number_at_one c 1, number_at_one c 2, number_at_one c 3)

pub figures_read : (r : List ℕ) → map (λ (x : Field Source). number_at r x.offset x.width) (take 4 (drop 12 fields)) ≡ (line_of r).figures
figures_read r = sym (line_figures r)

-- each figure stands under the name of its compartment
pub compartments_named : map {B = String × Source} (λ (x : Field Source). (x.name, x.source)) (drop 12 fields)
    ≡ ("STP", figure_at (compartment_number Stp - 1)) ∷ ("surface water", figure_at (compartment_number SurfaceWater - 1))
    ∷ ("air", figure_at (compartment_number Air - 1)) ∷ ("soil", figure_at (compartment_number Soil - 1)) ∷ []
compartments_named = refl

-- and those of the trailer are the ones that are read before a used length
pub trailer_fields_read : (b : List ℕ) (u : ℕ) → 16 ≤ u
    → map (λ (x : Field (ℕ → ℕ)). number_at b (u - 16 + x.offset) x.width) trailer_fields ≡ distance_at b u ∷ count_at b u ∷ edition_at b u ∷ []
trailer_fields_read b u h =
    let p : u - 16 + 0 ≡ u - 16 = omega arith in
    let q : u - 16 + 8 ≡ u - 8 = omega arith in
    let r : u - 16 + 12 ≡ u - 4 = omega arith in
    rw (p, q, r)

-- the line whose record has the bytes 1 to 96
abbrev numbered : Line
numbered = record {
  case = case_bytes 1 2 3 4 0x08070605 0x100f0e0d0c0b0a09
      0x1817161514131211 0x201f1e1d1c1b1a19 0x2827262524232221 0x302f2e2d2c2b2a29 0x3837363534333231 0x403f3e3d3c3b3a39;
  figures = 0x4847464544434241 ∷ 0x504f4e4d4c4b4a49 ∷ 0x5857565554535251 ∷ 0x605f5e5d5c5b5a59 ∷ [];
}

pub numbered_record : record_of numbered
    ≡
    1 ∷ 2 ∷ 3 ∷ 4 ∷ 5 ∷ 6 ∷ 7 ∷ 8 ∷ 9 ∷ 10 ∷ 11 ∷ 12 ∷ 13 ∷ 14 ∷ 15 ∷ 16
    ∷ 17 ∷ 18 ∷ 19 ∷ 20 ∷ 21 ∷ 22 ∷ 23 ∷ 24 ∷ 25 ∷ 26 ∷ 27 ∷ 28 ∷ 29 ∷ 30 ∷ 31 ∷ 32
    ∷ 33 ∷ 34 ∷ 35 ∷ 36 ∷ 37 ∷ 38 ∷ 39 ∷ 40 ∷ 41 ∷ 42 ∷ 43 ∷ 44 ∷ 45 ∷ 46 ∷ 47 ∷ 48
    ∷ 49 ∷ 50 ∷ 51 ∷ 52 ∷ 53 ∷ 54 ∷ 55 ∷ 56 ∷ 57 ∷ 58 ∷ 59 ∷ 60 ∷ 61 ∷ 62 ∷ 63 ∷ 64
    ∷ 65 ∷ 66 ∷ 67 ∷ 68 ∷ 69 ∷ 70 ∷ 71 ∷ 72 ∷ 73 ∷ 74 ∷ 75 ∷ 76 ∷ 77 ∷ 78 ∷ 79 ∷ 80
    ∷ 81 ∷ 82 ∷ 83 ∷ 84 ∷ 85 ∷ 86 ∷ 87 ∷ 88 ∷ 89 ∷ 90 ∷ 91 ∷ 92 ∷ 93 ∷ 94 ∷ 95 ∷ 96 ∷ []
unfolding record_of figure_bytes case_bytes bytes_of
numbered_record = refl

pub numbered_fields : map {B = String × List ℕ} (λ (f : Field Source). (f.name, field_bytes numbered f)) fields
    ≡
    ("kind", 1 ∷ []) ∷ ("row", 2 ∷ []) ∷ ("route", 3 ∷ []) ∷ ("user", 4 ∷ []) ∷ ("T", 5 ∷ 6 ∷ 7 ∷ 8 ∷ [])
    ∷ ("dossier number", 9 ∷ 10 ∷ 11 ∷ 12 ∷ 13 ∷ 14 ∷ 15 ∷ 16 ∷ [])
    ∷ ("a", 17 ∷ 18 ∷ 19 ∷ 20 ∷ 21 ∷ 22 ∷ 23 ∷ 24 ∷ []) ∷ ("b", 25 ∷ 26 ∷ 27 ∷ 28 ∷ 29 ∷ 30 ∷ 31 ∷ 32 ∷ [])
    ∷ ("c", 33 ∷ 34 ∷ 35 ∷ 36 ∷ 37 ∷ 38 ∷ 39 ∷ 40 ∷ []) ∷ ("d", 41 ∷ 42 ∷ 43 ∷ 44 ∷ 45 ∷ 46 ∷ 47 ∷ 48 ∷ [])
    ∷ ("e", 49 ∷ 50 ∷ 51 ∷ 52 ∷ 53 ∷ 54 ∷ 55 ∷ 56 ∷ []) ∷ ("f", 57 ∷ 58 ∷ 59 ∷ 60 ∷ 61 ∷ 62 ∷ 63 ∷ 64 ∷ [])
    ∷ ("STP", 65 ∷ 66 ∷ 67 ∷ 68 ∷ 69 ∷ 70 ∷ 71 ∷ 72 ∷ []) ∷ ("surface water", 73 ∷ 74 ∷ 75 ∷ 76 ∷ 77 ∷ 78 ∷ 79 ∷ 80 ∷ [])
    ∷ ("air", 81 ∷ 82 ∷ 83 ∷ 84 ∷ 85 ∷ 86 ∷ 87 ∷ 88 ∷ []) ∷ ("soil", 89 ∷ 90 ∷ 91 ∷ 92 ∷ 93 ∷ 94 ∷ 95 ∷ 96 ∷ [])
    ∷ []
unfolding case_bytes bytes_of
numbered_fields = refl

-- the trailer of 258 records, whose bytes are those of `trailer_bytes`
pub numbered_trailer : map {B = String × List ℕ} (λ (f : Field (ℕ → ℕ)). (f.name, trailer_field_bytes 258 f)) trailer_fields
    ≡ ("distance", 192 ∷ 96 ∷ 0 ∷ 0 ∷ 0 ∷ 0 ∷ 0 ∷ 0 ∷ []) ∷ ("number of records", 2 ∷ 1 ∷ 0 ∷ 0 ∷ []) ∷ ("edition", 1 ∷ 0 ∷ 0 ∷ 0 ∷ []) ∷ []
unfolding bytes_of
numbered_trailer = refl

-- ── a field in the record of a line, and in the trailer

pub figure_place : (fs : List ℕ) (k : ℕ) → k < length fs → bytes_at (figure_bytes fs) (8 * k) 8 ≡ bytes_of 8 (get_or fs k 0)
unfolding figure_bytes
figure_place [] k h = absurd (not-suc-le-zero h)
figure_place (f ∷ fs) zero h = take_at (bytes_of 8 f) (figure_bytes fs) 8 (length_bytes_of 8 f)
figure_place (f ∷ fs) (suc k) h =
    let p : 8 * suc k ≡ length (bytes_of 8 f) + 8 * k = omega (arith, length_bytes_of 8 f, mul-suc 8 k) in
    rw (p, drop-append-add (bytes_of 8 f) (figure_bytes fs) (8 * k)) (figure_place fs k (le_of_suc-le-suc h))

-- the test: a field lies in the case, or at the place of its figure
abbrev placed : ℕ → ℕ → Source → Bool
placed o w given = leb (o + w) 64
placed o w (figure_at k) = eqb o (64 + 8 * k) && (eqb w 8 && ltb k 4)

by_source : (l : Line) (o w : ℕ) (s : Source) → Sized l → placed o w s ≡ true → bytes_at (record_of l) o w ≡ bytes_from l o w s
unfolding record_of
by_source l o w given h e = let c = h.case_size_lem in let p = leb-true (o + w) 64 e in part_append l.case (figure_bytes l.figures) o w (omega arith)
by_source l o w (figure_at k) h e =
    let p = both (eqb o (64 + 8 * k)) (eqb w 8 && ltb k 4) e in
    let q = both (eqb w 8) (ltb k 4) p.1 in
    let f = h.four in
    let t = ltb-true k 4 q.1 in
    let at : o ≡ length l.case + 8 * k = rw h.case_size_lem (eqb-true _ _ p.0) in
    rw (at, eqb-true w 8 q.0, drop-append-add l.case (figure_bytes l.figures) (8 * k)) (figure_place l.figures k (omega arith))

pub field_in_record : (l : Line) → Sized l → (k : ℕ) → let f = get_or fields k no_field in bytes_at (record_of l) f.offset f.width ≡ field_bytes l f
unfolding every
field_in_record l h k =
    let f = get_or fields k no_field in
    by_source l f.offset f.width f.source h (every_at (λ (x : Field Source). placed x.offset x.width x.source) fields no_field refl refl k)

pub field_wide : (l : Line) → Sized l → (k : ℕ) → k < length fields → let f = get_or fields k no_field in length (field_bytes l f) ≡ f.width
field_wide l h k i =
    let f = get_or fields k no_field in
    let r = record_of l in
    let c = fields_cover.inside k i in
    ap length (sym (field_in_record l h k))
    ∙ length-take-le f.width (drop f.offset r) (omega (arith, length-drop f.offset r, length_record_of l h))

-- what stands in the trailer of n records where a field is
abbrev there : ℕ → Field (ℕ → ℕ) → List ℕ
there n f = bytes_at (trailer record_size edition n) f.offset f.width

all_there : (n : ℕ) → map (there n) trailer_fields ≡ map (trailer_field_bytes n) trailer_fields
unfolding trailer bytes_of
all_there n = refl

pub field_in_trailer : (n k : ℕ) → let f = get_or trailer_fields k no_trailer_field in bytes_at (trailer record_size edition n) f.offset f.width ≡ trailer_field_bytes n f
unfolding bytes_of
field_in_trailer n k =
    sym (get_or-map (there n) trailer_fields k no_trailer_field)
    ∙ ap (λ (l : List (List ℕ)). get_or l k []) (all_there n)
    ∙ get_or-map (trailer_field_bytes n) trailer_fields k no_trailer_field
