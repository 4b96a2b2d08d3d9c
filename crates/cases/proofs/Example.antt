-- Lines as text, computed: the case, the call and the state that the definitions make of them. The record among the fields of a call has the table's places: `record_places`.
use mathlib.Core.Path.{◌≡◌, refl}
use mathlib.Core.List.{List, [], map}
use Prim.Native.Nat.{ℕ}
use Rattle.std.specs.Prelude.{codes, None, Some}
use Rattle.std.specs.Option.{option_map}
use Rattle.octets.specs.Bytes.{bytes_of, splice}
use Rattle.kinds.specs.Builder.{case_bytes, hundred, unit}
use Rattle.records.specs.Fields.{Source, fields}
use Rattle.records.specs.Fields as records
use Rattle.cases.specs.declared.fields.Field.{Field}
use Rattle.cases.specs.declared.fields.Field.TheVariants.{Number, Part, Length}
use Rattle.cases.specs.declared.calls.Call.TheVariants.{File}
use Rattle.cases.specs.Words.{index_of, onto, parts_of}
use Rattle.cases.specs.Numbers.{value_from}
use Rattle.cases.specs.Fields.{parts, with_fields, case_in}
use Rattle.cases.specs.Calls.{call_named, call_in, fields_in, state_on}

-- where a field of the record stands, and its width
abbrev pub place : List ℕ × Field → ℕ × ℕ
place (n, Number) = (0, 0)
place (n, Part at w) = (at, w)
place (n, Length) = (0, 0)

-- the fields kind to soil stand at their places in a record, and are as wide
pub record_places : map place parts ≡ map {B = ℕ × ℕ} (λ (f : records.Field Source). (f.offset, f.width)) fields
record_places = refl

-- P1 of paper 01
abbrev pub p1 : List ℕ
p1 = codes "file kind=4 row=1 dossier=7 a=0x4059000000000000 c=0x3ff0000000000000"

pub case_of_p1 : option_map case_in (fields_in p1) ≡ Some (case_bytes 4 1 1 0 0 7 hundred 0 unit 0 0 0)
unfolding case_bytes bytes_of splice index_of onto parts_of value_from with_fields
case_of_p1 = refl

pub call_of_p1 : call_in p1 ≡ Some File
unfolding index_of call_named
call_of_p1 = refl

-- a number too large for its field, and an archive of 304 bytes from then on, with a label behind it
pub not_a_field : fields_in (codes "work-out kind=256") ≡ None
unfolding index_of onto parts_of value_from with_fields
not_a_field = refl

pub size_of_empty : (state_on (codes "empty 304 # three records") (record { buffer = []; size = 16; used = 0 })).size ≡ 304
unfolding index_of onto parts_of value_from with_fields call_named
size_of_empty = refl
