-- What is said of the bytes that an accepted call leaves is all there is to say: a buffer of which it holds is no other, after empty `emptied_whole`, after a filing `filed_whole`.
use mathlib.Core.Path.{◌≡◌, refl, sym, ap, ◌∙◌}
use mathlib.Core.Bool.{Bool, true, false}
use mathlib.Core.List.{List}
use Prim.Native.Nat.{ℕ, ◌+◌, ◌-◌, ◌*◌, ◌≤◌, ◌<◌}
use native.Mathlib.Omega.{arith}
use borrow.Author.Tests.{ltb-true, ltb-false}
use lib.Dec.{ltb}
use lib.ListN.{length, get_or, drop}
use lib.Seq.{get_or-take, get_or-drop, ext_get_or}
use Rattle.records.specs.Layout.{Line, trailer_size, record_size, bytes_at}
use Rattle.records.specs.Fields.{Field, fields, no_field, trailer_fields, no_trailer_field, Cover}
use Rattle.records.proofs.FieldTable.{fields_cover, trailer_fields_cover}
use Rattle.archive.specs.Left.{LeftByEmpty, LeftByFile}

-- a byte of a part
of_part : (b : List ℕ) (at w i : ℕ) → at ≤ i → i < at + w → get_or (bytes_at b at w) (i - at) 0 ≡ get_or b i 0
of_part b at w i h k =
    let e : at + (i - at) ≡ i = omega arith in
    get_or-take w (drop at b) (i - at) 0 (omega arith) ∙ get_or-drop at b (i - at) 0 ∙ ap (λ (j : ℕ). get_or b j 0) e

-- where the fields that cover some bytes are equal, so are those
covered : {S : Type 0} (fs : List (Field S)) (none : Field S) (size at : ℕ) (x y : List ℕ) → Cover fs none size
    → ((k : ℕ) → k < length fs → let f = get_or fs k none in bytes_at x (at + f.offset) f.width ≡ bytes_at y (at + f.offset) f.width)
    → (i : ℕ) → at ≤ i → i < at + size → get_or x i 0 ≡ get_or y i 0
covered fs none size at x y c same i h k =
    let one = c.each_once (i - at) (omega arith) in
    let f = get_or fs one.index none in
    let l : at + f.offset ≤ i = omega (arith, one.has.0) in
    let m : i < at + f.offset + f.width = omega (arith, one.has.1) in
    sym (of_part x (at + f.offset) f.width i l m)
    ∙ ap (λ (p : List ℕ). get_or p (i - (at + f.offset)) 0) (same one.index one.there)
    ∙ of_part y (at + f.offset) f.width i l m

module _ (b x y : List ℕ) (p : LeftByEmpty b x) (q : LeftByEmpty b y) where
  emptied_byte : (i : ℕ) (t : Bool) → ltb i trailer_size ≡ t → get_or x i 0 ≡ get_or y i 0
  emptied_byte i true e =
      let h = ltb-true i trailer_size e in
      covered trailer_fields no_trailer_field trailer_size 0 x y trailer_fields_cover (λ k l. p.in_trailer k l ∙ sym (q.in_trailer k l)) i (omega arith) (omega arith)
  emptied_byte i false e = let h = ltb-false i trailer_size e in p.behind i (omega arith) ∙ sym (q.behind i (omega arith))

  pub emptied_whole : x ≡ y
  emptied_whole = ext_get_or 0 x y (p.size ∙ sym q.size) (λ i h. emptied_byte i (ltb i trailer_size) refl)

module _ (n : ℕ) (l : Line) (b x y : List ℕ) (p : LeftByFile n l b x) (q : LeftByFile n l b y) where
  filed_byte : (i : ℕ) (r s t : Bool) → ltb i (record_size * n) ≡ r → ltb i (record_size * n + record_size) ≡ s → ltb i (record_size * n + (record_size + trailer_size)) ≡ t → get_or x i 0 ≡ get_or y i 0
  filed_byte i true s t e f g = let h = ltb-true i (record_size * n) e in p.before i (omega arith) ∙ sym (q.before i (omega arith))
  filed_byte i false true t e f g =
      let h = ltb-false i (record_size * n) e in
      let j = ltb-true i (record_size * n + record_size) f in
      covered fields no_field record_size (record_size * n) x y fields_cover (λ k l. (p.in_record k l).0 ∙ sym (q.in_record k l).0) i (omega arith) (omega arith)
  filed_byte i false false true e f g =
      let h = ltb-false i (record_size * n + record_size) f in
      let j = ltb-true i (record_size * n + (record_size + trailer_size)) g in
      covered trailer_fields no_trailer_field trailer_size (record_size * n + record_size) x y trailer_fields_cover (λ k l. p.in_trailer k l ∙ sym (q.in_trailer k l)) i (omega arith) (omega arith)
  filed_byte i false false false e f g = let h = ltb-false i (record_size * n + (record_size + trailer_size)) g in p.behind i (omega arith) ∙ sym (q.behind i (omega arith))

  pub filed_whole : x ≡ y
  filed_whole =
      ext_get_or 0 x y (p.size ∙ sym q.size) (λ i h. filed_byte i (ltb i (record_size * n)) (ltb i (record_size * n + record_size)) (ltb i (record_size * n + (record_size + trailer_size))) refl refl refl)
