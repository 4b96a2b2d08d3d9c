-- A table of fields that passes one test covers its bytes, each once: `in_order_covers`. In a table that does, two fields share no byte: `apart`.
-- Of any table: that of the record and that of the trailer are in `FieldTable`.
use mathlib.Core.Path.{◌≡◌, refl, sym, ap, ◌∙◌}
use mathlib.Core.Bool.{Bool, true, false, ◌&&◌}
use mathlib.Core.List.{List, [], ◌∷◌}
use Prim.Native.Nat.{ℕ, zero, suc, ◌+◌, ◌≤◌, ◌<◌}
use native.Mathlib.Nat.{le_of_suc-le-suc, not-suc-le-zero}
use native.Mathlib.Omega.{arith}
use borrow.Author.Tests.{eqb-true, ltb-true, ltb-false}
use lib.Dec.{eqb, ltb}
use lib.ListN.{length, get_or}
use Rattle.octets.proofs.Bools.{both}
use Rattle.records.specs.Fields.{Field, Has, OneHas, Cover}

module _ {S : Type 0} (none : Field S) (size : ℕ) where
  -- the test: each field begins where the one before it ends, the first at p, and has some bytes, and the last ends at the size
  abbrev pub in_order : ℕ → List (Field S) → Bool
  in_order p [] = eqb p size
  in_order p (f ∷ fs) = eqb f.offset p && (ltb 0 f.width && in_order (p + f.width) fs)

  record Passed (p : ℕ) (f : Field S) (fs : List (Field S)) : Type 0 where
    begins : f.offset ≡ p
    some : 0 < f.width
    rest : in_order (p + f.width) fs ≡ true

  passed : (p : ℕ) (f : Field S) (fs : List (Field S)) → in_order p (f ∷ fs) ≡ true → Passed p f fs
  passed p f fs e =
      let x = both (eqb f.offset p) (ltb 0 f.width && in_order (p + f.width) fs) e in
      let y = both (ltb 0 f.width) (in_order (p + f.width) fs) x.1 in
      record { begins = eqb-true f.offset p x.0; some = ltb-true 0 f.width y.0; rest = y.1 }

  ends : (p : ℕ) (fs : List (Field S)) → in_order p fs ≡ true → p ≤ size
  ends p [] e = omega (arith, eqb-true p size e)
  ends p (f ∷ fs) e = let h = ends (p + f.width) fs (passed p f fs e).rest in omega arith

  record Between (p : ℕ) (f : Field S) : Type 0 where
    not_before : p ≤ f.offset
    not_behind : f.offset + f.width ≤ size
    some : 0 < f.width

  between : (p : ℕ) (fs : List (Field S)) → in_order p fs ≡ true → (k : ℕ) → k < length fs → Between p (get_or fs k none)
  between p [] e k h = absurd (not-suc-le-zero h)
  between p (f ∷ fs) e zero h =
      let x = passed p f fs e in
      let z = ends (p + f.width) fs x.rest in
      record { not_before = omega (arith, x.begins); not_behind = omega (arith, x.begins); some = x.some }
  between p (f ∷ fs) e (suc k) h =
      let z = between (p + f.width) fs (passed p f fs e).rest k (le_of_suc-le-suc h) in
      record { not_before = omega (arith, z.not_before); not_behind = z.not_behind; some = z.some }

  -- a byte is the first field's, or else one of those behind it has it
  either : (f : Field S) (fs : List (Field S)) (i : ℕ) → f.offset ≤ i → ((k : ℕ) → k < length fs → f.offset + f.width ≤ (get_or fs k none).offset)
      → (t : Bool) → ltb i (f.offset + f.width) ≡ t → (f.offset + f.width ≤ i → OneHas fs none i) → OneHas (f ∷ fs) none i
  either f fs i a behind true q r = let h = ltb-true i (f.offset + f.width) q in record { index = 0; there = omega arith; has = (a, h); only = first }
    where
      first : (k : ℕ) → k < length (f ∷ fs) → Has (get_or (f ∷ fs) k none) i → k ≡ 0
      first zero l g = refl
      first (suc k) l g = let b = behind k (le_of_suc-le-suc l) in let h = ltb-true i (f.offset + f.width) q in absurd (omega (arith, g.0))
  either f fs i a behind false q r =
      let o = r (ltb-false i (f.offset + f.width) q) in
      record { index = suc o.index; there = let t = o.there in omega arith; has = o.has; only = later o }
    where
      later : (o : OneHas fs none i) (k : ℕ) → k < length (f ∷ fs) → Has (get_or (f ∷ fs) k none) i → k ≡ suc o.index
      later o zero l g = let h = ltb-false i (f.offset + f.width) q in absurd (omega (arith, g.1))
      later o (suc k) l g = ap suc (o.only k (le_of_suc-le-suc l) g)

  one : (p : ℕ) (fs : List (Field S)) → in_order p fs ≡ true → (i : ℕ) → i < size → p ≤ i → OneHas fs none i
  one p [] e i b a = let z = eqb-true p size e in absurd (omega arith)
  one p (f ∷ fs) e i b a =
      let x = passed p f fs e in
      let o = x.begins in
      let later = one (p + f.width) fs x.rest i b in
      either f fs i (omega arith) (λ k h. let z = (between (p + f.width) fs x.rest k h).not_before in omega arith) (ltb i (f.offset + f.width)) refl (λ h. later (omega arith))

  pub in_order_covers : (fs : List (Field S)) → in_order 0 fs ≡ true → Cover fs none size
  in_order_covers fs e = record {
    each_once = λ i h. one 0 fs e i h (omega arith);
    inside = λ k h. (between 0 fs e k h).not_behind;
    wide = λ k h. (between 0 fs e k h).some;
  }

pub apart : {S : Type 0} {fs : List (Field S)} {none : Field S} {size : ℕ} → Cover fs none size → (j k : ℕ) → j < length fs → k < length fs
    → (i : ℕ) → Has (get_or fs j none) i → Has (get_or fs k none) i → j ≡ k
apart {fs = fs} {none = none} c j k hj hk i a b =
    let z = c.inside j hj in
    let o = c.each_once i (omega (arith, a.1)) in
    o.only j hj a ∙ sym (o.only k hk b)
