-- Laws of fields.
--   first_of, left_of     the first of a number's bytes, and what is left of it
--   field_set             a word's field and its number
--   field_holds           a field that has a name stands within a record, and has up to eight bytes
use mathlib.Core.Path.{◌≡◌, refl, sym, ap, ◌∙◌}
use mathlib.Core.Bool.{Bool, true, false, ◌&&◌, cond}
use mathlib.Core.List.{List, [], ◌∷◌, ◌++◌}
use Prim.Native.Nat.{ℕ, zero, suc, ◌+◌, ◌-◌, ◌*◌, ◌/◌, ◌%◌, ◌^◌, ◌≤◌, ◌<◌}
use native.Mathlib.Nat.{pow-suc, div-eq_of_lt}
use native.Mathlib.Omega.{arith}
use borrow.Author.Tests.{leb-true, ne_eqb}
use lib.Dec.{leb}
use lib.ListN.{length, take, drop}
use Rattle.std.specs.Prelude.{codes, Option, None, Some, SomeIff}
use Rattle.std.proofs.Math.Pow.{pow_mono}
use Rattle.std.proofs.lemmas.Nat.{pow-add}
use Rattle.std.specs.List.{list_all}
use Rattle.std.specs.Option.{option_and_then, unwrap_or}
use Rattle.std.specs.Str.{bytes_eq}
use Rattle.octets.proofs.Bools.{both}
use Rattle.octets.specs.Bytes.{bytes_of}
use Rattle.cases.specs.declared.fields.Fields.{Fields}
use Rattle.cases.specs.declared.fields.Field.{Field}
use Rattle.cases.specs.declared.fields.Field.TheVariants.{Number, Part, Length}
use Rattle.cases.specs.Words.{named_in}
use Rattle.cases.specs.Numbers.{number_in}
use Rattle.cases.specs.Fields.{parts, field_named, holds, sign_in, field_of, value_of, with_number, with_field}
use Rattle.cases.proofs.WordLaws.{rest_is}

-- ── a number's bytes

pub first_of : (w k x : ℕ) → w ≤ k → take w (bytes_of k x) ≡ bytes_of w x
unfolding bytes_of
first_of zero k x h = refl
first_of (suc w) zero x h = absurd (omega arith)
first_of (suc w) (suc k) x h = ap (λ (l : List ℕ). x % 256 ∷ l) (first_of w k (x / 256) (omega arith))

bits_of : (w : ℕ) → 2 ^ (8 * w) ≡ 256 ^ w
bits_of zero = refl
bits_of (suc w) =
    let more : 8 * suc w ≡ 8 * w + 8 = omega arith in
    ap (λ (n : ℕ). 2 ^ n) more ∙ pow-add 2 (8 * w) 8 ∙ ap (λ (n : ℕ). n * 256) (bits_of w) ∙ sym (pow-suc 256 w)

-- what is left of a number behind w of its eight bytes, none where that is all of them
pub left_of : (w x : ℕ) (r : Option ℕ) → x < 2 ^ 64 → SomeIff r (8 * w < 64) (x / 2 ^ (8 * w)) → unwrap_or r 0 ≡ x / 256 ^ w
left_of w x None h s =
    let none : x / 2 ^ (8 * w) ≡ 0 = div-eq_of_lt (omega (arith, h, pow_mono {i = 64} {j = 8 * w} (omega arith))) in
    sym none ∙ ap (λ (n : ℕ). x / n) (bits_of w)
left_of w x (Some y) h s = s.1 ∙ ap (λ (n : ℕ). x / n) (bits_of w)

-- ── a word

module _ (word : List ℕ) (f : Fields) {s : ℕ} (e : s ≡ sign_in word) (h : s ≡ length word → ⊥) where
  field_there : {r : Option Field} {k : Field} → r ≡ field_named (take s word) → r ≡ Some k → field_of word ≡ Some k
  field_there a b = rw (← e, ne_eqb s (length word) h) (sym a ∙ b)

  value_there : {q : Option ℕ} {x : ℕ} → q ≡ number_in (take (length word - (s + 1)) (drop (s + 1) word)) → q ≡ Some x → value_of word ≡ Some x
  value_there a b = rw (← e, ne_eqb s (length word) h) (ap number_in (sym (rest_is word (s + 1))) ∙ sym a ∙ b)

  pub field_set : {r : Option Field} {k : Field} {q : Option ℕ} {x : ℕ} → r ≡ field_named (take s word) → r ≡ Some k
      → q ≡ number_in (take (length word - (s + 1)) (drop (s + 1) word)) → q ≡ Some x → with_number k x f ≡ with_field word f
  field_set {k = k} a b c d =
      ap (option_and_then (λ y. with_number k y f)) (sym (value_there c d)) ∙ ap (option_and_then (λ j. option_and_then (λ y. with_number j y f) (value_of word))) (sym (field_there a b))

-- ── a field that has a name

within : Field → Bool
within Number = true
within (Part at w) = leb (at + w) 96 && leb w 8
within Length = true

holds_within : (k : Field) → within k ≡ true → holds k
unfolding within
holds_within Number h = tt
holds_within (Part at w) h = let p = both (leb (at + w) 96) (leb w 8) h in (leb-true (at + w) 96 p.0, leb-true w 8 p.1)
holds_within Length h = tt

beside_name : (b p q : Bool) (x : Field) (r : Option Field) {k : Field} → within x ≡ p → (p && q) ≡ true → (q ≡ true → r ≡ Some k → within k ≡ true) → cond b (Some x) r ≡ Some k → within k ≡ true
beside_name true p q x r a h i e = let f : within x ≡ true = a ∙ (both p q h).0 in let g : x ≡ _ = cc in ap within (sym g) ∙ f
beside_name false p q x r a h i e = i (both p q h).1 e

all_within : (name : List ℕ) (ls : List (List ℕ × Field)) {k : Field} → list_all (λ (l : List ℕ × Field). within l.1) ls ≡ true → named_in name ls ≡ Some k → within k ≡ true
all_within name [] h e = cc
all_within name (l ∷ ls) h e =
    beside_name (bytes_eq l.0 name) (within l.1) (list_all (λ (x : List ℕ × Field). within x.1) ls) l.1 (named_in name ls) refl h (all_within name ls) e

pub field_holds : (name : List ℕ) {r : Option Field} {k : Field} → r ≡ field_named name → r ≡ Some k → holds k
unfolding within
field_holds name a b = holds_within _ (all_within name ((codes "", Number) ∷ (parts ++ ((codes "length", Length) ∷ []))) refl (sym a ∙ b))
