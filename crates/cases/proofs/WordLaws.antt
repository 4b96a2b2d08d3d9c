-- Laws of words, lines and tables.
--   index_within, found_or_end   the place of a byte, or the end
--   parts_none, parts_first   a text's first part, and those behind it
--   drop_least, rest_is       what is left from a place or the end on
--   named_by                  what is found in a table
use mathlib.Core.Path.{◌≡◌, refl, sym, ap, ◌∙◌}
use mathlib.Core.Bool.{Bool, true, false, not, cond}
use mathlib.Core.List.{List, [], ◌∷◌, map}
use Prim.Native.Nat.{ℕ, suc, ◌+◌, ◌-◌, ◌≤◌, ◌<◌, min}
use native.Mathlib.Numerals.{add-one}
use native.Mathlib.Omega.{arith}
use borrow.Author.Tests.{ltb-false}
use denote.Ref.{Bor}
use lib.Dec.{eqb, ltb}
use lib.ListN.{length, take, drop, length-drop}
use lib.Seq.{take_all}
use Rattle.std.specs.Prelude.{Option, None, Some}
use Rattle.std.specs.List.{find}
use Rattle.std.specs.Option.{option_map, unwrap_or}
use Rattle.std.proofs.lemmas.Grind.{common_steps}
use Rattle.std.proofs.lemmas.List.Sums.{prefix_len-le-length}
use Rattle.std.specs.Str.{bytes_eq}
use Rattle.cases.specs.Words.{index_of, onto, parts_of, line_read, named_in}

-- ── the first byte

found_by : (p n : ℕ) (b : Bool) → ltb p n ≡ b → p ≤ n → unwrap_or (cond b (Some p) None) n ≡ p
found_by p n true e h = refl
found_by p n false e h = let g = ltb-false p n e in omega arith

pub found_or_end : (p n : ℕ) {r : Option ℕ} → p ≤ n → r ≡ cond (ltb p n) (Some p) None → unwrap_or r n ≡ p
found_or_end p n h e = rw e (found_by p n (ltb p n) refl h)

pub index_within : (b : ℕ) (l : List ℕ) → index_of b l ≤ length l
unfolding index_of
index_within b l = prefix_len-le-length (λ (x : ℕ). not (eqb x b)) l

-- ── parts

index_none : (s : ℕ) → index_of s [] ≡ 0
unfolding index_of
index_none s = refl

index_here : (s b : ℕ) (bs : List ℕ) → eqb b s ≡ true → index_of s (b ∷ bs) ≡ 0
unfolding index_of
index_here s b bs e = rw e

index_next : (s b : ℕ) (bs : List ℕ) → eqb b s ≡ false → index_of s (b ∷ bs) ≡ suc (index_of s bs)
unfolding index_of
index_next s b bs e = rw e (omega arith)

step_by : (s b : ℕ) (bs : List ℕ) (p : Bool) → eqb b s ≡ p → (0 < length bs → parts_of s bs ≡ take (index_of s bs) bs ∷ parts_of s (drop (index_of s bs + 1) bs))
    → parts_of s (b ∷ bs) ≡ take (index_of s (b ∷ bs)) (b ∷ bs) ∷ parts_of s (drop (index_of s (b ∷ bs) + 1) (b ∷ bs))
unfolding parts_of onto
step_by s b bs true e h = rw (e, index_here s b bs e)
step_by s b [] false e h = rw (e, index_next s b [] e, index_none s)
step_by s b (x ∷ bs) false e h = rw (e, index_next s b (x ∷ bs) e, h (omega arith), add-one, add-one)

pub parts_step : (s : ℕ) (l : List ℕ) → 0 < length l → parts_of s l ≡ take (index_of s l) l ∷ parts_of s (drop (index_of s l + 1) l)
parts_step s [] h = absurd (omega arith)
parts_step s (b ∷ bs) h = step_by s b bs (eqb b s) refl (parts_step s bs)

pub parts_none : (s : ℕ) (l : List ℕ) → length l ≡ 0 → parts_of s l ≡ []
unfolding parts_of
parts_none s [] h = refl
parts_none s (b ∷ bs) h = absurd (omega arith)

-- ── from a place or the end on

pub drop_least : (k : ℕ) (l : List ℕ) → drop (min k (length l)) l ≡ drop k l
drop_least k l = grind (arith, common_steps)

pub rest_is : (l : List ℕ) (at : ℕ) → take (length l - at) (drop at l) ≡ drop at l
rest_is l at = take_all (length l - at) (drop at l) (rw length-drop (omega arith))

-- a text's first part, and what is left behind it
pub parts_first : (s : ℕ) (l : List ℕ) {n m : ℕ} → 0 < length l → n ≡ index_of s l → m ≡ min (n + 1) (length l) → parts_of s l ≡ take n l ∷ parts_of s (take (length l - m) (drop m l))
parts_first s l {n} {m} h e f =
    let d : take (length l - m) (drop m l) ≡ drop (index_of s l + 1) l = rest_is l m ∙ ap (λ j. drop j l) f ∙ drop_least (n + 1) l ∙ ap (λ j. drop (j + 1) l) e in
    rw (d, e) (parts_step s l h)

-- ── a table

module _ {T : Type 0} (w : List ℕ) where
  beside : (l : Bor (List ℕ) × T) (b : Bool) (r : Option (Bor (List ℕ) × T)) {s : Option T} → option_map (λ (x : Bor (List ℕ) × T). x.1) r ≡ s
      → option_map (λ (x : Bor (List ℕ) × T). x.1) (cond b (Some l) r) ≡ cond b (Some l.1) s
  beside l true r h = refl
  beside l false r h = h

  named_found : (ls : List (Bor (List ℕ) × T)) → option_map (λ (x : Bor (List ℕ) × T). x.1) (find (λ (x : Bor (List ℕ) × T). bytes_eq x.0.now w) ls) ≡ named_in w (map (line_read {T = T}) ls)
  named_found [] = refl
  named_found (l ∷ ls) = beside l (bytes_eq l.0.now w) (find (λ (x : Bor (List ℕ) × T). bytes_eq x.0.now w) ls) (named_found ls)

  -- what is found, as a program finds it
  pub named_by : (ls : List (Bor (List ℕ) × T)) {r s : Option (Bor (Bor (List ℕ) × T))} → r ≡ s
      → option_map (λ (x : Bor (Bor (List ℕ) × T)). x.now) r ≡ find (λ (x : Bor (List ℕ) × T). bytes_eq x.0.now w) ls
      → option_map (λ (x : Bor (List ℕ) × T). x.1) (option_map (λ (x : Bor (Bor (List ℕ) × T)). x.now) s) ≡ named_in w (map (line_read {T = T}) ls)
  named_by ls e f = ap (option_map (λ (x : Bor (List ℕ) × T). x.1)) (ap (option_map (λ (x : Bor (Bor (List ℕ) × T)). x.now)) (sym e) ∙ f) ∙ named_found ls
