-- Laws of the same filing: of a record by two numbers, `same_numbers`; by the fields that agree, `same_filing_fields`.
use mathlib.Core.Path.{◌≡◌, refl, ◌∙◌}
use mathlib.Core.Bool.{Bool, true, false, ◌&&◌, and_comm, and_assoc}
use mathlib.Core.List.{List, [], ◌∷◌}
use Prim.Native.Nat.{ℕ, zero, suc, ◌+◌, ◌*◌, ◌≤◌, ◌<◌}
use native.Mathlib.Omega.{arith}
use borrow.Author.Tests.{eq-eqb, ne_eqb, eqb-true, eqb-false}
use lib.Dec.{eqb}
use lib.ListN.{length, take, drop, length-drop}
use lib.Seq.{get_or-drop}
use Rattle.octets.specs.Bytes.{AreBytes, number_of, number_at}
use Rattle.kinds.specs.Case.{kind_of, row_of, route_of, user_of, dossier_of}
use Rattle.records.specs.Layout.{case_size, bytes_at, line_of}
use Rattle.records.specs.Lines.{same_bytes, same_filing}
use Rattle.records.proofs.RecordLaws.{part_take}
use Rattle.records.proofs.Writing.{first_four}

-- ── equal numbers are equal bytes

digit : (x y a b : ℕ) (p q : Bool) → eqb x y ≡ p → eqb a b ≡ q → x < 256 → y < 256 → eqb (x + 256 * a) (y + 256 * b) ≡ (p && q)
digit x y a b true true e f hx hy = eq-eqb (x + 256 * a) (y + 256 * b) (omega (arith, eqb-true x y e, eqb-true a b f))
digit x y a b true false e f hx hy = ne_eqb (x + 256 * a) (y + 256 * b) (λ h. eqb-false a b f (omega arith))
digit x y a b false q e f hx hy = ne_eqb (x + 256 * a) (y + 256 * b) (λ h. eqb-false x y e (omega arith))

same_front : (k : ℕ) (xs ys : List ℕ) → AreBytes xs → AreBytes ys → k ≤ length xs → k ≤ length ys
    → eqb (number_of (take k xs)) (number_of (take k ys)) ≡ same_bytes (take k xs) (take k ys)
unfolding number_of
same_front zero xs ys bx by hx hy = refl
same_front (suc k) [] ys bx by hx hy = absurd (omega arith)
same_front (suc k) (x ∷ xs) [] bx by hx hy = absurd (omega arith)
same_front (suc k) (x ∷ xs) (y ∷ ys) bx by hx hy =
    digit x y (number_of (take k xs)) (number_of (take k ys)) (eqb x y) (same_bytes (take k xs) (take k ys)) refl
    (same_front k xs ys (λ i. bx (suc i)) (λ i. by (suc i)) (omega arith) (omega arith)) (bx zero) (by zero)

same_part : (b c : List ℕ) (i j k : ℕ) → AreBytes b → AreBytes c → i + k ≤ length b → j + k ≤ length c
    → eqb (number_at b i k) (number_at c j k) ≡ same_bytes (bytes_at b i k) (bytes_at c j k)
unfolding number_at
same_part b c i j k bb bc hb hc =
    same_front k (drop i b) (drop j c) (λ n. rw get_or-drop (bb (i + n))) (λ n. rw get_or-drop (bc (j + n))) (rw length-drop (omega arith)) (rw length-drop (omega arith))

-- ── of a record, by two numbers read from it and two of the case

pub same_numbers : (r c : List ℕ) → AreBytes r → AreBytes c → case_size ≤ length r → case_size ≤ length c
    → (eqb (number_at r 8 8) (number_at c 8 8) && eqb (number_at r 0 4) (number_at c 0 4)) ≡ same_filing (line_of r).case c
unfolding same_filing line_of
same_numbers r c br bc hr hc =
    and_comm (eqb (number_at r 8 8) (number_at c 8 8)) (eqb (number_at r 0 4) (number_at c 0 4))
    ∙ rw (part_take r 0 4 case_size (omega arith), part_take r 8 8 case_size (omega arith), same_part r c 0 0 4 br bc (omega arith) (omega arith), same_part r c 8 8 8 br bc (omega arith) (omega arith))

-- ── the same filing in the fields of a case

-- the fields on which two cases agree that are the same filing: kind, row, route, user, dossier number, and no other
pub same_filing_fields : (c d : List ℕ) → AreBytes c → AreBytes d → length c ≡ 64 → length d ≡ 64
    → same_filing c d ≡ (eqb (kind_of c) (kind_of d) && (eqb (row_of c) (row_of d) && (eqb (route_of c) (route_of d) && (eqb (user_of c) (user_of d) && eqb (dossier_of c) (dossier_of d)))))
unfolding same_filing
same_filing_fields c d bc bd hc hd =
    rw (first_four c (omega arith), first_four d (omega arith), same_part c d 8 8 8 bc bd (omega arith) (omega arith))
    (simp and_assoc)
