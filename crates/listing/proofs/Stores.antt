-- Laws of bytes stored one at a time, as splices.
--   store_last, store_one         the last of some bytes, stored before the others; one byte
--   digit_stored, first_stored    a number, its last digit first
-- Splices behind one another are in `Splice` of octets.
use mathlib.Core.Path.{◌≡◌, sym, ap, ◌∙◌}
use mathlib.Core.List.{List, [], ◌∷◌, ◌++◌, append_assoc}
use Prim.Native.Nat.{ℕ, suc, ◌+◌, ◌/◌, ◌%◌, ◌≤◌, ◌<◌}
use native.Mathlib.Nat.{add-zero}
use native.Mathlib.Omega.{arith}
use lib.ListN.{length, take, drop, set, length-append, length-set}
use lib.Seq.{drop-cons, get_or-set_same, drop-set-lt, take-set-le}
use Rattle.octets.specs.Bytes.{splice}
use Rattle.octets.proofs.Splice.{splice_nil}
use Rattle.listing.specs.Decimal.{character, decimal}
use Rattle.listing.proofs.DecimalText.{decimal_last, decimal_more, length_more}

pub store_last : (l : List ℕ) (at : ℕ) (vs : List ℕ) (x : ℕ) → at + length vs < length l → splice (set l (at + length vs) x) at vs ≡ splice l at (vs ++ (x ∷ []))
unfolding splice
store_last l at vs x h =
    let p : ℕ = at + length vs in
    let d : drop p (set l p x) ≡ x ∷ drop (suc p) l =
    drop-cons (set l p x) p 0 (rw (length-set l p x) h) ∙ rw (get_or-set_same l p x 0 h, drop-set-lt (suc p) l p x (omega arith)) in
    let e : at + length (vs ++ (x ∷ [])) ≡ suc p = omega (arith, length-append vs (x ∷ [])) in
    rw (take-set-le at l p x (omega arith), d, e, append_assoc (take at l) vs (x ∷ drop (suc p) l), append_assoc (take at l) (vs ++ (x ∷ [])) (drop (suc p) l), append_assoc vs (x ∷ []) (drop (suc p) l))

pub store_one : (l : List ℕ) (at x : ℕ) → at < length l → set l at x ≡ splice l at (x ∷ [])
store_one l at x h =
    sym (splice_nil (set l at x) at) ∙ ap (λ (p : ℕ). splice (set l p x) at []) (sym (add-zero at)) ∙ store_last l at [] x (rw add-zero h)

-- ── a number, its last digit first

pub digit_stored : (l : List ℕ) (at last rest : ℕ) → 10 ≤ rest → last + 1 ≡ at + length (decimal rest) → last < length l
    → splice (set l last (character (rest % 10))) at (decimal (rest / 10)) ≡ splice l at (decimal rest)
digit_stored l at last rest h e b =
    let p : last ≡ at + length (decimal (rest / 10)) = omega (arith, length_more rest h) in
    rw (decimal_more rest h, p) (store_last l at (decimal (rest / 10)) (character (rest % 10)) (omega arith))

pub first_stored : (l : List ℕ) (at last rest : ℕ) → rest < 10 → last + 1 ≡ at + length (decimal rest) → last < length l
    → set l last (character rest) ≡ splice l at (decimal rest)
first_stored l at last rest h e b =
    let p : last ≡ at = omega (arith, ap length (decimal_last rest h)) in
    rw (decimal_last rest h, p) (store_one l at (character rest) (omega arith))
