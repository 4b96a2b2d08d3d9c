-- Laws of `splice`, the one form in which a write is stated: `splice_nil`, `length_splice`, `splice_splice`, `splice_join`,
-- `splice_read` (what was written is read back), `splice_before`, `splice_behind` (all other places are as they were),
-- `part_written` (a part of a slice written whole), `put_halves` (a number written by halves).
-- Laws of the bytes themselves are in `Numbers`.
use mathlib.Core.Path.{◌≡◌, sym, ap, ◌∙◌}
use mathlib.Core.List.{List, [], ◌∷◌, ◌++◌, append_assoc, append-nil}
use Prim.Native.Nat.{ℕ, suc, ◌+◌, ◌-◌, ◌/◌, ◌%◌, ◌^◌, ◌≤◌, ◌<◌}
use native.Mathlib.Nat.{add-zero, add-suc, suc-add}
use native.Mathlib.Omega.{arith}
use lib.ListN.{length, take, drop, get_or, set, length-append, take-append-drop, get_or-append}
use lib.Seq.{sets, sets-eq, length-sets, length-take-le, take-append_seam, drop_at, get_or-append-add, get_or-take, get_or-drop}
use borrow.Rule.Slice.PartMut.{put_mid, post_of, Post-is}
use Rattle.octets.specs.Bytes.{bytes_of, splice}
use Rattle.octets.proofs.Numbers.{length_bytes_of, bytes_of_halves}

-- `splice` is the library's `sets`, a store for each place
as_stores : (l : List ℕ) (at : ℕ) (vs : List ℕ) → at + length vs ≤ length l → sets l at vs ≡ splice l at vs
unfolding splice
as_stores l at vs h = sets-eq vs l at h

pub splice_nil : (l : List ℕ) (at : ℕ) → splice l at [] ≡ l
unfolding splice
splice_nil l at = rw (append-nil, add-zero, take-append-drop)

pub length_splice : (l : List ℕ) (at : ℕ) (vs : List ℕ) → at + length vs ≤ length l → length (splice l at vs) ≡ length l
length_splice l at vs h = ap length (sym (as_stores l at vs h)) ∙ length-sets l at vs

sets_append : (l : List ℕ) (at : ℕ) (vs ws : List ℕ) → sets l at (vs ++ ws) ≡ sets (sets l at vs) (at + length vs) ws
sets_append l at [] ws = rw add-zero
sets_append l at (a ∷ vs) ws = rw (add-suc, ← suc-add) (sets_append (set l at a) (suc at) vs ws)

-- a write right behind another is one write
pub splice_splice : (l : List ℕ) (at : ℕ) (vs ws : List ℕ) → at + (length vs + length ws) ≤ length l
    → splice (splice l at vs) (at + length vs) ws ≡ splice l at (vs ++ ws)
splice_splice l at vs ws h =
    ap (λ (m : List ℕ). splice m (at + length vs) ws) (sym (as_stores l at vs (omega arith)))
    ∙ sym (as_stores (sets l at vs) (at + length vs) ws (rw length-sets (omega arith)))
    ∙ sym (sets_append l at vs ws)
    ∙ as_stores l at (vs ++ ws) (rw length-append (omega arith))

-- the same, of lists known by equations
pub splice_join : (a : List ℕ) {b c : List ℕ} (at p : ℕ) (vs ws : List ℕ) → b ≡ splice a at vs → c ≡ splice b p ws → p ≡ at + length vs
    → at + (length vs + length ws) ≤ length a → c ≡ splice a at (vs ++ ws)
splice_join a {b} {c} at p vs ws e f g h = f ∙ (rw (g, e) (splice_splice a at vs ws h))

pub splice_read : (l : List ℕ) (at : ℕ) (vs : List ℕ) → at ≤ length l → take (length vs) (drop at (splice l at vs)) ≡ vs
unfolding splice
splice_read l at vs h =
    rw (append_assoc, drop_at (take at l) (vs ++ drop (at + length vs) l) at (length-take-le at l h)) (take-append_seam vs (drop (at + length vs) l))

pub splice_before : (l : List ℕ) (at : ℕ) (vs : List ℕ) → at ≤ length l → (i : ℕ) → i < at → get_or (splice l at vs) i 0 ≡ get_or l i 0
unfolding splice
splice_before l at vs h i k =
    rw (append_assoc (take at l) vs (drop (at + length vs) l), get_or-append (take at l) (vs ++ drop (at + length vs) l) 0 i (rw (length-take-le at l h) k))
    (get_or-take at l i 0 k)

pub splice_behind : (l : List ℕ) (at : ℕ) (vs : List ℕ) → at ≤ length l → (i : ℕ) → at + length vs ≤ i → get_or (splice l at vs) i 0 ≡ get_or l i 0
unfolding splice
splice_behind l at vs h i k =
    let n = at + length vs in
    let p : length (take at l ++ vs) ≡ n = length-append (take at l) vs ∙ rw (length-take-le at l h) in
    let e : i ≡ length (take at l ++ vs) + (i - n) = omega arith in
    let f : n + (i - n) ≡ i = omega arith in
    ap (λ (j : ℕ). get_or ((take at l ++ vs) ++ drop n l) j 0) e
    ∙ get_or-append-add (take at l ++ vs) (drop n l) (i - n) 0
    ∙ get_or-drop n l (i - n) 0
    ∙ rw f

-- the n elements of a slice from at on, which `copy_from_slice` writes
pub part_written : (l : List ℕ) (at n : ℕ) {vs ws : List ℕ} → ws ≡ vs → n ≡ length vs → put_mid at (at + n - at) l ws ≡ splice l at vs
unfolding splice
part_written l at n {vs} e h =
    let rest : post_of at (at + n - at) l ≡ drop (at + length vs) l = Post-is at (at + n) l (omega arith) ∙ ap (λ (m : ℕ). drop (at + m) l) h in
    (λ i. take at l ++ (e i ++ rest i)) ∙ sym (append_assoc (take at l) vs _)

-- the low w bytes of a number, and behind them the v above
pub put_halves : (a : List ℕ) {b c : List ℕ} (at w v x : ℕ) → at + (w + v) ≤ length a → b ≡ splice a at (bytes_of w (x % 256 ^ w)) → c ≡ splice b (at + w) (bytes_of v (x / 256 ^ w))
    → c ≡ splice a at (bytes_of (w + v) x)
put_halves a at w v x h e f =
    let low = bytes_of w (x % 256 ^ w) in
    let high = bytes_of v (x / 256 ^ w) in
    let p : length low ≡ w = length_bytes_of w (x % 256 ^ w) in
    let q : length high ≡ v = length_bytes_of v (x / 256 ^ w) in
    rw (bytes_of_halves w v x) (splice_join a at (at + w) low high e f (rw p) (rw (p, q) h))
