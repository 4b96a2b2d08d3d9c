-- The lines of n records, each as long as the width w, in a buffer b. The line of record k: `line_at`; those from record k on: `lines_cons`, `lines_end`.
-- Where record k ends: `record_inside`. Those that an archive holds, by numbers that were read: `lines_read`.
use mathlib.Core.Path.{◌≡◌, ◌∙◌}
use mathlib.Core.List.{List, [], ◌∷◌}
use Prim.Native.Nat.{ℕ, zero, suc, ◌+◌, ◌*◌, ◌≤◌, ◌<◌}
use native.Mathlib.Nat.{mul-zero, mul-suc, mul-le-mul_left, le_of_suc-le-suc, not-suc-le-zero}
use native.Mathlib.Numerals.{add-one}
use native.Mathlib.Omega.{arith}
use lib.ListN.{get_or, drop, drop_of_length-le}
use lib.Seq.{drop-cons, drop-drop}
use Rattle.records.specs.Layout.{no_line, record_at, line_of, first_lines, record_size}
use Rattle.records.specs.Buffer.{count_at, lines_in}
use Rattle.records.proofs.RecordLaws.{length_first_lines}

pub record_inside : (w n k : ℕ) → k < n → w * k + w ≤ w * n
record_inside w n k h = let e : w * (k + 1) ≤ w * n = mul-le-mul_left {m = k + 1} {n = n} w (omega arith) in omega arith

pub lines_read : (b : List ℕ) (u : ℕ) {n : ℕ} → n ≡ count_at b u → first_lines record_size n b ≡ lines_in b u
lines_read b u e = rw e

pub line_at : (w n k : ℕ) (b : List ℕ) → k < n → get_or (first_lines w n b) k no_line ≡ line_of (record_at w b k)
unfolding first_lines
line_at w zero k b h = absurd (not-suc-le-zero h)
line_at w (suc n) zero b h = rw mul-zero
line_at w (suc n) (suc k) b h =
    let e : w * suc k ≡ w + w * k = omega (arith, mul-suc w k) in
    line_at w n k (drop w b) (le_of_suc-le-suc h) ∙ rw (e, ← drop-drop (w * k) w b)

pub lines_cons : (w n k : ℕ) (b : List ℕ) → k < n → drop k (first_lines w n b) ≡ line_of (record_at w b k) ∷ drop (k + 1) (first_lines w n b)
lines_cons w n k b h = let l = length_first_lines w n b in rw (drop-cons (first_lines w n b) k no_line (omega arith), add-one k, line_at w n k b h)

pub lines_end : (w n k : ℕ) (b : List ℕ) → n ≤ k → drop k (first_lines w n b) ≡ []
lines_end w n k b h = let l = length_first_lines w n b in drop_of_length-le (first_lines w n b) {i = k} (omega arith)
