-- Laws of what is written to the archive: one write behind another, up to a record with its trailer.
-- Writes: `behind` (one right behind another), `figures_written`, `trailer_written`, `line_written`.
-- Four elements: `first_four`. Lengths: `length_figure_bytes`, `length_trailer`.
-- What is read back is in `RecordLaws` and `Trailer`.
use mathlib.Core.Path.{◌≡◌, refl, sym, ap, ◌∙◌}
use mathlib.Core.List.{List, [], ◌∷◌, ◌++◌, append_assoc, append-nil}
use Prim.Native.Nat.{ℕ, ◌+◌, ◌*◌, ◌≤◌, ◌<◌}
use native.Mathlib.Nat.{mul-suc}
use native.Mathlib.Omega.{arith}
use lib.ListN.{length, get_or, take, length-append}
use lib.Seq.{length-take-le}
use Rattle.std.proofs.lemmas.List.{take_more}
use Rattle.octets.specs.Bytes.{bytes_of, splice}
use Rattle.octets.proofs.Numbers.{length_bytes_of}
use Rattle.octets.proofs.Splice.{splice_join}
use Rattle.records.specs.Layout.{figure_bytes, record_of, trailer, record_size, edition}
use Rattle.records.specs.Buffer.{written}

-- ── four elements

pub first_four : (l : List ℕ) → 4 ≤ length l → take 4 l ≡ get_or l 0 0 ∷ get_or l 1 0 ∷ get_or l 2 0 ∷ get_or l 3 0 ∷ []
first_four [] h = absurd (omega arith)
first_four (w ∷ []) h = absurd (omega arith)
first_four (w ∷ x ∷ []) h = absurd (omega arith)
first_four (w ∷ x ∷ y ∷ []) h = absurd (omega arith)
first_four (w ∷ x ∷ y ∷ z ∷ l) h = refl

-- ── lengths

pub length_figure_bytes : (xs : List ℕ) → length (figure_bytes xs) ≡ 8 * length xs
unfolding figure_bytes
length_figure_bytes [] = refl
length_figure_bytes (x ∷ xs) =
    omega (arith, length-append (bytes_of 8 x) (figure_bytes xs), length_bytes_of 8 x, length_figure_bytes xs, mul-suc 8 (length xs))

pub length_trailer : (width edition n : ℕ) → length (trailer width edition n) ≡ 16
unfolding trailer
length_trailer w e n = rw (length-append, length-append, length_bytes_of, length_bytes_of, length_bytes_of)

figure_bytes_snoc : (xs : List ℕ) (x : ℕ) → figure_bytes (xs ++ (x ∷ [])) ≡ figure_bytes xs ++ bytes_of 8 x
unfolding figure_bytes
figure_bytes_snoc [] x = append-nil (bytes_of 8 x)
figure_bytes_snoc (y ∷ xs) x = rw (figure_bytes_snoc xs x, append_assoc)

-- ── writes

-- n bytes behind the start of a write that is n bytes long
pub behind : (a : List ℕ) {b c : List ℕ} (at n : ℕ) (vs ws : List ℕ) → b ≡ splice a at vs → c ≡ splice b (at + n) ws → length vs ≡ n
    → at + (n + length ws) ≤ length a → c ≡ splice a at (vs ++ ws)
behind a at n vs ws e f l h = splice_join a at (at + n) vs ws e f (rw l) (rw l h)

-- one figure more, behind the first k
pub figures_written : (a : List ℕ) {b c : List ℕ} (at k : ℕ) (f : List ℕ) → k < length f → at + 8 * length f ≤ length a
    → b ≡ splice a at (figure_bytes (take k f)) → c ≡ splice b (at + 8 * k) (bytes_of 8 (get_or f k 0)) → c ≡ splice a at (figure_bytes (take (k + 1) f))
figures_written a at k f l h p q =
    let n : length (figure_bytes (take k f)) ≡ 8 * k = length_figure_bytes (take k f) ∙ ap (λ (m : ℕ). 8 * m) (length-take-le k f (omega arith)) in
    behind a at (8 * k) (figure_bytes (take k f)) (bytes_of 8 (get_or f k 0)) p q n (omega (arith, length_bytes_of 8 (get_or f k 0)))
    ∙ ap (splice a at) (sym (rw (take_more f k 0) (figure_bytes_snoc (take k f) (get_or f k 0))))

pub trailer_written : (a : List ℕ) {b c d : List ℕ} (at n : ℕ) → at + 16 ≤ length a
    → b ≡ splice a at (bytes_of 8 (record_size * n)) → c ≡ splice b (at + 8) (bytes_of 4 n) → d ≡ splice c (at + 12) (bytes_of 4 edition)
    → d ≡ splice a at (trailer record_size edition n)
unfolding trailer
trailer_written a at n h p q r =
    let D = bytes_of 8 (record_size * n) in
    let N = bytes_of 4 n in
    let d : length D ≡ 8 = length_bytes_of 8 (record_size * n) in
    let m : length N ≡ 4 = length_bytes_of 4 n in
    let e : length (bytes_of 4 edition) ≡ 4 = length_bytes_of 4 edition in
    behind a at 12 (D ++ N) (bytes_of 4 edition) (behind a at 8 D N p q d (omega arith)) r (rw (length-append, d, m)) (omega arith)

-- the case, its figures and the trailer, each behind the one before
pub line_written : (a : List ℕ) {b c d : List ℕ} (n : ℕ) (case f : List ℕ) → length case ≡ 64 → length f ≡ 4 → record_size * (n + 1) + 16 ≤ length a
    → b ≡ splice a (record_size * n) case → c ≡ splice b (record_size * n + 64) (figure_bytes f)
    → d ≡ splice c (record_size * n + record_size) (trailer record_size edition (n + 1))
    → d ≡ written a n (record { case = case; figures = f })
unfolding written record_of
line_written a n case f k l h p q r =
    let g : length (figure_bytes f) ≡ 32 = length_figure_bytes f ∙ ap (λ (m : ℕ). 8 * m) l in
    let t : length (trailer record_size edition (n + 1)) ≡ 16 = length_trailer record_size edition (n + 1) in
    behind a (record_size * n) record_size (case ++ figure_bytes f) (trailer record_size edition (n + 1))
    (behind a (record_size * n) 64 case (figure_bytes f) p q k (omega arith)) r (rw (length-append, k, g)) (omega arith)
