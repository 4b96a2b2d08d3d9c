-- Laws of records: what is written is read back.
-- Numbers: `number_behind`, `figures_back`. Lines that a record holds: `Sized`, `Storable`, `AllStorable`, `storable_snoc`. Lengths: `length_record_of`, `length_records`, `length_first_lines`.
-- Back: `line_record`, `first_lines_records`, `record_at_lem`. One more line: `records_snoc`. Places: `number_at_drop`, `part_take`, `part_drop`, `part_part`, `number_part`, `part_append`, `line_figures`.
-- Searches over records are in `SameFiling` and `WorstScan`.
use mathlib.Core.Path.{◌≡◌, refl, sym, ap, ◌∙◌, subst}
use mathlib.Core.List.{List, [], ◌∷◌, ◌++◌, append_assoc, append-nil}
use Prim.Native.Nat.{ℕ, zero, suc, ◌+◌, ◌*◌, ◌^◌, ◌≤◌, ◌<◌}
use native.Mathlib.Nat.{mul-suc, mod-eq_of_lt, le_of_suc-le-suc, not-suc-le-zero}
use native.Mathlib.Omega.{arith}
use lib.ListN.{length, get_or, take, drop, length-append, length-drop}
use lib.Seq.{take_at, drop_at, take-append-le, drop-append-le, drop-append-add, drop-drop, take-take, take-nil}
use Rattle.octets.specs.Bytes.{bytes_of, number_of, number_at}
use Rattle.octets.proofs.Numbers.{length_bytes_of, number_of_bytes_of}
use Rattle.records.specs.Layout.{Line, no_line, figure_bytes, figures_in, record_of, records, line_of, first_lines, case_size, record_size, bytes_at, record_at}
use Rattle.records.proofs.Writing.{length_figure_bytes}

-- ── places

pub number_at_drop : (b : List ℕ) (n at w : ℕ) → number_at (drop n b) at w ≡ number_at b (n + at) w
unfolding number_at
number_at_drop b n at w = ap (λ (l : List ℕ). number_of (take w l)) (drop-drop at n b)

pub part_take : (b : List ℕ) (a n m : ℕ) → a + n ≤ m → bytes_at (take m b) a n ≡ bytes_at b a n
part_take b zero n m h = take-take n m b (omega arith)
part_take [] (suc a) n m h = rw take-nil
part_take (x ∷ b) (suc a) n zero h = absurd (omega arith)
part_take (x ∷ b) (suc a) n (suc m) h = part_take b a n m (omega arith)

pub part_drop : (b : List ℕ) (a n m : ℕ) → bytes_at (drop m b) a n ≡ bytes_at b (m + a) n
part_drop b a n m = ap (take n) (drop-drop a m b)

-- part of a part, and a number in it
pub part_part : (b : List ℕ) (at n o w : ℕ) → o + w ≤ n → bytes_at (bytes_at b at n) o w ≡ bytes_at b (at + o) w
part_part b at n o w h = part_take (drop at b) o w n h ∙ part_drop b o w at

pub number_part : (b : List ℕ) (at n o w : ℕ) → o + w ≤ n → number_at (bytes_at b at n) o w ≡ number_at b (at + o) w
unfolding number_at
number_part b at n o w h = ap number_of (part_part b at n o w h)

pub part_append : (xs ys : List ℕ) (o w : ℕ) → o + w ≤ length xs → bytes_at (xs ++ ys) o w ≡ bytes_at xs o w
part_append xs ys o w h = rw (drop-append-le o xs ys (omega arith)) (take-append-le w (drop o xs) ys (rw length-drop (omega arith)))

-- the figures of a record stand at 64, 72, 80 and 88
pub line_figures : (r : List ℕ) → (line_of r).figures ≡ number_at r 64 8 ∷ number_at r 72 8 ∷ number_at r 80 8 ∷ number_at r 88 8 ∷ []
unfolding line_of figures_in
line_figures r = simp (drop-drop, number_at_drop)

-- ── numbers

-- a number of w bytes, behind p and before q
pub number_behind : (p q : List ℕ) (at w x : ℕ) → length p ≡ at → x < 256 ^ w → number_at (p ++ (bytes_of w x ++ q)) at w ≡ x
unfolding number_at
number_behind p q at w x h f =
    rw (drop_at p (bytes_of w x ++ q) at h, take_at (bytes_of w x) q w (length_bytes_of w x), number_of_bytes_of) (mod-eq_of_lt f)

-- figures that 8 bytes hold
abbrev pub Fit : List ℕ → Type 0
Fit [] = Unit {0}
Fit (x ∷ xs) = (x < 2 ^ 64) × Fit xs

figures_back : (xs r : List ℕ) → Fit xs → figures_in (length xs) (figure_bytes xs ++ r) ≡ xs
unfolding figure_bytes figures_in
figures_back [] r f = refl
figures_back (x ∷ xs) r f =
    rw (append_assoc (bytes_of 8 x) (figure_bytes xs) r, number_behind [] (figure_bytes xs ++ r) 0 8 x refl f.0, drop_at (bytes_of 8 x) (figure_bytes xs ++ r) 8 (length_bytes_of 8 x), figures_back xs r f.1)

-- ── lines

-- a line whose record has a record's size, and one that a record can hold
pub record Sized (l : Line) : Type 0 where
  pub case_size_lem : length l.case ≡ case_size
  pub four : length l.figures ≡ 4

pub record Storable (l : Line) : Type 0 where
  pub sized : Sized l
  pub fit : Fit l.figures

abbrev pub AllStorable : List Line → Type 0
AllStorable [] = Unit {0}
AllStorable (l ∷ ls) = Storable l × AllStorable ls

pub storable_snoc : (ls : List Line) (l : Line) → AllStorable ls → Storable l → AllStorable (ls ++ (l ∷ []))
storable_snoc [] l g h = (h, tt)
storable_snoc (m ∷ ls) l g h = (g.0, storable_snoc ls l g.1 h)

pub length_record_of : (l : Line) → Sized l → length (record_of l) ≡ record_size
unfolding record_of
length_record_of l g = omega (arith, length-append l.case (figure_bytes l.figures), length_figure_bytes l.figures, g.case_size_lem, g.four)

line_record : (l : Line) → Storable l → line_of (record_of l) ≡ l
unfolding record_of line_of
line_record l g =
    let c = l.case in
    let f = figure_bytes l.figures in
    let e : figures_in 4 f ≡ l.figures =
    subst (λ (k : ℕ). figures_in k f ≡ l.figures) g.sized.four (subst (λ (r : List ℕ). figures_in (length l.figures) r ≡ l.figures) (append-nil f) (figures_back l.figures [] g.fit)) in
    λ i. record { case = take_at c f case_size g.sized.case_size_lem i; figures = (ap (figures_in 4) (drop_at c f case_size g.sized.case_size_lem) ∙ e) i }

pub length_records : (ls : List Line) → AllStorable ls → length (records ls) ≡ record_size * length ls
unfolding records
length_records [] g = refl
length_records (l ∷ ls) g =
    omega (arith, length-append (record_of l) (records ls), length_record_of l g.0.sized, length_records ls g.1, mul-suc record_size (length ls))

pub length_first_lines : (width n : ℕ) (b : List ℕ) → length (first_lines width n b) ≡ n
unfolding first_lines
length_first_lines width zero b = refl
length_first_lines width (suc n) b = ap suc (length_first_lines width n (drop width b))

pub first_lines_records : (ls : List Line) (r : List ℕ) → AllStorable ls → first_lines record_size (length ls) (records ls ++ r) ≡ ls
unfolding records first_lines
first_lines_records [] r g = refl
first_lines_records (l ∷ ls) r g =
    rw (append_assoc (record_of l) (records ls) r, take_at (record_of l) (records ls ++ r) record_size (length_record_of l g.0.sized), drop_at (record_of l) (records ls ++ r) record_size (length_record_of l g.0.sized), line_record l g.0, first_lines_records ls r g.1)

pub record_at_lem : (ls : List Line) (r : List ℕ) (k : ℕ) → AllStorable ls → k < length ls → record_at record_size (records ls ++ r) k ≡ record_of (get_or ls k no_line)
unfolding records
record_at_lem [] r k g h = absurd (not-suc-le-zero h)
record_at_lem (l ∷ ls) r zero g h =
    rw (append_assoc (record_of l) (records ls) r) (take_at (record_of l) (records ls ++ r) record_size (length_record_of l g.0.sized))
record_at_lem (l ∷ ls) r (suc k) g h =
    let e : record_size * suc k ≡ length (record_of l) + record_size * k = omega (arith, length_record_of l g.0.sized, mul-suc record_size k) in
    rw (e, append_assoc (record_of l) (records ls) r, drop-append-add (record_of l) (records ls ++ r) (record_size * k)) (record_at_lem ls r k g.1 (le_of_suc-le-suc h))

pub records_snoc : (ls : List Line) (l : Line) → records (ls ++ (l ∷ [])) ≡ records ls ++ record_of l
unfolding records
records_snoc [] l = append-nil (record_of l)
records_snoc (m ∷ ls) l = rw (records_snoc ls l) (sym (append_assoc (record_of m) (records ls) (record_of l)))
