-- Laws of records made for listings.
--   record_put   a record put behind the others
--   grown_case   one of the records that grow
use mathlib.Core.Path.{◌≡◌, refl, ap, ◌∙◌}
use mathlib.Core.List.{List, [], ◌∷◌}
use Prim.Native.Nat.{ℕ, ◌+◌, ◌*◌, ◌/◌, ◌≤◌}
use borrow.Author.Tests.{le-leb}
use lib.ListN.{length, take, set, replicate}
use Rattle.octets.specs.Bytes.{bytes_of, splice}
use Rattle.kinds.specs.Builder.{case_bytes}
use Rattle.records.specs.Layout.{Line, line_of}
use Rattle.records.specs.Buffer.{written}
use Rattle.cases.specs.Calls.{recorded_length, recorded_bytes, grown}

-- ── a record

line_whole : (r : List ℕ) {f : List ℕ} → f ≡ (line_of r).figures → ◌≡◌ {A = Line} (record { case = take 64 r; figures = f }) (line_of r)
unfolding line_of
line_whole r e = rw e

pub record_put : (b : List ℕ) (u : ℕ) (r : List ℕ) {f g : List ℕ} → u / 96 ≤ 682 → 96 * (u / 96) + 112 ≤ length b → f ≡ (line_of r).figures
    → g ≡ written b (u / 96) (record { case = take 64 r; figures = f }) → (u + 96 ≡ recorded_length (length b) u) × (g ≡ recorded_bytes b u r)
record_put b u r h l e w = rw (le-leb (u / 96) 682 h, le-leb (96 * (u / 96) + 112) (length b) l) (refl, w ∙ ap (written b (u / 96)) (line_whole r e))

-- ── records that grow

-- a case of which the dossier number alone is not fixed
pub grown_case : (k : ℕ) {c : List ℕ} → c ≡ splice (set (set (set (replicate 64 0) 0 4) 1 1) 2 1) 8 (bytes_of 8 (7 * k + 1))
    → ◌≡◌ {A = Line} (record { case = c; figures = (1000 * k) ∷ (1000 * k + 1) ∷ k ∷ 0 ∷ [] }) (grown k)
unfolding grown case_bytes splice bytes_of
grown_case k e = rw e
