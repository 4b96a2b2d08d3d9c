-- Loads one behind another: `loads_written` (patterns written as numbers of 8 bytes), `loads_place` (where each stands), `length_loads`.
use mathlib.Core.Path.{◌≡◌, refl, sym, ap, ◌∙◌, subst}
use mathlib.Core.List.{List, [], ◌∷◌, map}
use Prim.Native.Nat.{ℕ, ◌*◌, ◌<◌}
use native.Mathlib.Omega.{arith}
use lib.ListN.{length, get_or, replicate, length-map, get_or-map}
use lib.Seq.{take_all, ext_get_or}
use Rattle.octets.specs.Bytes.{bytes_of, splice}
use Rattle.load.specs.Load.{load_pattern, load_bytes}
use Rattle.records.specs.Layout.{figure_bytes, bytes_at}
use Rattle.records.proofs.Writing.{first_four, length_figure_bytes}
use Rattle.records.proofs.FieldTable.{figure_place}
use Rattle.export.specs.Export.{loads_of}

-- each figure's pattern, in 8 bytes
as_numbers : (fs : List ℕ) → loads_of fs ≡ figure_bytes (map load_pattern fs)
unfolding loads_of load_bytes figure_bytes
as_numbers [] = refl
as_numbers (f ∷ fs) = rw (as_numbers fs)

-- 32 bytes written over 32
four_places : (w x y z : ℕ) → splice (replicate 32 0) 0 (figure_bytes (w ∷ x ∷ y ∷ z ∷ [])) ≡ figure_bytes (w ∷ x ∷ y ∷ z ∷ [])
unfolding splice figure_bytes bytes_of
four_places w x y z = refl

all_places : (ps : List ℕ) → length ps ≡ 4 → splice (replicate 32 0) 0 (figure_bytes ps) ≡ figure_bytes ps
all_places ps l =
    let four = sym (take_all 4 ps (omega arith)) ∙ first_four ps (omega arith) in
    subst (λ (qs : List ℕ). splice (replicate 32 0) 0 (figure_bytes qs) ≡ figure_bytes qs) (sym four) (four_places _ _ _ _)

-- patterns ps, each that of its figure
pub loads_written : (f ps : List ℕ) {b : List ℕ} → length f ≡ 4 → length ps ≡ 4 → ((i : ℕ) → i < 4 → get_or ps i 0 ≡ load_pattern (get_or f i 0))
    → b ≡ splice (replicate 32 0) 0 (figure_bytes ps) → b ≡ loads_of f
unfolding load_pattern
loads_written f ps l m each e =
    let n = length-map f load_pattern in
    let g : ps ≡ map load_pattern f = ext_get_or 0 ps (map load_pattern f) (m ∙ sym (n ∙ l)) (λ i h. each i (omega arith) ∙ sym (get_or-map load_pattern f i 0)) in
    e ∙ all_places ps m ∙ ap figure_bytes g ∙ sym (as_numbers f)

pub loads_place : (fs : List ℕ) (i : ℕ) → i < length fs → bytes_at (loads_of fs) (8 * i) 8 ≡ load_bytes (get_or fs i 0)
unfolding load_bytes load_pattern
loads_place fs i h =
    ap (λ (l : List ℕ). bytes_at l (8 * i) 8) (as_numbers fs)
    ∙ figure_place (map load_pattern fs) i (rw (length-map fs load_pattern) h)
    ∙ ap (bytes_of 8) (get_or-map load_pattern fs i 0)

pub length_loads : (fs : List ℕ) → length (loads_of fs) ≡ 8 * length fs
length_loads fs = ap length (as_numbers fs) ∙ length_figure_bytes (map load_pattern fs) ∙ ap (λ (n : ℕ). 8 * n) (length-map fs load_pattern)
