-- What is exported, of any bytes in which show finds no fault: `exported_loads` (those of what it lends), `exported_load` (each is that of its record's figure, by the
-- archive's bytes), `exported_within` (so it is all that a load is). `exported_refused`: beside a refusal 32 zeros. `exported_length`: 32 bytes in any case.
use mathlib.Core.Path.{◌≡◌, refl, ap, ◌∙◌}
use mathlib.Core.List.{List}
use Prim.Native.Nat.{ℕ, zero, suc, ◌*◌, ◌^◌, ◌<◌}
use native.Mathlib.Omega.{arith}
use lib.ListN.{length, get_or, replicate}
use Rattle.octets.specs.Bytes.{number_at}
use Rattle.load.specs.Load.{load_bytes}
use Rattle.load.proofs.Smallest.{bytes_within}
use Rattle.records.specs.Layout.{bytes_at}
use Rattle.archive.specs.Archive.{show_refusal, show_part, record_figures}
use Rattle.archive.proofs.AnswerLaws.{accepted_refused}
use Rattle.archive.proofs.FiguresRead.{four_at, shown_record}
use Rattle.export.specs.Export.{loads_of, export_bytes, figure_in, EachWithin}
use Rattle.export.proofs.Loads.{loads_place, length_loads}

pub exported_refused : (b : List ℕ) (u k : ℕ) → (show_refusal b u k ≡ 0 → ⊥) → export_bytes b u k ≡ replicate 32 0
unfolding export_bytes
exported_refused b u k h = accepted_refused (show_refusal b u k) _ _ h

-- ── where show refuses nothing

module _ (b : List ℕ) (u k : ℕ) (e : show_refusal b u k ≡ 0) where
  pub exported_loads : export_bytes b u k ≡ loads_of (record_figures (show_part b u k))
  unfolding export_bytes
  exported_loads = rw e

  -- by the bytes of the archive
  of_bytes : export_bytes b u k ≡ loads_of (four_at b (96 * k))
  of_bytes = exported_loads ∙ ap loads_of (shown_record b u k e).1

  figure_is : (i : ℕ) → i < 4 → get_or (four_at b (96 * k)) i 0 ≡ figure_in b k i
  figure_is zero h = refl
  figure_is (suc zero) h = refl
  figure_is (suc (suc zero)) h = refl
  figure_is (suc (suc (suc zero))) h = refl
  figure_is (suc (suc (suc (suc i)))) h = absurd (omega arith)

  pub exported_load : (i : ℕ) → i < 4 → bytes_at (export_bytes b u k) (8 * i) 8 ≡ load_bytes (figure_in b k i)
  exported_load i h = ap (λ (l : List ℕ). bytes_at l (8 * i) 8) of_bytes ∙ loads_place (four_at b (96 * k)) i h ∙ ap load_bytes (figure_is i h)

  -- where what is read are bytes
  pub exported_within : {l : List ℕ} → l ≡ export_bytes b u k → ((i : ℕ) → i < 4 → figure_in b k i < 2 ^ 64) → EachWithin b k l
  unfolding number_at
  exported_within {l} g small i h = bytes_within (figure_in b k i) (small i h) (ap (λ (x : List ℕ). bytes_at x (8 * i) 8) g ∙ exported_load i h)

-- ── any

pub exported_length : (b : List ℕ) (u k : ℕ) → length (export_bytes b u k) ≡ 32
exported_length b u k = go (show_refusal b u k) refl
  where
    go : (r : ℕ) → show_refusal b u k ≡ r → length (export_bytes b u k) ≡ 32
    go zero e = ap length (of_bytes b u k e) ∙ length_loads (four_at b (96 * k))
    go (suc r) e = ap length (exported_refused b u k (λ z. omega (arith, e, z)))
