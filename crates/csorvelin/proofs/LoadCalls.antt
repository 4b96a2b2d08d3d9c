-- Calls of `csorvelin_load` and `csorvelin_export`, by what their own contracts, as the toolchain reads them, say: `CLoadCall`, `CExportCall`, `c_loads_met`.
-- `c_load_within`, `c_export_within`: with the result 0, which load always gives, each load in the caller's place is that of its figure, within the bounds;
-- `c_load_in_micrograms`, `c_export_in_micrograms`, `c_export_smallest`: what that means.
-- `c_export_refusal_first`, `c_export_refused`: the result of export is the first of show's conditions that holds; beside one stand 32 zeros. `c_export_reads_only`.
use mathlib.Core.Path.{◌≡◌, refl, sym, ◌∙◌, subst}
use mathlib.Core.List.{List}
use Prim.Native.Nat.{ℕ, ◌+◌, ◌*◌, ◌<◌}
use lib.Dec.{T}
use lib.Ieee.{binary64, of_bits, le}
use lib.ListN.{replicate}
use Rattle.octets.specs.Bytes.{number_of, number_at}
use Rattle.kinds.specs.Refusal.{IsFirst}
use Rattle.kinds.proofs.Refusals.{first_of_is_first}
use Rattle.emission.specs.Called.{Called, ends}
use Rattle.load.specs.Load.{LoadWithin, exactly}
use Rattle.load.proofs.Micrograms.{InMicrograms, in_micrograms}
use Rattle.archive.specs.Archive.{show_refusals}
use Rattle.export.specs.Export.{EachWithin}
use Rattle.export.proofs.EachLoad.{exported_refused}
use Rattle.csorvelin.proofs.csorvelin_load.Kinds as load_kinds
use Rattle.csorvelin.proofs.csorvelin_load.Reads as load_reads
use Rattle.csorvelin.proofs.csorvelin_load.Met as load_met
use Rattle.csorvelin.proofs.csorvelin_load.Statement as load_statement
use Rattle.csorvelin.proofs.csorvelin_export.Kinds as export_kinds
use Rattle.csorvelin.proofs.csorvelin_export.Reads as export_reads
use Rattle.csorvelin.proofs.csorvelin_export.Met as export_met
use Rattle.csorvelin.proofs.csorvelin_export.Statement as export_statement

abbrev pub CLoadCall : Type 0
CLoadCall = Called 1 load_kinds.ps load_kinds.r load_reads.Learnt

abbrev pub CExportCall : Type 0
CExportCall = Called 2 export_kinds.ps export_kinds.r export_reads.Learnt

pub c_loads_met : {M : Type 1} → load_statement.statement M × export_statement.statement M
c_loads_met = (load_met.met, export_met.met)

pub c_load_within : (call : CLoadCall) → (call.result ≡ 0) × LoadWithin call.args.0 (number_of (ends call).1.0.now)
c_load_within call = (call.kept.0.0, call.kept.1)

pub c_load_in_micrograms : (call : CLoadCall) → InMicrograms call.args.0 (number_of (ends call).1.0.now)
c_load_in_micrograms call = in_micrograms _ _ call.kept.1

-- the archive's bytes, the used length and the number that export was called with, and what it left in the caller's place
module _ (call : CExportCall) where
  abbrev b : List ℕ
  b = call.args.0.now

  abbrev u : ℕ
  u = call.args.1.0

  abbrev k : ℕ
  k = call.args.1.1.0

  abbrev loads : List ℕ
  loads = (ends call).1.1.1.0.now

  pub c_export_refusal_first : IsFirst (show_refusals b u k) call.result
  c_export_refusal_first = subst (IsFirst (show_refusals b u k)) (sym call.kept.0.0) (first_of_is_first _)

  pub c_export_within : call.result ≡ 0 → EachWithin b k loads
  c_export_within e = call.kept.1 e

  -- load i of the four and its figure, in plain numbers
  pub c_export_in_micrograms : call.result ≡ 0 → (i : ℕ) → i < 4 → InMicrograms (number_at b (96 * k + (64 + 8 * i)) 8) (number_at loads (8 * i) 8)
  c_export_in_micrograms e i h = in_micrograms _ _ (call.kept.1 e i h)

  -- and every binary64 that is at least the figure is at least the load
  pub c_export_smallest : call.result ≡ 0 → (i other : ℕ) → i < 4 → T (le (exactly (number_at b (96 * k + (64 + 8 * i)) 8)) (of_bits binary64 other))
      → T (le (of_bits binary64 (number_at loads (8 * i) 8)) (of_bits binary64 other))
  c_export_smallest e i other h = (call.kept.1 e i h).is_smallest.smallest other

  pub c_export_refused : (call.result ≡ 0 → ⊥) → loads ≡ replicate 32 0
  c_export_refused h = call.kept.0.1 ∙ exported_refused b u k (λ z. h (call.kept.0.0 ∙ z))

  pub c_export_reads_only : (ends call).0.now ≡ b
  c_export_reads_only = refl
