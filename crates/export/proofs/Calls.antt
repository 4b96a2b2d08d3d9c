-- A call of `export`, by what its own contract, as the toolchain reads it, says: `ExportCall`; `met`, `asks_nothing`.
-- `export_refusal_first`: the refusal is the first of show's conditions that holds. `export_within`: with none each load is that of its record's figure, and
-- `export_in_micrograms`, `export_smallest` say of each what that means.
-- `export_refused`: beside one stand 32 zeros. `export_reads_only`: the archive is left as it was.
use mathlib.Core.Path.{◌≡◌, refl, sym, ◌∙◌, subst}
use mathlib.Core.List.{List}
use Prim.Native.Nat.{ℕ, ◌+◌, ◌*◌, ◌<◌}
use borrow.Fn.Kinds as kinds
use contract.Lifetimes.{Lfts}
use lib.Dec.{T}
use lib.Ieee.{binary64, of_bits, le}
use lib.ListN.{replicate}
use Rattle.octets.specs.Bytes.{number_at}
use Rattle.load.specs.Load.{exactly}
use Rattle.load.proofs.Micrograms.{InMicrograms, in_micrograms}
use Rattle.kinds.specs.Refusal.{IsFirst}
use Rattle.kinds.specs.Number.{refused}
use Rattle.kinds.proofs.Refusals.{first_of_is_first}
use Rattle.emission.specs.Called.{Called, ends}
use Rattle.archive.specs.Archive.{show_refusals}
use Rattle.export.specs.Export.{loads_in, EachWithin}
use Rattle.export.proofs.EachLoad.{exported_refused}
use Rattle.export.proofs.export.Kinds as export_kinds
use Rattle.export.proofs.export.Reads as export_reads
use Rattle.export.proofs.export.Met as export_met
use Rattle.export.proofs.export.Statement as export_statement

abbrev pub ExportCall : Type 0
ExportCall = Called 1 export_kinds.ps export_kinds.r export_reads.Learnt

pub met : {M : Type 1} → export_statement.statement M
met = export_met.met

pub asks_nothing : (κs : Lfts 1) (x : kinds.Dens κs export_kinds.ps) → export_reads.Asked κs x
asks_nothing κs x = tt

-- the archive's bytes, the used length and the number that it was called with
module _ (call : ExportCall) where
  abbrev b : List ℕ
  b = call.args.0.now

  abbrev u : ℕ
  u = call.args.1.0

  abbrev k : ℕ
  k = call.args.1.1.0

  pub export_refusal_first : IsFirst (show_refusals b u k) (refused call.result)
  export_refusal_first = subst (IsFirst (show_refusals b u k)) (sym call.kept.0.0) (first_of_is_first _)

  pub export_within : refused call.result ≡ 0 → EachWithin b k (loads_in call.result)
  export_within e = call.kept.1 e

  -- load i of the four and its figure, in plain numbers
  pub export_in_micrograms : refused call.result ≡ 0 → (i : ℕ) → i < 4 → InMicrograms (number_at b (96 * k + (64 + 8 * i)) 8) (number_at (loads_in call.result) (8 * i) 8)
  export_in_micrograms e i h = in_micrograms _ _ (call.kept.1 e i h)

  -- and every binary64 that is at least the figure is at least the load
  pub export_smallest : refused call.result ≡ 0 → (i other : ℕ) → i < 4 → T (le (exactly (number_at b (96 * k + (64 + 8 * i)) 8)) (of_bits binary64 other))
      → T (le (of_bits binary64 (number_at (loads_in call.result) (8 * i) 8)) (of_bits binary64 other))
  export_smallest e i other h = (call.kept.1 e i h).is_smallest.smallest other

  pub export_refused : (refused call.result ≡ 0 → ⊥) → loads_in call.result ≡ replicate 32 0
  export_refused h = call.kept.0.1 ∙ exported_refused b u k (λ z. h (call.kept.0.0 ∙ z))

  pub export_reads_only : (ends call).0.now ≡ b
  export_reads_only = refl
