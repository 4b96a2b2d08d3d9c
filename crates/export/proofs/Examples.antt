-- `worked_export`: each record of the worked archive gives its loads; the number behind the last is 24, a used length that is not the archive's 21, and both give zeros.
use mathlib.Core.Path.{◌≡◌, refl}
use mathlib.Core.List.{List}
use Prim.Native.Nat.{ℕ}
use lib.Ieee.{size, span, climb}
use lib.ListN.{replicate}
use Rattle.natural.specs.Ceiling.{ceiling}
use Rattle.octets.specs.Bytes.{bytes_of, number_of, number_at}
use Rattle.load.specs.Load.{load_pattern, load_bytes}
use Rattle.records.specs.Layout.{figures_in, line_of}
use Rattle.records.specs.Buffer.{broken}
use Rattle.archive.specs.Archive.{show_refusals, show_refusal, show_part, is_record, record_figures}
use Rattle.export.specs.Export.{loads_of, export_bytes}
use Rattle.export.specs.WorkedExport.{archive, first_loads, second_loads}

-- what export tells: the refusal, and the bytes
abbrev Tells : ℕ → ℕ → ℕ → List ℕ → Type 0
Tells used number refusal loads = (show_refusal archive used number ≡ refusal) × (export_bytes archive used number ≡ loads)

pub worked_export :
    Tells 208 0 0 first_loads
    × Tells 208 1 0 second_loads
    × Tells 208 2 24 (replicate 32 0)
    × Tells 209 0 21 (replicate 32 0)
unfolding export_bytes loads_of load_bytes load_pattern size span climb ceiling bytes_of number_at number_of figures_in line_of broken show_refusals show_part is_record record_figures
worked_export = ((refl, refl), (refl, refl), (refl, refl), (refl, refl))
