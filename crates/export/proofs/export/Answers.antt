-- The loads are those of what show hands out, each within its own.
use mathlib.Core.Path.{sym, ap, ◌∙◌}
use Prim.Native.Nat.{◌+◌, ◌*◌}
use Rattle.octets.proofs.Numbers.{number_at_small}
use Rattle.archive.specs.Archive.{record_figures}
use Rattle.export.specs.Export.{loads_of}
use Rattle.export.proofs.EachLoad.{exported_loads, exported_within}
use Rattle.export.proofs.export.Goals as goal

pub returns-clause-within : goal.returns-clause-within
returns-clause-within c = λ q.
    let a = c.args in
    let z = sym c.in_ok-show_refusal.ensures in
    let f = (rw c.unwrap-figures.ensures at c.figures_of.ensures.1) ∙ ap record_figures c.show.ensures in
    let e = c.loads_of.ensures ∙ ap loads_of f ∙ sym (exported_loads _ _ _ z) in
    exported_within _ _ _ z e (λ i h. number_at_small a.archive.now (96 * a.number + (64 + 8 * i)) 8 (λ j. (c.type_inv.archive j).fits))
