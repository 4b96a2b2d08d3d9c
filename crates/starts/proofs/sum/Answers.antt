-- The larger shift says how many limbs are worked on.
use mathlib.Core.Path.{◌∙◌}
use native.Mathlib.Omega.{arith}
use Rattle.starts.proofs.Start.{worked_on}
use Rattle.starts.proofs.sum.Goals as goal

pub returns : goal.returns
returns c =
    let v = c.lay_sum.ensures in
    let w = worked_on c.args.limbs.now c.lay_sum.new.limbs _ c.in_use.result (omega arith) c.lay_sum.auto.limbs c.in_use.ensures in
    rw (← c.larger.ensures) (w.0 ∙ v, w.1, w.2, w.3 ∙ v, w.4)
