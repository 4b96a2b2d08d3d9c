-- The limbs below are cleared, and one column of a product with a power of two stands above them.
use mathlib.Core.Path.{refl}
use Prim.Native.Nat.{◌/◌}
use Rattle.starts.proofs.Start.{lay_done, lay_stays}
use Rattle.starts.proofs.lay.Goals as goal

pub returns : goal.returns
returns c =
    (lay_done c.args.limbs.now c.clear.new.limbs _ c.args.at _ _ _ _ _ c.requires c.clear.auto.limbs c.clear.ensures c.power.ensures c.multiply_step-s.ensures c.low.ensures c.high.ensures, refl, lay_stays c.args.limbs.now c.clear.new.limbs (c.args.at / 32) _ _ _ c.requires c.clear.auto.limbs)
