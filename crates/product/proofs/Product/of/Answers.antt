-- No limbs are worth 0.
use mathlib.Core.Path.{◌≡◌, refl}
use native.Mathlib.Omega.{arith}
use lib.ListN.{take}
use Rattle.limbs.specs.Value.{value}
use Rattle.product.specs.Ratio.{◌over◌}
use Rattle.product.proofs.Product.of.Goals as goal

pub returns : goal.returns
unfolding value
returns c =
    let e : value (take c.grow-count.result c.grow-count.new.limbs) ≡ c.args.k = omega (arith, c.grow-count.ensures.0) in
    (λ j. e j over 1, omega arith, refl, c.grow-count.auto.limbs)
