-- What a product in limbs is worth.
use Rattle.std.specs.Prelude.{◌^◌, take}
use Rattle.limbs.specs.Value.{value}
use Rattle.product.specs.Ratio.{Ratio, ◌over◌}
use Rattle.product.specs.declared.Product.{Product}

-- the number in the first `count` limbs, over 2 ^ depth
abbrev pub held : Product → Ratio
held p = value (take p.count p.limbs.now) over 2 ^ p.depth
