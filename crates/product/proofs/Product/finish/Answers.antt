-- The product of `by`, which `round_up` divides.
use mathlib.Core.Path.{ap, ◌∙◌}
use Prim.Native.Nat.{ℕ, min}
use Rattle.product.proofs.Limbs.{rounded}
use Rattle.product.proofs.Product.finish.Goals as goal

pub returns : goal.returns
returns c =
    c.round_up.ensures.0
    ∙ ap (λ (n : ℕ). min 18446744073709551615 n)
    (rounded c.args.quantities.now _ c.args.self.now.depth _ c.by.new.self.depth c.args.d c.requires.4 c.by.ensures.0)
