-- The product starts with the constant.
use mathlib.Core.Path.{◌∙◌}
use Rattle.product.proofs.Chains.{quantities_positive}
use Rattle.product.proofs.Starts.{start_constant}
use Rattle.product.proofs.product_up.Goals as goal

pub returns : goal.returns
returns c =
    c.finish.ensures
    ∙ start_constant _ _ _ _ c.requires.1 (quantities_positive c.args.quantities.now) c.of.ensures.0
