-- The product starts with 1 - x, times the constant.
use mathlib.Core.Path.{◌∙◌}
use lib.Pow.{pow_pos}
use Rattle.product.specs.Chain.{chain}
use Rattle.product.proofs.Chains.{quantities_positive}
use Rattle.product.proofs.Starts.{start_times}
use Rattle.product.proofs.remainder_up.Goals as goal

pub returns : goal.returns
unfolding chain
returns c =
    c.finish.ensures
    ∙ start_times _ _ _ _ _ _ c.requires.1 (pow_pos c.times.new.self.depth) (pow_pos 1074) (quantities_positive c.args.quantities.now) c.one_less-p.ensures.0 c.times.ensures.0
