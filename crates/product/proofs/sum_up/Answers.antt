-- The product starts with the sum of both, times the constant.
use mathlib.Core.Path.{◌∙◌}
use native.Mathlib.Nat.{mul-pos}
use lib.Pow.{pow_pos}
use Rattle.product.proofs.Chains.{quantities_positive}
use Rattle.product.proofs.Starts.{start_times}
use Rattle.product.proofs.sum_up.Goals as goal

pub returns : goal.returns
returns c =
    c.finish.ensures
    ∙ start_times _ _ _ _ _ _ c.requires.1 (pow_pos c.times.new.self.depth) (mul-pos (pow_pos 1074) (pow_pos 1074)) (quantities_positive c.args.quantities.now) c.sum-p.ensures.0 c.times.ensures.0
