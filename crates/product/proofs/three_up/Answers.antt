-- The product that the three share starts with the constant.
use mathlib.Core.Path.{◌∙◌}
use mathlib.Core.List.{[], ◌∷◌}
use lib.Ieee.{Float}
use lib.Pow.{pow_pos}
use Rattle.product.proofs.Starts.{start_shared}
use Rattle.product.proofs.three_up.Goals as goal

pub returns : goal.returns
returns c =
    let up = λ (t : Float). start_shared _ _ c.args.quantities.now t c.args.k c.args.d c.requires.1 (pow_pos c.by.new.self.depth) c.of-p.ensures.0 c.by.ensures.0 in
    λ j. (c.branch_up.ensures ∙ up c.args.x) j ∷ (c.branch_up-2.ensures ∙ up c.args.y) j ∷ (c.branch_up-3.ensures ∙ up c.args.z) j ∷ []
