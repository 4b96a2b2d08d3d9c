-- The term is laid in limbs of its own at shift % 32, and added at limb shift / 32.
use native.Mathlib.Omega.{arith}
use Rattle.starts.proofs.Start.{add_term_done}
use Rattle.starts.proofs.add_term.Goals as goal

pub returns : goal.returns
returns c =
    add_term_done _ _ c.args.at _ _ _ (omega arith) c.lay-m.ensures.0 c.add.ensures.0
