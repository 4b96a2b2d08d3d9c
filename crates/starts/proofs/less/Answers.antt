-- Nothing is borrowed.
use Rattle.limbs.proofs.Value.{value_bound}
use Rattle.starts.proofs.Start.{less_done}
use Rattle.starts.proofs.less.Goals as goal

pub returns : goal.returns
returns c =
    let b = rw c.subtract.auto.limbs at (value_bound c.subtract.new.limbs (λ i. (c.type_inv.limbs i).fits)) in
    less_done _ _ c.args.m c.subtract.result _ _ _ b c.requires.1 c.subtract.ensures.0 c.low.ensures c.high.ensures
