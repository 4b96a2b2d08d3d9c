-- By 1 nothing changes; otherwise it is `divide`.
use Rattle.chain.proofs.RoundedUp.{divided_by_one}
use Rattle.chain.proofs.rounding.divide_out.Goals as goal

pub returns-then-d-eq1 : goal.returns-then-d-eq1
returns-then-d-eq1 c = divided_by_one _ _ c.if-d-eq1.true
