-- A shift and a division are one division, and anything that they leave counts.
use Rattle.chain.proofs.RoundedUp.{rounded, left_down}
use Rattle.chain.proofs.rounding.quotient_up.Goals as goal

pub returns : goal.returns
returns c =
    (rounded _ _ _ _ _ _ _ _ _ _ _ _ c.shift_down-a.ensures.0 c.shift_down-a.ensures.1 c.divide_out-b.ensures.0 c.divide_out-b.ensures.1 c.wide.ensures.0 c.wide-2.ensures.0 c.to_u64.ensures c.up.ensures, left_down _ _ _ _ _ _ _ c.shift_down-a.ensures.0 c.shift_down-a.ensures.1 c.divide_out-b.ensures.0 c.divide_out-b.ensures.1)
