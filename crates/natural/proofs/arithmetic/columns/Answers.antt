-- The loops' invariant: the limbs below the index and the carry are the sum, or the difference, of those at entry.
use native.Mathlib.Omega.{arith}
use Rattle.limbs.specs.Value.{value}
use Rattle.limbs.proofs.Value.{value_next}
use Rattle.natural.proofs.Carry.{columns_start, columns_again, columns_through, columns_end, columns_stopped}
use Rattle.natural.proofs.arithmetic.columns.Goals as goal

pub loop-i-init : goal.loop-i-init
unfolding value
loop-i-init g c = (columns_start g.C.Column.away c.args.limbs.now, omega arith)

pub loop-i-preserved : goal.loop-i-preserved
loop-i-preserved g c =
    (columns_again g.C.Column.away c.loop-i.carry _ _ _ _ _ c.loop-i.invariant.0 (omega arith) c.step-s.ensures.0 (value_next c.args.other.now c.loop-i.i (omega arith)), c.step-s.ensures.1)

pub loop-j-init : goal.loop-j-init
loop-j-init g c =
    (columns_through g.C.Column.away c.loop-i.limbs c.args.limbs.now c.args.other.now c.loop-i.i c.loop-i.carry c.loop-i.invariant.0 (omega arith), c.loop-i.invariant.1)

pub returns-then-carry-eq0 : goal.returns-then-carry-eq0
returns-then-carry-eq0 g c = (columns_stopped g.C.Column.away c.loop-j.carry _ c.loop-j.invariant.0 c.if-carry-eq0.true, omega arith)

pub loop-j-preserved : goal.loop-j-preserved
loop-j-preserved g c =
    (columns_again g.C.Column.away c.loop-j.carry _ _ _ 0 _ c.loop-j.invariant.0 (omega arith) c.step-s-in-loop-j.ensures.0 (omega arith), c.step-s-in-loop-j.ensures.1)

pub returns : goal.returns
returns g c = (columns_end g.C.Column.away c.loop-j.carry _ c.loop-j.invariant.0 (omega arith), c.loop-j.invariant.1)
