-- By kind: what is added, or nothing.
use native.Mathlib.Omega.{arith}
use lib.Ieee.{nan}
use Rattle.std.proofs.Common.{rules}
use Rattle.kinds.specs.Case.{kind_at, kinds, sum_from, sum_within, summed_of}
use Rattle.kinds.proofs.KindTable.{not_summed}
use Rattle.kinds.proofs.Six.{six_are}
use Rattle.scenario.proofs.quantities.sum_over.Goals as goal

pub returns-in-5 : goal.returns-in-5
unfolding summed_of sum_within sum_from kind_at kinds
returns-in-5 c = rw (c.over_one.ensures, c.in-5.is, six_are c.args.quantities nan (search rules))

pub returns-in-8 : goal.returns-in-8
unfolding summed_of sum_within sum_from kind_at kinds
returns-in-8 c = rw (c.over_one-in-8.ensures, c.in-8.is, six_are c.args.quantities nan (search rules))

pub returns-in_default : goal.returns-in_default
unfolding summed_of sum_within sum_from kind_at kinds
returns-in_default c = rw (not_summed c.args.kind (λ e. omega arith) (λ e. omega arith))
