-- The program's table is the paper's, kind by kind.
use lib.Ieee.{of_int, to_bits}
use Rattle.kinds.specs.Case.{kind_at, kinds}
use Rattle.kinds.specs.Patterns.{limit_pattern, limits_of}
use Rattle.kinds.proofs.KindTable.{no_kind_lem}
use Rattle.kinds.proofs.limits_at.Goals as goal
use native.Mathlib.Omega.{arith}

pub returns-in-1 : goal.returns-in-1
unfolding kind_at kinds limits_of limit_pattern of_int to_bits
returns-in-1 c = rw c.in-1.is

pub returns-in-2 : goal.returns-in-2
unfolding kind_at kinds limits_of limit_pattern of_int to_bits
returns-in-2 c = rw c.in-2.is

pub returns-in-3 : goal.returns-in-3
unfolding kind_at kinds limits_of limit_pattern of_int to_bits
returns-in-3 c = rw c.in-3.is

pub returns-in-4 : goal.returns-in-4
unfolding kind_at kinds limits_of limit_pattern of_int to_bits
returns-in-4 c = rw c.in-4.is

pub returns-in-5 : goal.returns-in-5
unfolding kind_at kinds limits_of limit_pattern of_int to_bits
returns-in-5 c = rw c.in-5.is

pub returns-in-6 : goal.returns-in-6
unfolding kind_at kinds limits_of limit_pattern of_int to_bits
returns-in-6 c = rw c.in-6.is

pub returns-in-7 : goal.returns-in-7
unfolding kind_at kinds limits_of limit_pattern of_int to_bits
returns-in-7 c = rw c.in-7.is

pub returns-in-8 : goal.returns-in-8
unfolding kind_at kinds limits_of limit_pattern of_int to_bits
returns-in-8 c = rw c.in-8.is

pub returns-in_default : goal.returns-in_default
unfolding kind_at kinds limits_of limit_pattern of_int to_bits
returns-in_default c = rw (no_kind_lem c.args.kind (λ h. omega arith))
