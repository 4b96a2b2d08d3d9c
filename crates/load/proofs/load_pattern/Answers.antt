-- The shift loses no digit, since it is by the zeros before the first; rounding up is the definition's. That nothing overflows the search finds.
use native.Mathlib.Omega.{arith}
use borrow.Author.Tests.{ne_eqb}
use Rattle.load.specs.Load.{load_pattern}
use Rattle.load.proofs.Shifted.{shifted_facts, significand_code}
use Rattle.load.proofs.load_pattern.Goals as goal

pub returns-then-figure-eq0 : goal.returns-then-figure-eq0
unfolding load_pattern
returns-then-figure-eq0 c = rw c.if-figure-eq0.true

pub returns : goal.returns
unfolding load_pattern
returns c =
    let s = shifted_facts c.args.figure (omega arith) (omega arith) in
    rw (s.none_lost, ne_eqb _ 0 c.if-figure-eq0.false) (omega (arith, significand_code _ s, s.few, s.rest))
