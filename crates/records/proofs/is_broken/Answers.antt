-- The tests are those of the definition, in its order.
use borrow.Author.Tests.{lt-ltb, le-ltb}
use Rattle.records.specs.Buffer.{broken}
use Rattle.records.proofs.is_broken.Goals as goal

pub returns-then-archive-used : goal.returns-then-archive-used
unfolding broken
returns-then-archive-used c = rw (lt-ltb _ _ c.if-archive-used.true)

pub returns-then-used : goal.returns-then-used
unfolding broken
returns-then-used c = rw (le-ltb _ _ c.if-archive-used.false, lt-ltb _ _ c.if-used.true)

pub returns-then-n-gt-MOST_RECORDS : goal.returns-then-n-gt-MOST_RECORDS
unfolding broken
returns-then-n-gt-MOST_RECORDS c =
    let n = c.count_at-n.ensures in
    rw (le-ltb _ _ c.if-archive-used.false, le-ltb _ _ c.if-used.false, lt-ltb _ _ (rw n at c.if-n-gt-MOST_RECORDS.true))

pub returns : goal.returns
unfolding broken
returns c =
    let n = c.count_at-n.ensures in
    rw (n, c.at.ensures, c.at-2.ensures, le-ltb _ _ c.if-archive-used.false, le-ltb _ _ c.if-used.false, le-ltb _ _ (rw n at c.if-n-gt-MOST_RECORDS.false))
