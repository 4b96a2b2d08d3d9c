-- The first k are there.
use Rattle.std.proofs.Common.{◌≡◌}
use Rattle.cases.specs.Calls.{filled}
use Rattle.cases.proofs.lists.fill_all.Given as goal

abbrev pub invariant-loop-k : goal.invariant-loop-k
invariant-loop-k l = l.archive ≡ filled l.k l.initial.archive
