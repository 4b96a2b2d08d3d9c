-- best is the worst of the records up to it.
use Rattle.std.proofs.Common.{◌-◌, ◌<◌}
use Rattle.records.specs.Compartments.{compartment_number}
use Rattle.records.proofs.WorstScan.{Best}
use Rattle.records.proofs.search.worst_of.Given as goal

abbrev pub invariant-loop-k : goal.invariant-loop-k
invariant-loop-k l = (l.best < l.n) × Best l.width (compartment_number l.compartment) l.archive l.best

abbrev pub decreases-loop-k : goal.decreases-loop-k
decreases-loop-k l = l.n - l.best
