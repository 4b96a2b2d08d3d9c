-- The first figures are written.
use Rattle.std.proofs.Common.{◌≡◌, take}
use Rattle.octets.specs.Bytes.{splice}
use Rattle.records.specs.Layout.{figure_bytes}
use Rattle.records.proofs.put_figures.Given as goal

abbrev pub invariant-loop-k : goal.invariant-loop-k
invariant-loop-k l = l.b ≡ splice l.fn.b l.at (figure_bytes (take l.k l.fn.figures))
