-- The bytes are those of the pattern, which is the load's.
use mathlib.Core.Path.{ap, ◌∙◌}
use native.Mathlib.Omega.{arith}
use Rattle.octets.specs.Bytes.{bytes_of}
use Rattle.load.specs.Load.{load_bytes}
use Rattle.load.proofs.Smallest.{bytes_within}
use Rattle.load.proofs.load.Goals as goal

pub returns : goal.returns
unfolding load_bytes
returns c =
    let e = c.to_octets.ensures ∙ ap (bytes_of 8) c.load_pattern.ensures in
    record { bytes = e; within = bytes_within _ (omega arith) e }
