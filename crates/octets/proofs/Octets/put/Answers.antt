-- The part of the slice from `at` on is written whole.
use mathlib.Core.Path.{sym, ◌∙◌}
use Rattle.octets.proofs.Numbers.{length_bytes_of}
use Rattle.octets.proofs.Splice.{part_written}
use Rattle.octets.proofs.Octets.put.Goals as goal

pub returns : goal.returns
returns g c = part_written _ _ _ (c.copy_from_slice.ensures.after ∙ c.to_octets.ensures) (sym (length_bytes_of _ _))
