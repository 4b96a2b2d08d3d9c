-- The part of the slice from `at` on is written whole.
use mathlib.Core.Path.{refl}
use Rattle.octets.proofs.Splice.{part_written}
use Rattle.octets.proofs.put_bytes.Goals as goal

pub returns : goal.returns
returns c = part_written _ _ _ c.copy_from_slice.ensures.after refl
