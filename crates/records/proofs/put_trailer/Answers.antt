-- Distance, number and edition, each behind the one before.
use native.Mathlib.Omega.{arith}
use Rattle.records.proofs.Writing.{trailer_written}
use Rattle.records.proofs.put_trailer.Goals as goal

pub returns : goal.returns
returns c =
    trailer_written _ _ _ (omega arith) c.put.ensures c.put-2.ensures c.put-3.ensures
