-- A pattern below that of infinity is no NaN's.
use Rattle.binary64.proofs.Exact.{unsigned_finite_exactly, not_nan_bits}
use Rattle.binary64.proofs.pattern.quantity_of.Goals as goal

pub float_from_bits-result : goal.float_from_bits-result
float_from_bits-result c = not_nan_bits _ ((unsigned_finite_exactly _).0 c.requires)
