-- The loop's invariant: the product so far times the quantities that are left is the whole product.
use mathlib.Core.Path.{◌≡◌}
use Prim.Native.Nat.{◌+◌, ◌*◌, ◌≤◌}
use lib.ListN.{length}
use Rattle.product.specs.Held.{held}
use Rattle.product.proofs.Limbs.{Left}
use Rattle.product.proofs.Product.by.Given as goal

abbrev pub invariant-loop-x : goal.invariant-loop-x
invariant-loop-x l =
    (l.self.count ≤ l.initial.self.count + 2 * l.x-index)
    × (l.self.depth ≤ l.initial.self.depth + 1074 * l.x-index)
    × (length l.self.limbs.now ≡ length l.initial.self.limbs.now)
    × Left l.quantities (held l.initial.self) (held l.self) l.x-index
