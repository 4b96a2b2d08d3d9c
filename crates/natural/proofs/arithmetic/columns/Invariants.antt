-- The loops' invariant: the limbs below the index and the carry are the sum, or the difference, of those at entry.
use Prim.Native.Nat.{◌≤◌}
use lib.ListN.{take}
use Rattle.limbs.specs.Value.{value}
use Rattle.natural.proofs.Carry.{Columns}
use Rattle.natural.proofs.arithmetic.columns.Given as goal

abbrev pub invariant-loop-i : goal.invariant-loop-i
invariant-loop-i g l = Columns g.C.Column.away l.limbs l.initial.limbs l.i l.carry (value (take l.i l.other)) × (l.carry ≤ 1)

abbrev pub invariant-loop-j : goal.invariant-loop-j
invariant-loop-j g l = Columns g.C.Column.away l.limbs l.fn.limbs l.j l.carry (value l.other) × (l.carry ≤ 1)
