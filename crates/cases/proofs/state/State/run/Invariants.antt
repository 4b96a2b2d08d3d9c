-- The lines that are left, behind those before.
use Rattle.std.proofs.Common.{◌≡◌}
use Rattle.cases.specs.Words.{lines_of, parts_of}
use Rattle.cases.specs.Calls.{held, state_of}
use Rattle.cases.proofs.state.State.run.Given as goal

abbrev pub invariant-loop-line : goal.invariant-loop-line
invariant-loop-line l =
    (goal.iterator-loop-line).can_next l.line-iterator
    × (goal.iterator-loop-line).is_finite l.line-iterator
    × (state_of (parts_of l.line-iterator.end l.line-iterator.text.now) (held l.self) ≡ state_of (lines_of l.text) (held l.initial.self))
    × (l.self.buffer.ghost_name ≡ l.initial.self.buffer.ghost_name)
