-- A trailer that is as it must be ends in the buffer.
use mathlib.Core.Path.{sym, ◌∙◌}
use Rattle.records.specs.Buffer.{records_in}
use Rattle.records.proofs.Trailer.{sound_facts}
use Rattle.records.proofs.records_in.Goals as goal

pub count_at-requires : goal.count_at-requires
count_at-requires c = let s = sound_facts _ _ (sym c.is_broken.ensures ∙ c.if-is_broken.false) in (s.at_least, s.inside)

pub returns-then-is_broken : goal.returns-then-is_broken
unfolding records_in
returns-then-is_broken c = rw (sym c.is_broken.ensures ∙ c.if-is_broken.true)

pub returns-else-is_broken : goal.returns-else-is_broken
unfolding records_in
returns-else-is_broken c = rw (sym c.is_broken.ensures ∙ c.if-is_broken.false, c.count_at.ensures)
