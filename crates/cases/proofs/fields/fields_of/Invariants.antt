-- The words that are left, behind those before.
use Rattle.std.proofs.Common.{◌≡◌}
use Rattle.cases.specs.Words.{words_of, parts_of}
use Rattle.cases.specs.Fields.{blank, with_fields}
use Rattle.cases.proofs.fields.fields_of.Given as goal

abbrev pub invariant-loop-word : goal.invariant-loop-word
invariant-loop-word l =
    (goal.iterator-loop-word).can_next l.word-iterator
    × (goal.iterator-loop-word).is_finite l.word-iterator
    × (with_fields (parts_of l.word-iterator.end l.word-iterator.text.now) l.fields ≡ with_fields (words_of l.text) blank)
