-- A number behind the name of its field.
use Rattle.std.proofs.Common.{take, ◌∙◌}
use Rattle.cases.proofs.FieldLaws.{field_set, field_holds}
use Rattle.cases.proofs.fields.Fields.set_field.Goals as goal

pub returns : goal.returns
returns c =
    c.set_number-2.ensures
    ∙ field_set _ _ c.first-sign.ensures.0 c.if-sign-word.false c.named.ensures c.in_ok-field.was c.number-2.ensures c.in_ok-number-2.was

pub set_number-requires-2 : goal.set_number-requires-2
set_number-requires-2 c = field_holds (take c.first-sign.result c.args.word.now) c.named.ensures c.in_ok-field.was
