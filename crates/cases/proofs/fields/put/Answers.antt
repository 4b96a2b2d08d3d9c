-- The first of the number's eight bytes are written, and the others are left.
use mathlib.Core.Path.{ap, ◌∙◌}
use native.Mathlib.Omega.{arith}
use Rattle.std.proofs.Common.{take}
use Rattle.octets.specs.Bytes.{splice}
use Rattle.cases.proofs.FieldLaws.{first_of, left_of}
use Rattle.cases.proofs.fields.put.Goals as goal

pub returns : goal.returns
returns c =
    let written = ap (take c.args.width) c.to_octets.ensures ∙ first_of _ 8 _ (omega arith) in
    (c.unwrap_or.ensures ∙ left_of _ _ _ (omega arith) c.checked_shr.ensures, c.put_bytes.ensures ∙ ap (splice _ _) written)
