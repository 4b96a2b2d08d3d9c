-- What a read left decides as the whole input does, and the output buffer holds every listing.
use mathlib.Core.Path.{ap, ◌∙◌}
use native.Mathlib.Omega.{arith}
use lib.ListN.{length, take}
use Rattle.octets.specs.Bytes.{splice}
use Rattle.listing.proofs.RecordLines.{take_bytes}
use Rattle.listing.proofs.Whole.{listing_at_most, read_decides}
use Rattle.listing.proofs.print_input.Goals as goal

pub write_at_start-requires : goal.write_at_start-requires
write_at_start-requires c =
    let a = c.args in
    omega (arith, listing_at_most (take a.n a.input.now) (take_bytes a.n a.input.now (λ i. (c.type_inv.input i).fits)))

pub returns : goal.returns
returns c whole e =
    let d = read_decides c.args.input.now c.args.n whole c.requires.0 e in
    (c.write_at_start.ensures.0 ∙ ap length d, c.write_at_start.ensures.1 ∙ ap (splice _ 0) d)
