-- By the number of limbs; with more than two, by whether those above them are 0.
use mathlib.Core.Path.{sym, ◌∙◌}
use native.Mathlib.Omega.{arith}
use Prim.Native.Nat.{◌-◌}
use lib.ListN.{length, take, drop}
use Rattle.limbs.specs.Value.{value}
use Rattle.limbs.proofs.Held.{zero_of, some_of, number_none, number_one, number_more}
use Rattle.limbs.proofs.reading.to_u64.Goals as goal

pub returns-in-empty : goal.returns-in-empty
returns-in-empty c = number_none _ (omega arith)

pub returns-in-len1 : goal.returns-in-len1
returns-in-len1 c = c.wide.ensures.0 ∙ number_one _ (omega arith) (omega arith)

pub returns-in-len2-up : goal.returns-in-len2-up
returns-in-len2-up c =
    let l = c.args.limbs.now in
    let z = zero_of (value (take (length l - 2) (drop 2 l))) (sym c.if-is_zero.true ∙ c.is_zero.ensures) in
    omega (arith, number_more l (omega arith))

pub returns-in_default : goal.returns-in_default
returns-in_default c =
    let l = c.args.limbs.now in
    let z = some_of (value (take (length l - 2) (drop 2 l))) (sym c.if-is_zero.false ∙ c.is_zero.ensures) in
    omega (arith, number_more l (omega arith))
