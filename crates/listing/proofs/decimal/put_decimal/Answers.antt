-- The invariant: the digits that are left, over the bytes as they are, make the number that is asked.
use mathlib.Core.Path.{ap, ◌∙◌}
use Prim.Native.Nat.{◌+◌, ◌-◌}
use native.Mathlib.Omega.{arith}
use lib.ListN.{length, length-set}
use Rattle.listing.proofs.DecimalText.{decimal_last, length_more, decimal_some, one_digit, more_digits}
use Rattle.listing.proofs.Stores.{digit_stored, first_stored}
use Rattle.listing.proofs.decimal.put_decimal.Goals as goal

pub returns-then-x-lt10 : goal.returns-then-x-lt10
returns-then-x-lt10 c =
    let one = ap length (decimal_last c.args.x (omega arith)) in
    (omega (arith, one), first_stored c.args.out.now c.args.at c.args.at c.args.x (omega arith) (omega (arith, one)) (omega (arith, one)))

pub loop-place-preserved : goal.loop-place-preserved
loop-place-preserved c =
    let l = c.loop-place in
    let more = more_digits l.rest (omega arith) in
    (omega (arith, length_more l.rest more), simp length-set l.invariant.1, digit_stored l.out c.args.at (l.place - 1) l.rest more (omega arith) (omega arith) ∙ l.invariant.2)

pub overflow_cast-out-2 : goal.overflow_cast-out-2
overflow_cast-out-2 c = omega (arith, one_digit c.loop-place.rest (omega arith))

pub overflow_add-out-2 : goal.overflow_add-out-2
overflow_add-out-2 c = omega (arith, one_digit c.loop-place.rest (omega arith))

pub bounds-out-at : goal.bounds-out-at
bounds-out-at c = omega (arith, decimal_some c.args.x)

pub bounds-out-at-2 : goal.bounds-out-at-2
bounds-out-at-2 c = omega (arith, decimal_some c.args.x)

pub returns : goal.returns
returns c =
    let l = c.loop-place in
    let one = one_digit l.rest (omega arith) in
    let some = decimal_some l.rest in
    (ap (λ n. c.args.at + n) c.decimal_length.ensures, first_stored l.out c.args.at c.args.at l.rest one (omega arith) (omega (arith, decimal_some c.args.x)) ∙ l.invariant.2)
