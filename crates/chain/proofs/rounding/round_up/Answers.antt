-- The limbs below limb k / 32 count by whether they are 0.
use mathlib.Core.Path.{refl, ◌∙◌}
use Prim.Native.Nat.{◌/◌}
use native.Mathlib.Omega.{arith}
use Rattle.chain.proofs.RoundedUp.{all_below, not_below, none_down, some_down, some_below}
use Rattle.chain.proofs.rounding.round_up.Goals as goal

pub returns-then-limbs-j : goal.returns-then-limbs-j
returns-then-limbs-j c = (
  c.sticky.ensures.0 ∙ all_below _ _ _ _ c.sticky.ensures.1 c.if-limbs-j.true c.requires,
  none_down _ _ _ c.sticky.ensures.1 c.if-limbs-j.true c.requires,
  refl,
)

pub returns : goal.returns
returns c =
    let a = c.args in
    let l = a.limbs.now in
    let o = c.quotient_up.new.limbs in
    let s = c.sticky-below.ensures in
    let h = c.if-limbs-j.false in (
      rw (not_below l a.k a.d c.sticky-below.result s.1 h c.requires s.0) c.quotient_up.ensures.0,
      some_down l o (a.k / 32) (omega arith) a.k a.d refl s.1 c.requires c.quotient_up.ensures.1,
      some_below l o (a.k / 32) (omega arith),
    )
