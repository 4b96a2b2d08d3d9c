-- A shift of 1 that loses no bit.
use mathlib.Core.Path.{◌∙◌}
use Prim.Native.Nat.{◌^◌}
use native.Mathlib.Omega.{arith}
use native.Mathlib.Nat.{one-mul}
use lib.Pow.{shl_exact}
use Rattle.limbs.proofs.limb.power.Goals as goal

pub returns : goal.returns
returns c = shl_exact {a = 1} 1 c.args.s 32 (omega arith) (omega arith) ∙ one-mul (2 ^ c.args.s)
