-- 2 ^ t is laid, and m taken away from it.
use mathlib.Core.Path.{◌≡◌, ap, ◌∙◌}
use Prim.Native.Nat.{ℕ, ◌+◌, ◌^◌}
use native.Mathlib.Omega.{arith}
use Rattle.limbs.specs.Value.{value}
use Rattle.starts.proofs.Start.{worked_on}
use Rattle.starts.proofs.complement.Goals as goal

pub returns : goal.returns
returns c =
    let m = c.args.m in
    let v : value c.less.new.limbs + m ≡ 2 ^ c.args.t = omega arith in
    let w = worked_on c.lay-n.new.limbs c.less.new.limbs c.lay-n.result c.in_use.result (omega arith) c.less.auto.limbs c.in_use.ensures in
    rw (← c.lay-n.ensures.1) (ap (λ (z : ℕ). z + m) w.0 ∙ v, w.1, w.2, ap (λ (z : ℕ). z + m) w.3 ∙ v, w.4 ∙ c.lay-n.ensures.2)
