-- Above the limb that is found all are 0; where none is found, all are.
use mathlib.Core.Path.{◌≡◌}
use Prim.Native.Nat.{ℕ, ◌+◌, ◌-◌, ◌≤◌, ◌<◌}
use native.Mathlib.Omega.{arith}
use lib.ListN.{length, get_or}
use Rattle.std.proofs.Common.{rules}
use Rattle.limbs.proofs.Held.{value_above}
use Rattle.limbs.proofs.reading.in_use.Goals as goal

pub returns-in-Some : goal.returns-in-Some
returns-in-Some c =
    let l = c.args.limbs.now in
    let i = c.in-Some.i in
    let b : i < length l = search rules in
    let n : get_or l i 0 ≡ 0 → ⊥ = search rules in
    let z : (k : ℕ) → i + 1 ≤ k → k < length l → get_or l k 0 ≡ 0 = search rules in
    let e : i + 1 - 1 ≡ i = omega arith in
    (omega arith, value_above l (i + 1) (omega arith) z, λ h. rw e (omega arith))

pub returns-in-None : goal.returns-in-None
returns-in-None c =
    let l = c.args.limbs.now in
    let z : (k : ℕ) → k < length l → get_or l k 0 ≡ 0 = search rules in
    (omega arith, value_above l 0 (omega arith) (λ k g. z k), λ h. omega arith)
