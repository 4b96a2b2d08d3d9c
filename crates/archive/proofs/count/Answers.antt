-- By whether a number is given.
use mathlib.Core.Path.{◌≡◌, refl, sym}
use mathlib.Core.List.{List}
use mathlib.Core.Bool.{true, false}
use Prim.Native.Nat.{ℕ}
use Rattle.std.specs.Prelude.{Option, Some, None, IfOk, IfErr}
use Rattle.std.specs.Option.{ok_or}
use Rattle.kinds.specs.declared.refusal.Refusal.TheVariants.{Broken}
use Rattle.records.specs.Buffer.{count_at, broken, records_in}
use Rattle.records.proofs.Trailer.{records_in_none, records_in_some}
use Rattle.archive.proofs.count.Goals as goal

given : (b : List ℕ) (u : ℕ) (n : Option ℕ) → records_in b u ≡ n
    → IfOk (ok_or n Broken) (λ k. (broken b u ≡ false) × (k ≡ count_at b u)) × IfErr (ok_or n Broken) (λ r. (broken b u ≡ true) × (r ≡ Broken))
given b u None e = (tt, (records_in_none b u e, refl))
given b u (Some k) e = (records_in_some b u e, tt)

pub returns : goal.returns
returns c =
    let g = given _ _ _ (sym c.records_in.ensures) in
    rw c.ok_or.ensures.value (record { sound = g.0; broken = g.1 })
