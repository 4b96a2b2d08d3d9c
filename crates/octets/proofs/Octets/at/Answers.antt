-- The array is the part of the slice from `at` on.
use mathlib.Core.Path.{◌≡◌, ap, ◌∙◌}
use Prim.Native.Nat.{◌+◌, ◌-◌}
use native.Mathlib.Omega.{arith}
use lib.ListN.{take, drop}
use Rattle.std.proofs.lemmas.Option.{MatchOption-at_some}
use Rattle.octets.specs.Bytes.{number_of, number_at}
use Rattle.octets.proofs.Octets.at.Goals as goal

pub returns : goal.returns
unfolding number_at
returns g c =
    let part = (MatchOption-at_some _ _ _ c.unwrap.ensures c.as_array.ensures.cases).same in
    let width : c.args.at + g.row.W - c.args.at ≡ g.row.W = omega arith in
    c.from_octets.ensures ∙ ap number_of part ∙ ap (λ k. number_of (take k (drop c.args.at c.args.b.now))) width
