-- One quantity after the other by its limit, and the law of limits held as patterns.
use mathlib.Core.Path.{◌≡◌, ◌∙◌}
use mathlib.Core.Bool.{false}
use Rattle.std.proofs.Common.{rules}
use Rattle.std.proofs.lemmas.Iterator.{YieldsList-from_slice, YieldsList-from_zip}
use Rattle.scenario.specs.Faults.{add_faults}
use Rattle.scenario.proofs.Faults.{folded, faults_by_limits}
use Rattle.scenario.proofs.quantities.faults_of.Goals as goal

pub returns : goal.returns
returns c =
    let ms = c.limits_of.result in
    let ps = c.args.p.now in
    let n = c.default.ensures in
    let none : c.default.result ≡ record { invalid = false; stray = false; over = false } = (λ j. record { invalid = n.0 j; stray = n.1.0 j; over = n.1.1 j }) in
    folded (YieldsList-from_zip {s = c.zip.result} (YieldsList-from_slice ms cc) (YieldsList-from_slice ps cc))
    _ _ _ _ (λ f x. add_faults f x.0 x.1) c.fold.ensures.ran (λ b x d f' k. (search rules, search rules))
    ∙ rw none (faults_by_limits c.args.kind c.args.row ms ps c.limits_of.ensures (search rules) (search rules))
