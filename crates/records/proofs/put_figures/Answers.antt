-- Each figure behind the ones before.
use mathlib.Core.Path.{◌≡◌, sym, ap, ◌∙◌}
use native.Mathlib.Omega.{arith}
use borrow.Author.Rules.{rules}
use lib.ListN.{length}
use lib.Seq.{take_all}
use Rattle.octets.specs.Bytes.{splice}
use Rattle.octets.proofs.Splice.{splice_nil}
use Rattle.records.specs.Layout.{figure_bytes}
use Rattle.records.proofs.Writing.{figures_written}
use Rattle.records.proofs.put_figures.Goals as goal

pub loop-k-init : goal.loop-k-init
unfolding figure_bytes
loop-k-init c = sym (splice_nil _ _)

pub loop-k-preserved : goal.loop-k-preserved
loop-k-preserved c =
    let four : length c.args.figures ≡ 4 = search rules in
    figures_written _ _ _ _ (omega arith) (omega arith) c.loop-k.invariant c.put.ensures

pub returns : goal.returns
returns c =
    let four : length c.args.figures ≡ 4 = search rules in
    c.loop-k.invariant ∙ ap (λ f. splice c.args.b.now c.args.at (figure_bytes f)) (take_all c.loop-k.k c.args.figures (omega arith))
