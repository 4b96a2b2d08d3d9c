-- The first line with the name.
use Rattle.std.proofs.Common.{List, ℕ, Bor, ◌∙◌, rules, tests}
use Rattle.std.specs.Str.{bytes_eq}
use Rattle.std.proofs.lemmas.Iterator.{YieldsList-from_slice}
use Rattle.std.proofs.lemmas.Iterator.Search.{find_from_yields_List}
use Rattle.cases.proofs.WordLaws.{named_by}
use Rattle.cases.proofs.words.named.Goals as goal

pub returns-in_err-line : goal.returns-in_err-line
returns-in_err-line g c =
    c.from_residual.ensures
    ∙ named_by c.args.name.now c.args.table.now c.in_err-line.was
    (find_from_yields_List (λ (x : Bor (List ℕ) × g.row.T.Denot). bytes_eq x.0.now c.args.name.now) _ _ _ c.find.ensures.ran (YieldsList-from_slice c.args.table.now (cc)) (λ x b q k. search (rules, tests)))

pub returns : goal.returns
returns g c =
    named_by c.args.name.now c.args.table.now c.in_ok-line.was
    (find_from_yields_List (λ (x : Bor (List ℕ) × g.row.T.Denot). bytes_eq x.0.now c.args.name.now) _ _ _ c.find.ensures.ran (YieldsList-from_slice c.args.table.now (cc)) (λ x b q k. search (rules, tests)))
