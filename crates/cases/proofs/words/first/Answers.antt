-- The first that is found.
use Rattle.std.proofs.Common.{ℕ, ◌==◌, length, ◌∙◌, ◌≡◌, ◌≤◌, rules, tests, arith}
use Rattle.std.proofs.lemmas.Iterator.{YieldsList-from_slice}
use Rattle.std.proofs.lemmas.Iterator.Search.{position_from_yields_List}
use Rattle.cases.specs.Words.{index_of}
use Rattle.cases.proofs.WordLaws.{index_within, found_or_end}
use Rattle.cases.proofs.words.first.Goals as goal

pub returns : goal.returns
unfolding index_of
returns c =
    let w : index_of c.args.b c.args.text.now ≤ length c.args.text.now = index_within _ _ in
    let e : c.unwrap_or.result ≡ index_of c.args.b c.args.text.now =
    c.unwrap_or.ensures
    ∙ found_or_end _ _ w (position_from_yields_List (λ (x : ℕ). x == c.args.b) _ _ _ c.position.ensures.ran (YieldsList-from_slice c.args.text.now (cc)) (λ x b q k. search (rules, tests))) in
    (e, omega arith)
