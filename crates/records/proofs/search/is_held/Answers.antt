-- `any` over the records is held over their lines.
use mathlib.Core.Path.{◌∙◌}
use borrow.Author.Rules.{rules}
use borrow.Author.Tests.{tests}
use native.Mathlib.Omega.{arith}
use Rattle.std.proofs.lemmas.Iterator.{YieldsList-from_slice}
use Rattle.std.proofs.lemmas.Iterator.Search.{any_from_yields_List}
use Rattle.records.specs.Layout.{line_of}
use Rattle.records.specs.Lines.{same_filing}
use Rattle.records.proofs.HeldLine.{held_records}
use Rattle.records.proofs.search.is_held.Goals as goal

pub returns : goal.returns
returns c =
    let found = any_from_yields_List (λ r. same_filing (line_of r).case c.args.case.now) _ _ c.any.result c.any.ensures.ran (YieldsList-from_slice _ c.iter.ensures.rest) (λ x b q k. search (rules, tests)) in
    rw c.as_chunks.ensures.front at found ∙ held_records _ _ _ _ _ (omega arith)
