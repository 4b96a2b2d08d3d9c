-- The first of the parts that are left, and those behind it.
use Rattle.std.proofs.Common.{◌≡◌, ◌<◌, length, ap, rules}
use Rattle.cases.proofs.WordLaws.{parts_none, parts_first}
use Rattle.cases.proofs.words.PartsIterator.next.Goals as goal

pub returns-then-is_empty-clause-steps : goal.returns-then-is_empty-clause-steps
returns-then-is_empty-clause-steps c =
    let e : length c.args.self.now.text.now ≡ 0 = search rules in
    (parts_none _ _ e, parts_none _ _ e)

pub returns-clause-steps : goal.returns-clause-steps
returns-clause-steps c =
    let h : 0 < length c.args.self.now.text.now = search rules in
    parts_first _ _ h c.first-n.ensures.0 c.min.ensures

pub returns-clause-goes : goal.returns-clause-goes
returns-clause-goes c =
    let h : 0 < length c.args.self.now.text.now = search rules in
    let e = parts_first c.args.self.now.end c.args.self.now.text.now h c.first-n.ensures.0 c.min.ensures in
    let n = ap length e in
    search rules
