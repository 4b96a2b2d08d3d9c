-- Four patterns, written as numbers of 8 bytes over all 32 places.
use borrow.Author.Rules.{rules}
use Rattle.export.proofs.Loads.{loads_written}
use Rattle.export.proofs.loads_of.Goals as goal

pub returns : goal.returns
returns c =
    let m = c.map.ensures.items in
    loads_written c.args.figures c.map.result (search rules) m.long (λ i h. (m.at i 0 0 h).2.met) c.put_figures.ensures
