-- `find` gives the first record behind best that outranks it, or says that none does.
use mathlib.Core.Path.{◌≡◌}
use mathlib.Core.Bool.{true, false}
use Prim.Native.Nat.{◌+◌, ◌≤◌, ◌<◌}
use native.Mathlib.Omega.{arith}
use borrow.Author.Rules.{rules}
use borrow.Author.Tests.{tests}
use Rattle.std.proofs.lemmas.Iterator.{first_from_Range}
use Rattle.records.specs.Layout.{first_lines}
use Rattle.records.specs.Compartments.{compartment_number}
use Rattle.records.specs.Lines.{outranks, worst_by, worst_of}
use Rattle.records.proofs.WorstScan.{figure_in, NoneBetween, scan_start, scan_next, scan_end}
use Rattle.records.proofs.search.worst_of.Goals as goal

pub returns-then-n-eq0 : goal.returns-then-n-eq0
unfolding worst_of worst_by first_lines
returns-then-n-eq0 c = rw c.if-n-eq0.true

pub loop-k-init : goal.loop-k-init
loop-k-init c = let some = c.if-n-eq0.false in (omega arith, scan_start _ _ _)

-- the record that `find` gave, and those that it passed over
next : (c : goal.In-Some) → let best = c.loop-k.best in
    (best + 1 ≤ c.in-Some.k) × (c.in-Some.k < c.args.n) × (outranks (figure_in c.args.width (compartment_number c.args.compartment) c.args.archive.now) c.in-Some.k best ≡ true)
    × NoneBetween c.args.width (compartment_number c.args.compartment) c.args.archive.now best c.in-Some.k
next c =
    let R = outranks (figure_in c.args.width (compartment_number c.args.compartment) c.args.archive.now) in
    rw c.in-Some.is at (first_from_Range _ _ _ c.find.result (λ k. R k c.loop-k.best ≡ true) (λ k. R k c.loop-k.best ≡ false) c.find.ensures.ran (λ x q k. search (rules, tests)) (λ x q k. search (rules, tests)))

pub loop-k-smaller : goal.loop-k-smaller
loop-k-smaller c = let x = next c in omega (arith, x.0, x.1)

pub loop-k-preserved : goal.loop-k-preserved
loop-k-preserved c = let x = next c in (x.1, scan_next _ _ _ c.loop-k.invariant.1 x.3 x.0 x.2)

pub returns-in_default : goal.returns-in_default
returns-in_default c =
    let R = outranks (figure_in c.args.width (compartment_number c.args.compartment) c.args.archive.now) in
    let none = rw c.in_default.is at (first_from_Range _ _ _ c.find.result (λ k. R k c.loop-k.best ≡ true) (λ k. R k c.loop-k.best ≡ false) c.find.ensures.ran (λ x q k. search (rules, tests)) (λ x q k. search (rules, tests))) in
    scan_end _ _ _ _ c.loop-k.invariant.1 none c.loop-k.invariant.0
