-- By kind; the last arm is kind 8.
use native.Mathlib.Omega.{arith}
use borrow.Author.Tests.{ne_eqb}
use Rattle.scenario.specs.Decoding.{case_with}
use Rattle.scenario.proofs.case_with.Goals as goal

pub returns-in-1 : goal.returns-in-1
unfolding case_with
returns-in-1 c = rw c.in-1.is

pub returns-in-2 : goal.returns-in-2
unfolding case_with
returns-in-2 c = rw c.in-2.is

pub returns-in-3 : goal.returns-in-3
unfolding case_with
returns-in-3 c = rw c.in-3.is

pub returns-in-4 : goal.returns-in-4
unfolding case_with
returns-in-4 c = rw c.in-4.is

pub returns-in-5 : goal.returns-in-5
unfolding case_with
returns-in-5 c = rw c.in-5.is

pub returns-in-6 : goal.returns-in-6
unfolding case_with
returns-in-6 c = rw c.in-6.is

pub returns-in-7 : goal.returns-in-7
unfolding case_with
returns-in-7 c = rw c.in-7.is

pub returns-in_default : goal.returns-in_default
unfolding case_with
returns-in_default c =
    let k = c.args.kind in
    rw (
      ne_eqb k 1 (λ e. omega arith),
      ne_eqb k 2 (λ e. omega arith),
      ne_eqb k 3 (λ e. omega arith),
      ne_eqb k 4 (λ e. omega arith),
      ne_eqb k 5 (λ e. omega arith),
      ne_eqb k 6 (λ e. omega arith),
      ne_eqb k 7 (λ e. omega arith),
    )
