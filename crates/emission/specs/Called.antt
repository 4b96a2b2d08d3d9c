-- A call of a function: whatever lifetimes, arguments, result and last values its own contract, as the toolchain reads it, allows.
use Rattle.std.specs.Prelude.{List, ℕ}
use borrow.Fn.Kinds as kinds
use contract.Lifetimes.{Lfts}
use denote.Triple.Clauses.{Lasts, AtExit, at_exit}

-- promise: what the contract ensures of them
-- last: for each parameter lent to be written, what it is left with; a parameter that is only read leaves nothing.
pub record Called (n : ℕ) (ps : List (kinds.ParamKind n)) (r : kinds.ResultKind n) (promise : kinds.Out n ps r) : Type 0 where
  pub κs : Lfts n
  pub args : kinds.Dens κs ps
  pub result : (kinds.res_t r κs).Denot
  pub last : Lasts (kinds.ended_of n ps r) κs args
  pub kept : promise κs args result (at_exit (kinds.ended_of n ps r) κs args last)

-- the parameters at exit, by the toolchain: what is only read is there as it was passed
abbrev pub ends : {n : ℕ} {ps : List (kinds.ParamKind n)} {r : kinds.ResultKind n} {promise : kinds.Out n ps r} (call : Called n ps r promise) → AtExit (kinds.ended_of n ps r) call.κs
ends {n} {ps} {r} call = at_exit (kinds.ended_of n ps r) call.κs call.args call.last
