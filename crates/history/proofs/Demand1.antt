-- Demand 1, of calls of the very functions.
-- `refusals_in_order`: of each call, the refusal is the first of its list that holds, otherwise places, bytes and result are the stated ones.
-- `unchanged`: beside a refusal each place holds what it should and every byte is as it was; what is lent to be read is left as it was in any case.
-- Of every lawful way of calling: `way_in_order`, `way_unchanged`, and `named_worst`, what worst names is the worst record.
-- So that they say something: `met` (the functions meet the contracts that a call goes by) and `asks_nothing` (no call asks anything of its caller).
use mathlib.Core.Path.{◌≡◌, refl, sym, ◌∙◌, subst}
use mathlib.Core.List.{List}
use Prim.Native.Nat.{ℕ}
use contract.Lifetimes.{Lfts}
use Rattle.std.specs.Prelude.{Result, Ok, Err}
use Rattle.kinds.specs.Refusal.{Condition, first_of, IsFirst}
use Rattle.kinds.specs.Number.{refusal_at, refused}
use Rattle.kinds.specs.declared.refusal.Refusal.{Refusal}
use Rattle.kinds.proofs.Refusals.{first_of_is_first, first_is_first_of}
use Rattle.records.specs.Lines.{IsWorst}
use Rattle.records.specs.Buffer.{lines_in}
use Rattle.emission.specs.Called.{ends}
use Rattle.emission.proofs.Demand2.{WorkOutCall}
use Rattle.archive.specs.Conditions.{accepted}
use Rattle.archive.specs.Answers.{named, Effect, refusal_by}
use Rattle.archive.specs.Archive.{emptying, filing, show_part, naming}
use Rattle.archive.proofs.AnswerLaws.{accepted_refused, refused_as}
use Rattle.archive.proofs.Accepted.{worst_told}
use borrow.Fn.Kinds as kinds
use Rattle.scenario.proofs.decode.Kinds as decode_kinds
use Rattle.scenario.proofs.decode.Reads as decode_reads
use Rattle.emission.proofs.work_out.Kinds as work_out_kinds
use Rattle.emission.proofs.work_out.Reads as work_out_reads
use Rattle.emission.proofs.work_out.Met as work_out_met
use Rattle.emission.proofs.work_out.Statement as work_out_statement
use Rattle.emission.proofs.work_out_into.Kinds as work_out_into_kinds
use Rattle.emission.proofs.work_out_into.Reads as work_out_into_reads
use Rattle.archive.proofs.empty.Kinds as empty_kinds
use Rattle.archive.proofs.empty.Reads as empty_reads
use Rattle.archive.proofs.empty.Met as empty_met
use Rattle.archive.proofs.empty.Statement as empty_statement
use Rattle.archive.proofs.figures_of.Kinds as figures_of_kinds
use Rattle.archive.proofs.figures_of.Reads as figures_of_reads
use Rattle.archive.proofs.figures_of.Met as figures_of_met
use Rattle.archive.proofs.figures_of.Statement as figures_of_statement
use Rattle.archive.proofs.file.Kinds as file_kinds
use Rattle.archive.proofs.file.Reads as file_reads
use Rattle.archive.proofs.file.Met as file_met
use Rattle.archive.proofs.file.Statement as file_statement
use Rattle.archive.proofs.show.Kinds as show_kinds
use Rattle.archive.proofs.show.Reads as show_reads
use Rattle.archive.proofs.show.Met as show_met
use Rattle.archive.proofs.show.Statement as show_statement
use Rattle.archive.proofs.show_refusal.Kinds as show_refusal_kinds
use Rattle.archive.proofs.show_refusal.Reads as show_refusal_reads
use Rattle.archive.proofs.show_refusal.Met as show_refusal_met
use Rattle.archive.proofs.show_refusal.Statement as show_refusal_statement
use Rattle.archive.proofs.worst.Kinds as worst_kinds
use Rattle.archive.proofs.worst.Reads as worst_reads
use Rattle.archive.proofs.worst.Met as worst_met
use Rattle.archive.proofs.worst.Statement as worst_statement
use Rattle.history.specs.Ledger.{worst}
use Rattle.history.specs.Seen.{effect, Seen, Way, InOrder, SeenInOrder, SeenUnchanged}
use Rattle.history.specs.Calls.{FileCall, ShowCall, ShowRefusalCall, WorstCall, ArchiveCall, empties, files, shows, names, archive_seen, Returned}
use Rattle.history.proofs.Lawful.{Does, Lawful, does_as, direct_lawful}

-- ── the order of refusals

in_order : (cs : List Condition) (r : ℕ) (Stated : Type 0) → r ≡ first_of cs → (first_of cs ≡ 0 → Stated) → InOrder cs r Stated
in_order cs r Stated e s = record {
  first = λ n. ((λ (q : r ≡ n). subst (IsFirst cs) (sym e ∙ q) (first_of_is_first cs)), λ h. e ∙ first_is_first_of h);
  otherwise = λ q. s (sym e ∙ q);
}

-- of every lawful way of calling
module _ {W : Way} (l : Lawful W) (call : W.Call) (u : ℕ) (f : List ℕ) where
  abbrev s : Seen
  s = W.seen call u f

  abbrev e : Effect (List ℕ)
  e = effect s.request s.before s.used

  d : Does s
  d = l.does call u f

  pub way_refusal : s.answer.refusal ≡ refusal_by e
  way_refusal = λ i. (d.answer_is i).refusal

  pub way_in_order : SeenInOrder s
  way_in_order = in_order e.refusals s.answer.refusal _ way_refusal (λ z. ((λ i. (d.answer_is i).places) ∙ rw z, d.after_is ∙ rw z))

  pub way_unchanged : SeenUnchanged s
  way_unchanged h =
      let n : refusal_by e ≡ 0 → ⊥ = λ z. h (way_refusal ∙ z) in
      ((λ i. (d.answer_is i).places) ∙ accepted_refused (refusal_by e) e.gives e.beside n, d.after_is ∙ accepted_refused (refusal_by e) e.leaves s.before n)

  -- what worst names is the worst record
  pub named_worst : (m k : ℕ) → s.request ≡ worst m → s.answer ≡ named 0 k → IsWorst m (lines_in s.before s.used) k
  named_worst m k q a = worst_told s.before s.used m k (sym a ∙ (does_as d q).answer_is)

-- a result that has a refusal alone, by its number
unit_as : (a : Result (Unit {0}) Refusal) → a ≡ accepted (refused a) (Ok tt) (Err (refusal_at (refused a)))
unit_as (Ok x) = refl
unit_as (Err r) = refused_as r (Ok tt) refl

returned : (call : ArchiveCall) (u : ℕ) (f : List ℕ) → Returned call (archive_seen call u f).answer.refusal
unfolding emptying filing show_part naming
returned (empties k) u f = rw (way_refusal direct_lawful (empties k) u f) k.kept.0
returned (files k) u f = rw (way_refusal direct_lawful (files k) u f) k.kept.0
returned (shows k t s) u f = (unit_as t.result, k.kept ∙ rw (sym (way_refusal direct_lawful (shows k t s) u f)))
returned (names k) u f = rw (way_refusal direct_lawful (names k) u f) k.kept.0

pub refusals_in_order : (call : ArchiveCall) (u : ℕ) (f : List ℕ) → SeenInOrder (archive_seen call u f) × Returned call (archive_seen call u f).answer.refusal
refusals_in_order call u f = (way_in_order direct_lawful call u f, returned call u f)

-- ── a refusal changes nothing

-- Show, its companion and worst leave every byte, refused or not, and so do file and work out of their case: what is lent to be read is not written.
pub unchanged :
    ((call : ArchiveCall) (u : ℕ) (f : List ℕ) → SeenUnchanged (archive_seen call u f))
    × ((call : FileCall) → (ends call).1.1.0.now ≡ call.args.1.1.0.now)
    × ((call : ShowCall) → (ends call).0.now ≡ call.args.0.now)
    × ((call : ShowRefusalCall) → (ends call).0.now ≡ call.args.0.now)
    × ((call : WorstCall) → (ends call).0.now ≡ call.args.0.now)
    × ((call : WorkOutCall) → (ends call).0.now ≡ call.args.0.now)
unchanged = (way_unchanged direct_lawful, λ call. refl, λ call. refl, λ call. refl, λ call. refl, λ call. refl)

-- ── the functions meet the contracts that a call goes by

pub met : {M : Type 1}
    → empty_statement.statement M
    × file_statement.statement M
    × show_statement.statement M
    × show_refusal_statement.statement M
    × worst_statement.statement M
    × figures_of_statement.statement M
    × work_out_statement.statement M
met = (empty_met.met, file_met.met, show_met.met, show_refusal_met.met, worst_met.met, figures_of_met.met, work_out_met.met)

-- ── nothing is asked of a caller, so that every call can be made

-- Of `print` and of the C interface the crates `listing` and `csorvelin` say the same.
pub asks_nothing : (κs : Lfts 1) (κs₂ : Lfts 2) (e : kinds.Dens κs empty_kinds.ps) (f : kinds.Dens κs₂ file_kinds.ps) (s : kinds.Dens κs show_kinds.ps)
    (t : kinds.Dens κs show_refusal_kinds.ps) (w : kinds.Dens κs worst_kinds.ps) (g : kinds.Dens κs figures_of_kinds.ps) (o : kinds.Dens κs work_out_kinds.ps)
    (i : kinds.Dens κs₂ work_out_into_kinds.ps) (d : kinds.Dens κs decode_kinds.ps)
    → empty_reads.Asked κs e
    × file_reads.Asked κs₂ f
    × show_reads.Asked κs s
    × show_refusal_reads.Asked κs t
    × worst_reads.Asked κs w
    × figures_of_reads.Asked κs g
    × work_out_reads.Asked κs o
    × work_out_into_reads.Asked κs₂ i
    × decode_reads.Asked κs d
asks_nothing κs κs₂ e f s t w g o i d = (tt, tt, tt, tt, tt, tt, tt, tt, tt)
