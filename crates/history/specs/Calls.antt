-- The calls of `archive`, each as it is seen. A call of work out is `WorkOutCall` of emission/proofs/Demand2.
use Rattle.std.specs.Prelude.{◌≡◌, List, [], ℕ, ◌+◌, Ok, Err}
use Rattle.kinds.specs.Number.{refusal_at, refused}
use Rattle.emission.specs.Called.{Called, ends}
use Rattle.emission.specs.Figures.{figures_in}
use Rattle.emission.proofs.Demand2.{WorkOutCall}
use Rattle.records.specs.Layout.{used_length, record_size, record_at}
use Rattle.records.specs.Lines.{worst_of}
use Rattle.records.specs.Buffer.{count_at, lines_in}
use Rattle.archive.specs.Conditions.{accepted}
use Rattle.archive.specs.Offers.{offer}
use Rattle.archive.specs.Answers.{shown, of_emptied, of_filing, of_highest}
use Rattle.archive.proofs.empty.Kinds as empty_kinds
use Rattle.archive.proofs.empty.Reads as empty_reads
use Rattle.archive.proofs.file.Kinds as file_kinds
use Rattle.archive.proofs.file.Reads as file_reads
use Rattle.archive.proofs.show.Kinds as show_kinds
use Rattle.archive.proofs.show.Reads as show_reads
use Rattle.archive.proofs.show_refusal.Kinds as show_refusal_kinds
use Rattle.archive.proofs.show_refusal.Reads as show_refusal_reads
use Rattle.archive.proofs.worst.Kinds as worst_kinds
use Rattle.archive.proofs.worst.Reads as worst_reads
use Rattle.archive.proofs.figures_of.Kinds as figures_of_kinds
use Rattle.archive.proofs.figures_of.Reads as figures_of_reads
use Rattle.history.specs.Ledger.{empty, file, show, worst}
use Rattle.history.specs.Seen.{Seen, seeing, Way}

abbrev pub EmptyCall : Type 0
EmptyCall = Called 1 empty_kinds.ps empty_kinds.r empty_reads.Learnt

abbrev pub FileCall : Type 0
FileCall = Called 2 file_kinds.ps file_kinds.r file_reads.Learnt

abbrev pub ShowCall : Type 0
ShowCall = Called 1 show_kinds.ps show_kinds.r show_reads.Learnt

abbrev pub ShowRefusalCall : Type 0
ShowRefusalCall = Called 1 show_refusal_kinds.ps show_refusal_kinds.r show_refusal_reads.Learnt

abbrev pub WorstCall : Type 0
WorstCall = Called 1 worst_kinds.ps worst_kinds.r worst_reads.Learnt

abbrev pub FiguresCall : Type 0
FiguresCall = Called 1 figures_of_kinds.ps figures_of_kinds.r figures_of_reads.Learnt

-- a call of show and one of its companion, with the same arguments
pub record SameArguments (call : ShowCall) (told : ShowRefusalCall) : Type 0 where
  pub archive : told.args.0.now ≡ call.args.0.now
  pub used : told.args.1.0 ≡ call.args.1.0
  pub number : told.args.1.1.0 ≡ call.args.1.1.0

-- ── each as it is seen

pub data ArchiveCall : Type 0 where
  empties : EmptyCall → ArchiveCall
  files : FileCall → ArchiveCall
  shows : (call : ShowCall) (told : ShowRefusalCall) → SameArguments call told → ArchiveCall
  names : WorstCall → ArchiveCall

-- the refusal of show is the number of the companion's result
abbrev pub archive_seen : ArchiveCall → ℕ → List ℕ → Seen
archive_seen (empties k) u f = seeing empty k.args.0.now u (of_emptied k.result) (ends k).0.now
archive_seen (files k) u f = let v = k.args.1.0 in seeing (file (offer k.args.1.1.0.now) f) k.args.0.now v (of_filing k.result v) (ends k).0.now
archive_seen (shows k t s) u f = seeing (show k.args.1.1.0) k.args.0.now k.args.1.0 (shown (refused t.result) k.result.now) (ends k).0.now
archive_seen (names k) u f = seeing (worst k.args.1.1.0) k.args.0.now k.args.1.0 (of_highest k.result) (ends k).0.now

-- the result in the type that it has: without a refusal, and beside the refusal r
abbrev pub Returned : ArchiveCall → ℕ → Type 0
Returned (empties k) r = k.result ≡ accepted r (Ok 16) (Err (refusal_at r))
Returned (files k) r =
    let n = count_at k.args.0.now k.args.1.0 in
    k.result ≡ accepted r (Ok (record { number = n; used = used_length record_size (n + 1) })) (Err (refusal_at r))
Returned (shows k t s) r = (t.result ≡ accepted r (Ok tt) (Err (refusal_at r))) × (k.result.now ≡ accepted r (record_at record_size k.args.0.now k.args.1.1.0) [])
Returned (names k) r = k.result ≡ accepted r (Ok (worst_of k.args.1.1.0 (lines_in k.args.0.now k.args.1.0))) (Err (refusal_at r))

-- work out, called on the case c, gave the figures f
pub record WorkedOut (c f : List ℕ) : Type 0 where
  pub call : WorkOutCall
  pub on : call.args.0.now ≡ c
  pub gave : f ≡ figures_in call.result

abbrev pub direct : Way
direct = record { Call = ArchiveCall; seen = archive_seen; WorkedOut = WorkedOut }
