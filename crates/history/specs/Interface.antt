-- The calls of the C interface, each as it is seen: the buffer and the variables that the caller lends, before and after.
use Rattle.std.specs.Prelude.{◌≡◌, List, [], ◌∷◌, ℕ, ◌+◌, ◌*◌}
use Rattle.emission.specs.Called.{Called, ends}
use Rattle.records.specs.Layout.{used_length, record_size, bytes_at}
use Rattle.records.specs.Lines.{worst_of}
use Rattle.records.specs.Buffer.{count_at, lines_in}
use Rattle.archive.specs.Conditions.{accepted}
use Rattle.archive.specs.Offers.{offer}
use Rattle.archive.specs.Answers.{Answer, emptied, filed, shown, named}
use Rattle.csorvelin.proofs.csorvelin_work_out.Kinds as work_out_kinds
use Rattle.csorvelin.proofs.csorvelin_work_out.Reads as work_out_reads
use Rattle.csorvelin.proofs.csorvelin_empty.Kinds as empty_kinds
use Rattle.csorvelin.proofs.csorvelin_empty.Reads as empty_reads
use Rattle.csorvelin.proofs.csorvelin_file.Kinds as file_kinds
use Rattle.csorvelin.proofs.csorvelin_file.Reads as file_reads
use Rattle.csorvelin.proofs.csorvelin_show.Kinds as show_kinds
use Rattle.csorvelin.proofs.csorvelin_show.Reads as show_reads
use Rattle.csorvelin.proofs.csorvelin_worst.Kinds as worst_kinds
use Rattle.csorvelin.proofs.csorvelin_worst.Reads as worst_reads
use Rattle.history.specs.Ledger.{Request, empty, file, show, worst}
use Rattle.history.specs.Seen.{Seen, seeing, Way}
use Rattle.history.specs.History.{TurnBy}

abbrev pub CWorkOutCall : Type 0
CWorkOutCall = Called 2 work_out_kinds.ps work_out_kinds.r work_out_reads.Learnt

abbrev pub CEmptyCall : Type 0
CEmptyCall = Called 2 empty_kinds.ps empty_kinds.r empty_reads.Learnt

abbrev pub CFileCall : Type 0
CFileCall = Called 4 file_kinds.ps file_kinds.r file_reads.Learnt

abbrev pub CShowCall : Type 0
CShowCall = Called 3 show_kinds.ps show_kinds.r show_reads.Learnt

abbrev pub CWorstCall : Type 0
CWorstCall = Called 2 worst_kinds.ps worst_kinds.r worst_reads.Learnt

pub data CCall : Type 0 where
  empties : CEmptyCall → CCall
  files : CFileCall → CCall
  shows : CShowCall → CCall
  names : CWorstCall → CCall

-- `used` and `number` are read from the variables; the part shown lies at the place that the call gives
abbrev pub c_seen : CCall → ℕ → List ℕ → Seen
c_seen (empties k) u f = seeing empty k.args.0.now u (emptied k.result (ends k).1.0.now) (ends k).0.now
c_seen (files k) u f =
    seeing (file (offer k.args.1.1.0.now) f) k.args.0.now k.args.1.0.now (filed k.result (ends k).1.1.1.0.now (ends k).1.0.now) (ends k).0.now
c_seen (shows k) u f =
    let b = k.args.0.now in
    seeing (show k.args.1.1.0) b k.args.1.0 (shown k.result (bytes_at b (ends k).1.1.1.0.now (ends k).1.1.1.1.0.now)) (ends k).0.now
c_seen (names k) u f = seeing (worst k.args.1.1.0) k.args.0.now k.args.1.0 (named k.result (ends k).1.1.1.0.now) (ends k).0.now

-- the result, and what stands in the variables: without a refusal, and beside the refusal r
abbrev pub CReturned : CCall → ℕ → Type 0
CReturned (empties k) r = (k.result ≡ r) × ((ends k).1.0.now ≡ accepted r 16 0)
CReturned (files k) r =
    let u = k.args.1.0.now in
    let n = count_at k.args.0.now u in
    (k.result ≡ r) × ((ends k).1.1.1.0.now ≡ accepted r n 0) × ((ends k).1.0.now ≡ accepted r (used_length record_size (n + 1)) u)
CReturned (shows k) r = (k.result ≡ r) × ((ends k).1.1.1.0.now ≡ accepted r (record_size * k.args.1.1.0) 0) × ((ends k).1.1.1.1.0.now ≡ accepted r record_size 0)
CReturned (names k) r = (k.result ≡ r) × ((ends k).1.1.1.0.now ≡ accepted r (worst_of k.args.1.1.0 (lines_in k.args.0.now k.args.1.0)) 0)

pub record CWorkedOut (c f : List ℕ) : Type 0 where
  pub call : CWorkOutCall
  pub on : call.args.0.now ≡ c
  pub gave : f ≡ (ends call).1.0.now

abbrev pub from_c : Way
from_c = record { Call = CCall; seen = c_seen; WorkedOut = CWorkedOut }

abbrev pub CTurn : Request → List ℕ → ℕ → Answer → List ℕ → Type 0
CTurn = TurnBy from_c

-- ── a caller who keeps one variable for the used length, and looks at no answer

-- what the variable holds after a call that found u in it: empty and file are lent it, show and worst take what it holds
abbrev pub holds_then : CCall → ℕ → ℕ
holds_then (empties k) u = (ends k).1.0.now
holds_then (files k) u = (ends k).1.0.now
holds_then (shows k) u = u
holds_then (names k) u = u

-- As RunBy from_c, but the next call is given what the variable holds, refused or not.
pub data OneVariable : List ℕ → ℕ → List Request → List Answer → List ℕ → ℕ → Type 0 where
  none : {b : List ℕ} {u : ℕ} → OneVariable b u [] [] b u
  more : {b : List ℕ} {u : ℕ} {c : Request} {a : Answer} {b' : List ℕ} {cs : List Request} {rs : List Answer} {b'' : List ℕ} {u'' : ℕ}
      (t : CTurn c b u a b') → OneVariable b' (holds_then t.call u) cs rs b'' u'' → OneVariable b u (c ∷ cs) (a ∷ rs) b'' u''
