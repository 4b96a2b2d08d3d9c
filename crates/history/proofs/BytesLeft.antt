-- Every byte that a call of empty or file leaves, field by field and in plain numbers, by its answer, and of a refused call that it leaves all: `bytes_left`; of calls from C `c_bytes_left`.
-- By any lawful way of calling: `way_left`. What the other calls leave is in Demand1 `unchanged`.
use mathlib.Core.Path.{sym, ◌∙◌}
use mathlib.Core.List.{List}
use Prim.Native.Nat.{ℕ}
use Rattle.archive.proofs.Left.{empty_left, file_left}
use Rattle.history.specs.Seen.{Way, SeenLeft}
use Rattle.history.specs.Calls.{ArchiveCall, archive_seen}
use Rattle.history.specs.Interface.{CCall, c_seen}
use Rattle.history.proofs.Lawful.{Lawful, does_as, direct_lawful}
use Rattle.history.proofs.Demand1.{way_unchanged}
use Rattle.history.proofs.Interface.{c_lawful}

pub way_left : {W : Way} (l : Lawful W) (call : W.Call) (u : ℕ) (f : List ℕ) → SeenLeft (W.seen call u f)
way_left {W} l call u f =
    let s = W.seen call u f in
    let d = l.does call u f in
    record {
      by_empty = λ q v e. let k = does_as d q in rw k.after_is (empty_left s.before v (sym e ∙ k.answer_is));
      by_file = λ o g q n v e. let k = does_as d q in rw k.after_is (file_left s.before s.used o n v (sym e ∙ k.answer_is));
      refused = λ h. (way_unchanged l call u f h).1;
    }

pub bytes_left : (call : ArchiveCall) (u : ℕ) (f : List ℕ) → SeenLeft (archive_seen call u f)
bytes_left = way_left direct_lawful

pub c_bytes_left : (call : CCall) (u : ℕ) (f : List ℕ) → SeenLeft (c_seen call u f)
c_bytes_left = way_left c_lawful
