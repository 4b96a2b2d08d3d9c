-- Lists of calls on one buffer, histories among them, and what holds after a history. Paper 01, 'The archive' and 'The ledger behind a history'; demand 3.
use Rattle.std.specs.Prelude.{◌≡◌, List, [], ◌∷◌, ℕ, ◌+◌, ◌*◌, ◌≤◌, ◌<◌, length, get_or, take}
use Rattle.kinds.specs.Case.{refusal_of}
use Rattle.product.specs.Ratio.{◌over◌}
use Rattle.emission.specs.Figures.{exact_values, figures_of, WithinBounds, margin}
use Rattle.records.specs.Layout.{Line, archive_of, used_length, record_size, edition}
use Rattle.archive.specs.Offers.{Within}
use Rattle.archive.specs.Answers.{Answer, emptied, filed, handed}
use Rattle.history.specs.Ledger.{Request, empty, file, show, worst, answers, lines}
use Rattle.history.specs.Seen.{seeing, Way}
use Rattle.history.specs.Calls.{WorkedOut, direct}

-- ── one call, on the buffer b at the used length u, with its answer a and the buffer b' as it leaves it

-- Where G c f says that work out, called on the case c, gave the figures f: those that the ledger is fed with a filing are so given.
-- They are free where what is offered is out of range: the ledger is fed none then.
abbrev pub FedBy : (List ℕ → List ℕ → Type 0) → Request → Type 0
FedBy G empty = Unit {0}
FedBy G (file o f) = Within o → G o.case f
FedBy G (show k) = Unit {0}
FedBy G (worst m) = Unit {0}

-- a call by the way W that is seen so, and the figures from a call of work out by that way
pub record TurnBy (W : Way) (c : Request) (b : List ℕ) (u : ℕ) (a : Answer) (b' : List ℕ) : Type 0 where
  pub call : W.Call
  pub figures : List ℕ
  pub seen : W.seen call u figures ≡ seeing c b u a b'
  pub fed : FedBy W.WorkedOut c

-- by the functions of `archive`
abbrev pub Turn : Request → List ℕ → ℕ → Answer → List ℕ → Type 0
Turn = TurnBy direct

-- ── a list of requests cs with answers rs, from the buffer b at the used length u to b'' at u''

-- Buffer and used length go from each call to the next: b' as it is left, and u replaced where an empty or a filing was accepted.
pub data RunBy (W : Way) : List ℕ → ℕ → List Request → List Answer → List ℕ → ℕ → Type 0 where
  done : {b : List ℕ} {u : ℕ} → RunBy W b u [] [] b u
  next : {b : List ℕ} {u : ℕ} {c : Request} {a : Answer} {b' : List ℕ} {cs : List Request} {rs : List Answer} {b'' : List ℕ} {u'' : ℕ}
      → TurnBy W c b u a b' → RunBy W b' (handed a u) cs rs b'' u'' → RunBy W b u (c ∷ cs) (a ∷ rs) b'' u''

-- the first call is an accepted empty
pub data BeginsEmpty : List Request → List Answer → Type 0 where
  begins : {v : ℕ} {cs : List Request} {rs : List Answer} → BeginsEmpty (empty ∷ cs) (emptied 0 v ∷ rs)

-- A history, the paper's term, on a buffer of any content; the used length that stood there before is no argument of empty.
pub record HistoryBy (W : Way) (b : List ℕ) (cs : List Request) (rs : List Answer) (b'' : List ℕ) (u'' : ℕ) : Type 0 where
  pub given : ℕ
  pub run : RunBy W b given cs rs b'' u''
  pub begun : BeginsEmpty cs rs

abbrev pub History : List ℕ → List Request → List Answer → List ℕ → ℕ → Type 0
History = HistoryBy direct

-- ── what holds after a history on a buffer of some size

-- of a line that is held: its case passes the ranges, and its figures are a result of work out, and bounded as demand 2 asks
pub record HeldLine (l : Line) : Type 0 where
  pub within_ranges : refusal_of l.case ≡ 0
  pub worked : WorkedOut l.case l.figures
  pub bounds : (i : ℕ) → i < 4 → WithinBounds margin (get_or (exact_values l.case) i (0 over 1)) (get_or l.figures i 0)

abbrev pub AllHeld : List Line → Type 0
AllHeld [] = Unit {0}
AllHeld (l ∷ ls) = HeldLine l × AllHeld ls

-- Answers, archive and used length are what the ledger says, and the buffer keeps its size.
pub record After (size : ℕ) (cs : List Request) (rs : List Answer) (b'' : List ℕ) (u'' : ℕ) : Type 0 where
  pub answered : rs ≡ answers size [] cs
  pub archive : take u'' b'' ≡ archive_of record_size edition (lines size [] cs)
  pub used_length_is : u'' ≡ used_length record_size (length (lines size [] cs))
  pub buffer : length b'' ≡ size
  pub held : AllHeld (lines size [] cs)

-- ── free space in plain numbers

-- the answer to a filing of a case that is within the ranges and not held, on a buffer of some size that has n lines
abbrev pub BySpace : ℕ → ℕ → Answer → Type 0
BySpace size n a =
    (96 * n + 112 ≤ size → n < 1000000 → a ≡ filed 0 n (96 * n + 112))
    × (size < 96 * n + 112 → a ≡ filed 23 0 (96 * n + 16))
    × (n ≡ 1000000 → a ≡ filed 23 0 (96 * n + 16))

-- ── that there are such lists

-- the figures of a filing are work out's, unless what it offers is out of range
abbrev pub Fed : Request → Type 0
Fed = FedBy (λ c f. f ≡ figures_of c)

abbrev pub AllFed : List Request → Type 0
AllFed [] = Unit {0}
AllFed (c ∷ cs) = Fed c × AllFed cs

-- some answers, buffer and used length of a run of cs; and of a history in which an empty that answers 16 comes before cs
pub record RunOf (W : Way) (b : List ℕ) (u : ℕ) (cs : List Request) : Type 0 where
  pub answers : List Answer
  pub bytes : List ℕ
  pub used : ℕ
  pub run : RunBy W b u cs answers bytes used

pub record HistoryOf (W : Way) (b : List ℕ) (cs : List Request) : Type 0 where
  pub answers : List Answer
  pub bytes : List ℕ
  pub used : ℕ
  pub history : HistoryBy W b (empty ∷ cs) (emptied 0 16 ∷ answers) bytes used
