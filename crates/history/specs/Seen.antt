-- A call as it is seen, the ways of calling, and what demand 1 and the archive's layout ask of what is seen.
-- The functions of `archive` are one way (Calls), the C interface is another (Interface).
use Rattle.std.specs.Prelude.{◌≡◌, List, ℕ, ◌+◌, ◌*◌}
use Rattle.kinds.specs.Refusal.{Condition, IsFirst}
use Rattle.emission.specs.Figures.{figures_of}
use Rattle.archive.specs.Offers.{Offer}
use Rattle.archive.specs.Answers.{Answer, emptied, filed, Effect}
use Rattle.archive.specs.Archive.{empty_effect, file_effect, show_effect, worst_effect}
use Rattle.archive.specs.Left.{LeftByEmpty, LeftByFile}
use Rattle.history.specs.Ledger.{Request, empty, file, show, worst}

-- what a request does to the buffer b at the used length u
abbrev pub effect : Request → List ℕ → ℕ → Effect (List ℕ)
effect empty b u = empty_effect b
effect (file o f) b u = file_effect b u o
effect (show k) b u = show_effect b u k
effect (worst m) b u = worst_effect b u m

-- ── a call as it is seen: the request, the buffer and the used length that it was given, its answer, and the buffer as it left it

pub record Seen : Type 0 where
  pub request : Request
  pub before : List ℕ
  pub used : ℕ
  pub answer : Answer
  pub after : List ℕ

abbrev pub seeing : Request → List ℕ → ℕ → Answer → List ℕ → Seen
seeing c b u a b' = record { request = c; before = b; used = u; answer = a; after = b' }

-- A way of calling. A call is seen where the used length u stands and the figures f are fed: an empty is given no used length, and no call is given figures.
pub record Way : Type 1 where
  pub Call : Type 0
  pub seen : Call → ℕ → List ℕ → Seen
  -- work out, called on a case, gave these figures
  pub WorkedOut : List ℕ → List ℕ → Type 0

-- ── demand 1

-- Of a call's list of conditions and its refusal r: r is n exactly when n is the number of the first that holds, or none holds
-- and n is 0; and then the result is the stated one.
pub record InOrder (cs : List Condition) (r : ℕ) (Stated : Type 0) : Type 0 where
  pub first : (n : ℕ) → (r ≡ n → IsFirst cs n) × (IsFirst cs n → r ≡ n)
  pub otherwise : r ≡ 0 → Stated

abbrev pub SeenInOrder : Seen → Type 0
SeenInOrder s =
    let e = effect s.request s.before s.used in
    InOrder e.refusals s.answer.refusal ((s.answer.places ≡ e.gives) × (s.after ≡ e.leaves))

-- beside a refusal every place holds what it should, and every byte is as it was
abbrev pub SeenUnchanged : Seen → Type 0
SeenUnchanged s = (s.answer.refusal ≡ 0 → ⊥) → (s.answer.places ≡ (effect s.request s.before s.used).beside) × (s.after ≡ s.before)

-- ── what is left of the buffer, field by field and byte by byte

pub record SeenLeft (s : Seen) : Type 0 where
  pub by_empty : s.request ≡ empty → (v : ℕ) → s.answer ≡ emptied 0 v → (v ≡ 16) × LeftByEmpty s.before s.after
  pub by_file : (o : Offer) (f : List ℕ) → s.request ≡ file o f → (n v : ℕ) → s.answer ≡ filed 0 n v → (v ≡ 96 * n + 112) × LeftByFile n (record { case = o.case; figures = figures_of o.case }) s.before s.after
  pub refused : (s.answer.refusal ≡ 0 → ⊥) → s.after ≡ s.before
