-- A way of calling is lawful where each call answers and leaves what the effect of its request says, and figures worked out are a result of work out: `Lawful`.
-- The functions of `archive` are: `direct_lawful`. A turn by such a way does so too: `turn_does`. What feeds a request by one way does by another: `fed_map`. Figures that work out gave: `worked_figures`.
use mathlib.Core.Path.{◌≡◌, refl, sym, ap, ◌∙◌, subst}
use mathlib.Core.List.{List}
use Prim.Native.Nat.{ℕ}
use Rattle.kinds.specs.Number.{refused}
use Rattle.emission.specs.Figures.{figures_of}
use Rattle.archive.specs.Answers.{Answer, shown, refusal_by, answer_by, left_by}
use Rattle.archive.specs.Archive.{show_refusal}
use Rattle.archive.proofs.AnswerLaws.{accepted_same, of_showing}
use Rattle.history.specs.Ledger.{Request, empty, file, show, worst}
use Rattle.history.specs.Seen.{effect, Seen, seeing, Way}
use Rattle.history.specs.Calls.{ShowCall, ShowRefusalCall, SameArguments, ArchiveCall, empties, files, shows, names, archive_seen, WorkedOut, direct}
use Rattle.history.specs.History.{FedBy, TurnBy}

pub record Does (s : Seen) : Type 0 where
  pub answer_is : s.answer ≡ answer_by (effect s.request s.before s.used)
  pub after_is : s.after ≡ left_by (effect s.request s.before s.used) s.before

pub record Lawful (W : Way) : Type 0 where
  pub does : (call : W.Call) (u : ℕ) (f : List ℕ) → Does (W.seen call u f)
  pub worked : (c f : List ℕ) → W.WorkedOut c f → WorkedOut c f

-- figures that work out gave are those of the case
pub worked_figures : {c f : List ℕ} → WorkedOut c f → f ≡ figures_of c
worked_figures w = w.gave ∙ w.call.kept.1 ∙ ap figures_of w.on

-- a call that only reads
pub reading : {c : Request} {b : List ℕ} {u : ℕ} {a : Answer} → (effect c b u).leaves ≡ b → a ≡ answer_by (effect c b u) → Does (seeing c b u a b)
reading {c} {b} {u} l e = record { answer_is = e; after_is = rw l (sym (accepted_same (refusal_by (effect c b u)) b)) }

-- of a request that is known
pub does_as : {s : Seen} → Does s → {c : Request} → s.request ≡ c → Does (seeing c s.before s.used s.answer s.after)
does_as {s} d q = subst (λ (c : Request). Does (seeing c s.before s.used s.answer s.after)) q d

pub fed_map : {P Q : List ℕ → List ℕ → Type 0} → ((c f : List ℕ) → P c f → Q c f) → (c : Request) → FedBy P c → FedBy Q c
fed_map m empty d = tt
fed_map m (file o f) d = λ w. m o.case f (d w)
fed_map m (show k) d = tt
fed_map m (worst k) d = tt

pub turn_does : {W : Way} (l : Lawful W) {c : Request} {b : List ℕ} {u : ℕ} {a : Answer} {b' : List ℕ} → TurnBy W c b u a b' → Does (seeing c b u a b')
turn_does l {u = u} t = subst Does t.seen (l.does t.call u t.figures)

-- ── the functions of `archive`

pub told_is : (call : ShowCall) (told : ShowRefusalCall) → SameArguments call told → refused told.result ≡ show_refusal call.args.0.now call.args.1.0 call.args.1.1.0
told_is call told s = told.kept ∙ λ i. show_refusal (s.archive i) (s.used i) (s.number i)

direct_does : (call : ArchiveCall) (u : ℕ) (f : List ℕ) → Does (archive_seen call u f)
direct_does (empties k) u f = record { answer_is = k.kept.2; after_is = k.kept.1 }
direct_does (files k) u f = record { answer_is = k.kept.2; after_is = k.kept.1 }
direct_does (shows k t s) u f = reading refl ((λ i. shown (told_is k t s i) (k.kept i)) ∙ of_showing k.args.0.now k.args.1.0 k.args.1.1.0)
direct_does (names k) u f = reading refl k.kept.1

pub direct_lawful : Lawful direct
direct_lawful = record { does = direct_does; worked = λ c f w. w }
