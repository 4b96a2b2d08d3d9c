-- That there are such calls, runs and histories: each request can be made on any buffer at any used length, with the answer and the bytes of its effect (`direct_can`),
-- so every list of requests has a history from every buffer of 16 bytes or more (`history_can`). Of any way of which this is so: `run_by`, `history_by`.
use mathlib.Core.Path.{◌≡◌, refl, sym, ◌∙◌}
use mathlib.Core.List.{List, [], ◌∷◌}
use Prim.Native.Nat.{ℕ, zero, suc, ◌≤◌}
use native.Mathlib.Omega.{arith}
use Rattle.std.specs.Prelude.{Ok, Err}
use base.Fml.{Lft}
use borrow.Author.Tests.{le-ltb}
use denote.MutBor.{MutBor}
use denote.Ref.{Bor}
use lib.ListN.{length}
use Rattle.octets.proofs.Bools.{every}
use Rattle.kinds.specs.Number.{refusal_at}
use Rattle.kinds.specs.Case.{refusals, refusal_of}
use Rattle.emission.specs.Figures.{figures_of, figures_in}
use Rattle.emission.proofs.Accepted.{figures_refused}
use Rattle.archive.specs.Conditions.{accepted}
use Rattle.archive.specs.Answers.{Answer, emptied, handed, answer_by, left_by}
use Rattle.archive.specs.Archive.{empty_refusals, empty_bytes, emptying, file_bytes, filing, show_refusals, show_part, naming}
use Rattle.archive.proofs.AnswerLaws.{by_first, refused_by, of_emptying, of_filing_lem, of_naming}
use Rattle.history.specs.Ledger.{Request, empty, file, show, worst}
use Rattle.history.specs.Seen.{effect, seeing, Way}
use Rattle.history.specs.Calls.{empties, files, shows, names, WorkedOut, direct}
use Rattle.history.specs.History.{FedBy, TurnBy, done, next, begins, AllFed, RunOf, HistoryOf}
use Rattle.history.proofs.Lawful.{Lawful, fed_map, turn_does, direct_lawful}

-- ── lists of calls from single ones

abbrev pub told : Request → List ℕ → ℕ → Answer
told c b u = answer_by (effect c b u)

abbrev pub left : Request → List ℕ → ℕ → List ℕ
left c b u = left_by (effect c b u) b

-- a call by a lawful way is a turn with that answer and those bytes
pub made : {W : Way} (l : Lawful W) (call : W.Call) (u : ℕ) (f : List ℕ)
    → let s = W.seen call u f in
    s.used ≡ u → FedBy W.WorkedOut s.request → TurnBy W s.request s.before u (told s.request s.before u) (left s.request s.before u)
made {W} l call u f e d =
    let s = W.seen call u f in
    let t : TurnBy W s.request s.before u s.answer s.after = record { call = call; figures = f; seen = λ i. seeing s.request s.before (e i) s.answer s.after; fed = d } in
    rw ((turn_does l t).answer_is, (turn_does l t).after_is) at t

-- each request can be made on any buffer, with the answer and the bytes of its effect; and figures can be worked out
pub record Can (W : Way) : Type 0 where
  pub turn : (c : Request) → FedBy W.WorkedOut c → (b : List ℕ) (u : ℕ) → TurnBy W c b u (told c b u) (left c b u)
  pub work_out : (c f : List ℕ) → f ≡ figures_of c → W.WorkedOut c f

module _ {W : Way} (can : Can W) where
  pub run_by : (cs : List Request) → AllFed cs → (b : List ℕ) (u : ℕ) → RunOf W b u cs
  run_by [] d b u = record { answers = []; bytes = b; used = u; run = done }
  run_by (c ∷ cs) d b u =
      let t = can.turn c (fed_map can.work_out c d.0) b u in
      let r = run_by cs d.1 (left c b u) (handed (told c b u) u) in
      record { answers = told c b u ∷ r.answers; bytes = r.bytes; used = r.used; run = next t r.run }

  -- behind an empty that is accepted
  pub history_by : (cs : List Request) → AllFed cs → (b : List ℕ) → 16 ≤ length b → HistoryOf W b cs
  unfolding empty_refusals
  history_by cs d b h =
      let r = run_by cs d (left empty b 0) 16 in
      let e : told empty b 0 ≡ emptied 0 16 = rw (le-ltb (length b) 16 h) in
      let first : TurnBy W empty b 0 (emptied 0 16) (left empty b 0) = rw e at (can.turn empty tt b 0) in
      record { answers = r.answers; bytes = r.bytes; used = r.used; history = record { given = 0; run = next {a = emptied 0 16} {b' = left empty b 0} first r.run; begun = begins } }

-- ── single calls, at any lifetime

-- a reference to something
unfoldable pub lent : {A : Type 0} → A → Bor A
lent x = record { ref_ptr = (0, 0); now = x }

-- to something that the call may write
unfoldable pub lent_to_write : {A : Type 0} → A → MutBor A
lent_to_write x = record { ref_ptr = (0, 0); ghost_name = 0; now = x }

-- what work out gives of a case
figures_worked : (c : List ℕ) → figures_in (by_first (refusals c) (figures_of c)) ≡ figures_of c
unfolding refusal_of
figures_worked c = go (refusal_of c) refl
  where
    go : (n : ℕ) → refusal_of c ≡ n → figures_in (accepted n (Ok (figures_of c)) (Err (refusal_at n))) ≡ figures_of c
    go zero e = refl
    go (suc n) e = figures_refused c (λ z. omega (arith, e, z))

module _ (κ : Lft) where
  direct_turn : (c : Request) → FedBy WorkedOut c → (b : List ℕ) (u : ℕ) → TurnBy direct c b u (told c b u) (left c b u)
  unfolding lent lent_to_write show_refusals refusal_at every
  direct_turn empty d b u = made direct_lawful (empties (record { κs = (κ, tt); args = (lent_to_write b, tt); result = emptying b; last = (empty_bytes b, tt); kept = (refl, refl, of_emptying b) })) u [] refl d
  direct_turn (file o f) d b u =
      made direct_lawful
      (files (record { κs = (κ, (κ, tt)); args = (lent_to_write b, (u, (lent o.case, tt))); result = filing b u o; last = (file_bytes b u o, (tt, (tt, tt))); kept = (refl, refl, of_filing_lem b u o) })) u f refl d
  direct_turn (show k) d b u =
      made direct_lawful
      (shows (record { κs = (κ, tt); args = (lent b, (u, (k, tt))); result = lent (show_part b u k); last = (tt, (tt, (tt, tt))); kept = refl })
      (record { κs = (κ, tt); args = (lent b, (u, (k, tt))); result = by_first (show_refusals b u k) tt; last = (tt, (tt, (tt, tt))); kept = refused_by (show_refusals b u k) refl tt })
      (record { archive = refl; used = refl; number = refl })) u [] refl d
  direct_turn (worst m) d b u =
      made direct_lawful (names (record { κs = (κ, tt); args = (lent b, (u, (m, tt))); result = naming b u m; last = (tt, (tt, (tt, tt))); kept = (refl, of_naming b u m) })) u [] refl d

  pub direct_can : Can direct
  unfolding lent refusal_of refusal_at every
  direct_can = record {
    turn = direct_turn;
    work_out = λ c f e. record {
      call = record { κs = (κ, tt); args = (lent c, tt); result = by_first (refusals c) (figures_of c); last = (tt, tt); kept = (refused_by (refusals c) refl (figures_of c), figures_worked c) };
      on = refl;
      gave = e ∙ sym (figures_worked c);
    };
  }

  pub history_can : (cs : List Request) → AllFed cs → (b : List ℕ) → 16 ≤ length b → HistoryOf direct b cs
  history_can = history_by direct_can
