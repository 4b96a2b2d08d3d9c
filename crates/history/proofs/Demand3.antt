-- Demand 3 over every history: `demand3`; by any lawful way of calling: `way_demand3`. Assumes nothing.
-- So that it says something: `history_can` in Possible, and `met` in Demand1 (the functions meet the contracts that a call goes by).
use mathlib.Core.Path.{◌≡◌, refl}
use mathlib.Core.List.{List, [], ◌∷◌}
use Prim.Native.Nat.{ℕ}
use lib.ListN.{length}
use Rattle.records.specs.Layout.{Line}
use Rattle.archive.specs.Answers.{Answer}
use Rattle.history.specs.Ledger.{Request, empty, after, answers, lines}
use Rattle.history.specs.Seen.{Way}
use Rattle.history.specs.History.{RunBy, done, next, BeginsEmpty, begins, HistoryBy, History, After}
use Rattle.history.proofs.Lawful.{Lawful, direct_lawful}
use Rattle.history.proofs.Turns.{Stands, kept, first_stands}

-- ── the theorem

-- requests from a buffer that stands are answered as the ledger does, and it stands again
pub record Followed (size : ℕ) (ls : List Line) (cs : List Request) (rs : List Answer) (b'' : List ℕ) (u'' : ℕ) : Type 0 where
  pub answered : rs ≡ answers size ls cs
  pub stands : Stands size b'' u'' (lines size ls cs)

-- by any lawful way of calling
module _ {W : Way} (l : Lawful W) where
  followed : {size : ℕ} {b : List ℕ} {u : ℕ} {ls : List Line} {cs : List Request} {rs : List Answer} {b'' : List ℕ} {u'' : ℕ}
      → Stands size b u ls → RunBy W b u cs rs b'' u'' → Followed size ls cs rs b'' u''
  unfolding answers lines
  followed s done = record { answered = refl; stands = s }
  followed s (next {c = c} t h) =
      let k = kept l c s t in
      let f = followed k.stands h in
      record { answered = λ i. k.answered i ∷ f.answered i; stands = f.stands }

  begun_followed : {b : List ℕ} {u : ℕ} {cs : List Request} {rs : List Answer} {b'' : List ℕ} {u'' : ℕ}
      → BeginsEmpty cs rs → RunBy W b u cs rs b'' u'' → Followed (length b) [] cs rs b'' u''
  unfolding answers lines
  begun_followed {b} (begins {cs = cs} {rs = rs}) (next t h) =
      let z = first_stands l t in
      let f = followed z.2 h in
      let q : rs ≡ answers (length b) (after (length b) [] empty) cs = rw z.1 f.answered in
      record { answered = λ i. z.0 i ∷ q i; stands = rw z.1 f.stands }

  pub history_followed : {b : List ℕ} {cs : List Request} {rs : List Answer} {b'' : List ℕ} {u'' : ℕ} → HistoryBy W b cs rs b'' u'' → Followed (length b) [] cs rs b'' u''
  history_followed h = begun_followed h.begun h.run

  pub way_demand3 : {b : List ℕ} {cs : List Request} {rs : List Answer} {b'' : List ℕ} {u'' : ℕ} → HistoryBy W b cs rs b'' u'' → After (length b) cs rs b'' u''
  way_demand3 h =
      let f = history_followed h in
      record {
        answered = f.answered;
        archive = f.stands.holds.bytes;
        used_length_is = f.stands.holds.length_is;
        buffer = f.stands.size_is;
        held = f.stands.held;
      }

pub demand3 : {b : List ℕ} {cs : List Request} {rs : List Answer} {b'' : List ℕ} {u'' : ℕ} → History b cs rs b'' u'' → After (length b) cs rs b'' u''
demand3 h = way_demand3 direct_lawful h
