-- Free space in plain numbers: when a case within the ranges that is not held is filed, and when it meets 23.
-- `file_exactly`, of one call of `file` on any archive. By any lawful way of calling: `filed_exactly`, of a filing after any history; `first_filing`, of the first one behind an empty.
use mathlib.Core.Path.{◌≡◌, ◌∙◌}
use mathlib.Core.Bool.{false, cond}
use mathlib.Core.List.{List, [], ◌∷◌}
use Prim.Native.Nat.{ℕ, ◌+◌, ◌*◌, ◌≤◌, ◌<◌}
use native.Mathlib.Nat.{not-suc-le-zero}
use native.Mathlib.Omega.{arith}
use borrow.Author.Tests.{le-ltb}
use lib.ListN.{length}
use Rattle.std.specs.Prelude.{Ok, Err}
use Rattle.kinds.specs.Number.{refusal_at}
use Rattle.kinds.specs.declared.refusal.Refusal.TheVariants.{Full}
use Rattle.kinds.specs.Refusal.{first_of}
use Rattle.records.specs.Layout.{Line, used_length, record_size}
use Rattle.records.specs.Lines.{IsHeld}
use Rattle.records.specs.Buffer.{count_at, broken, lines_in}
use Rattle.records.proofs.HeldLine.{not_held}
use Rattle.records.proofs.Trailer.{sound_facts}
use Rattle.archive.specs.Conditions.{full}
use Rattle.archive.specs.Offers.{Offer, offer, Within}
use Rattle.archive.specs.Archive.{empty_refusals, file_refusal, filing}
use Rattle.archive.specs.Answers.{Answer, emptied, filed}
use Rattle.archive.proofs.Refusals.{full_exactly, full_short, full_most, within_behind, from_state_lem}
use Rattle.history.specs.Calls.{FileCall}
use Rattle.history.specs.Ledger.{Request, empty, file, from_lines, judged_file, answer, lines}
use Rattle.history.specs.Seen.{Way}
use Rattle.history.specs.History.{TurnBy, RunBy, next, HistoryBy, BySpace}
use Rattle.history.proofs.Lawful.{Lawful, turn_does}
use Rattle.history.proofs.Turns.{Stands, kept, first_stands}
use Rattle.history.proofs.Demand3.{history_followed}

-- ── full, of numbers

free : (size u n : ℕ) → u + 96 ≤ size → n < 1000000 → full size u n ≡ false
free size u n h l = (full_exactly size u n).1 h (λ e. omega arith)

-- ── one call, on an archive of any content

module _ (call : FileCall) where
  abbrev b : List ℕ
  b = call.args.0.now

  abbrev u : ℕ
  u = call.args.1.0

  abbrev o : Offer
  o = offer call.args.1.1.0.now

  by_space : Within o → broken b u ≡ false → (IsHeld (lines_in b u) o.case → ⊥) → file_refusal b u o ≡ cond (full (length b) u (count_at b u)) 23 0
  by_space e s h = from_state_lem b u o e ∙ rw (s, not_held (lines_in b u) o.case h)

  pub file_exactly : Within o → broken b u ≡ false → (IsHeld (lines_in b u) o.case → ⊥)
      → (u + 96 ≤ length b → count_at b u < 1000000 → call.result ≡ Ok (record { number = count_at b u; used = u + 96 }))
      × (length b < u + 96 → call.result ≡ Err Full)
      × (count_at b u ≡ 1000000 → call.result ≡ Err Full)
  unfolding filing refusal_at
  file_exactly e s h =
      let r = by_space e s h in
      let k : used_length record_size (count_at b u + 1) ≡ u + 96 = omega (arith, (sound_facts b u s).length_is) in (
        λ p q. call.kept.0 ∙ rw (r, free (length b) u (count_at b u) p q, k),
        λ p. call.kept.0 ∙ rw (r, full_short (length b) u (count_at b u) p),
        λ p. call.kept.0 ∙ rw (r, full_most (length b) u (count_at b u) p),
      )

-- ── a filing after a history, by any lawful way of calling

module _ {W : Way} (l : Lawful W) where
  -- on a buffer that holds n lines
  after_lines : {size : ℕ} {b : List ℕ} {u : ℕ} {ls : List Line} {o : Offer} {f : List ℕ} {a : Answer} {b' : List ℕ} → Stands size b u ls → TurnBy W (file o f) b u a b'
      → Within o → (IsHeld ls o.case → ⊥) → BySpace size (length ls) a
  unfolding answer judged_file
  after_lines {size} {ls = ls} {o = o} {f = f} s t e h =
      let n = length ls in
      let w = used_length record_size n in
      let r : first_of (judged_file size ls o) ≡ cond (full size w n) 23 0 = within_behind o (from_lines size ls o) e ∙ rw (not_held ls o.case h) in
      let z = (kept l (file o f) s t).answered in
      let k : used_length record_size (n + 1) ≡ 96 * n + 112 = omega arith in (
        λ p q. z ∙ rw (r, free size w n (omega arith) q, k),
        λ p. z ∙ rw (r, full_short size w n (omega arith)),
        λ p. z ∙ rw (r, full_most size w n p),
      )

  pub filed_exactly : {b : List ℕ} {cs : List Request} {rs : List Answer} {b'' : List ℕ} {u'' : ℕ} {o : Offer} {f : List ℕ} {a : Answer} {b''' : List ℕ}
      → HistoryBy W b cs rs b'' u'' → TurnBy W (file o f) b'' u'' a b''' → Within o → (IsHeld (lines (length b) [] cs) o.case → ⊥)
      → BySpace (length b) (length (lines (length b) [] cs)) a
  filed_exactly h t e n = after_lines (history_followed l h).stands t e n

  -- ── an empty, and the first filing behind it

  emptied_16 : {b : List ℕ} {u : ℕ} {a : Answer} {b' : List ℕ} → TurnBy W empty b u a b' → 16 ≤ length b → a ≡ emptied 0 16
  unfolding empty_refusals
  emptied_16 {b} t h = (turn_does l t).answer_is ∙ rw (le-ltb (length b) 16 h)

  pub first_filing : {b : List ℕ} {u : ℕ} {o : Offer} {f : List ℕ} {cs : List Request} {a₀ a₁ : Answer} {rs : List Answer} {b'' : List ℕ} {u'' : ℕ}
      → RunBy W b u (empty ∷ file o f ∷ cs) (a₀ ∷ a₁ ∷ rs) b'' u'' → 112 ≤ length b → Within o → (a₀ ≡ emptied 0 16) × (a₁ ≡ filed 0 0 112)
  first_filing (next t (next k r)) h e =
      let z = emptied_16 t (omega arith) in
      let s = first_stands l (rw z at t) in
      (z, (after_lines s.2 (rw z at k) e (λ x. not-suc-le-zero x.there)).0 h (omega arith))
