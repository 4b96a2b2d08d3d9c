-- The used length of calls from C is handed on in the caller's variable: after every call but a refused empty it is the one there, `c_handed`.
-- A caller who hands on what one variable holds makes a history, `c_one_variable`, and each history is one of those, `c_in_one_variable`.
use mathlib.Core.Path.{◌≡◌, refl, sym, ap, ◌∙◌, subst}
use mathlib.Core.List.{List, []}
use Prim.Native.Nat.{ℕ, zero, suc, ◌≤◌}
use native.Mathlib.Omega.{arith}
use borrow.Author.Tests.{le-ltb}
use lib.ListN.{length}
use Rattle.records.specs.Layout.{Line}
use Rattle.archive.specs.Conditions.{accepted}
use Rattle.archive.specs.Answers.{Answer, used_in, handed, refusal_by, answer_by}
use Rattle.archive.specs.Archive.{empty_refusals, empty_refusal}
use Rattle.history.specs.Ledger.{Request, empty, file, show, worst, after}
use Rattle.history.specs.Seen.{effect}
use Rattle.history.specs.History.{RunBy, done, next, BeginsEmpty, begins, HistoryBy}
use Rattle.history.specs.Interface.{CCall, empties, files, shows, names, c_seen, from_c, CTurn, holds_then, OneVariable, none, more}
use Rattle.history.proofs.Lawful.{turn_does}
use Rattle.history.proofs.Turns.{Stands, kept, first_stands}
use Rattle.history.proofs.Interface.{c_lawful}

-- the variable holds the used length among the places, or what it held
holds_place : (call : CCall) (u : ℕ) (f : List ℕ) → holds_then call u ≡ used_in (c_seen call u f).answer.places u
holds_place (empties k) u f = refl
holds_place (files k) u f = refl
holds_place (shows k) u f = refl
holds_place (names k) u f = refl

beside_used : (c : Request) (b : List ℕ) (u : ℕ) → (c ≡ empty → ⊥) → u ≡ used_in (effect c b u).beside u
beside_used empty b u n = absurd (n refl)
beside_used (file o f) b u n = refl
beside_used (show k) b u n = refl
beside_used (worst m) b u n = refl

told_handed : (c : Request) (b : List ℕ) (u : ℕ) → (c ≡ empty → refusal_by (effect c b u) ≡ 0) → handed (answer_by (effect c b u)) u ≡ used_in (answer_by (effect c b u)).places u
told_handed c b u h = go (refusal_by (effect c b u)) h
  where
    go : (r : ℕ) → (c ≡ empty → r ≡ 0)
        → accepted r (used_in (accepted r (effect c b u).gives (effect c b u).beside) u) u ≡ used_in (accepted r (effect c b u).gives (effect c b u).beside) u
    go zero k = refl
    go (suc r) k = beside_used c b u (λ q. let z : suc r ≡ 0 = k q in omega (arith, z))

pub c_handed : {c : Request} {b : List ℕ} {u : ℕ} {a : Answer} {b' : List ℕ} (t : CTurn c b u a b') → (c ≡ empty → a.refusal ≡ 0) → handed a u ≡ holds_then t.call u
c_handed {c} {b} {u} {a} t h =
    let v : holds_then t.call u ≡ used_in a.places u = holds_place t.call u t.figures ∙ λ i. used_in (t.seen i).answer.places u in
    let e = (turn_does c_lawful t).answer_is in
    ap (λ (x : Answer). handed x u) e ∙ told_handed c b u (λ q. (λ i. (sym e i).refusal) ∙ h q) ∙ sym (ap (λ (x : Answer). used_in x.places u) e) ∙ sym v

-- Within a history no empty is refused, since the buffer keeps its size; so whoever hands on what the variable holds makes a history.

none_refused : {c : Request} {b : List ℕ} {u : ℕ} {a : Answer} {b' : List ℕ} → CTurn c b u a b' → 16 ≤ length b → c ≡ empty → a.refusal ≡ 0
unfolding empty_refusals
none_refused {c} {b} {u} t h q =
    let z : empty_refusal b ≡ 0 = rw (le-ltb (length b) 16 h) in
    (λ i. ((turn_does c_lawful t).answer_is i).refusal) ∙ ap (λ (x : Request). refusal_by (effect x b u)) q ∙ z

one_variable_run : {size : ℕ} {b : List ℕ} {u : ℕ} {ls : List Line} {cs : List Request} {rs : List Answer} {b'' : List ℕ} {u'' : ℕ}
    → 16 ≤ size → Stands size b u ls → OneVariable b u cs rs b'' u'' → RunBy from_c b u cs rs b'' u''
one_variable_run h s none = done
one_variable_run {size} {ls = ls} h s (more {b = b} {u = u} {c = c} {a = a} {b' = b'} {cs = cs} {rs = rs} {b'' = b''} {u'' = u''} t r) =
    let e = c_handed t (none_refused t (rw s.size_is h)) in
    let k = subst (λ (v : ℕ). Stands size b' v (after size ls c)) e (kept c_lawful c s t).stands in
    next {c = c} t (subst (λ (v : ℕ). RunBy from_c b' v cs rs b'' u'') (sym e) (one_variable_run h k r))

pub c_one_variable : {b : List ℕ} {u : ℕ} {cs : List Request} {rs : List Answer} {b'' : List ℕ} {u'' : ℕ}
    → BeginsEmpty cs rs → OneVariable b u cs rs b'' u'' → HistoryBy from_c b cs rs b'' u''
c_one_variable {b} {u} (begins {v = v}) (more {b' = b'} {cs = cs} {rs = rs} {b'' = b''} {u'' = u''} t r) =
    let s = (first_stands c_lawful t).2 in
    let h : 16 ≤ length b = omega (arith, s.holds.length_is, s.holds.inside, s.size_is) in
    let e : v ≡ holds_then t.call u = c_handed t (λ q. refl) in
    let k = subst (λ (w : ℕ). Stands (length b) b' w []) e s in
    record { given = u; run = next t (subst (λ (w : ℕ). RunBy from_c b' w cs rs b'' u'') (sym e) (one_variable_run h k r)); begun = begins }

-- and each history is one: what is handed on is what the variable holds
run_one_variable : {size : ℕ} {b : List ℕ} {u : ℕ} {ls : List Line} {cs : List Request} {rs : List Answer} {b'' : List ℕ} {u'' : ℕ}
    → 16 ≤ size → Stands size b u ls → RunBy from_c b u cs rs b'' u'' → OneVariable b u cs rs b'' u''
run_one_variable h s done = none
run_one_variable h s (next {b = b} {u = u} {c = c} {a = a} {b' = b'} {cs = cs} {rs = rs} {b'' = b''} {u'' = u''} t r) =
    let e = c_handed t (none_refused t (rw s.size_is h)) in
    more {c = c} t (subst (λ (v : ℕ). OneVariable b' v cs rs b'' u'') e (run_one_variable h (kept c_lawful c s t).stands r))

begun_one_variable : {b : List ℕ} {u : ℕ} {cs : List Request} {rs : List Answer} {b'' : List ℕ} {u'' : ℕ}
    → BeginsEmpty cs rs → RunBy from_c b u cs rs b'' u'' → OneVariable b u cs rs b'' u''
begun_one_variable {b} {u} (begins {v = v}) (next {b' = b'} {cs = cs} {rs = rs} {b'' = b''} {u'' = u''} t r) =
    let s = (first_stands c_lawful t).2 in
    let h : 16 ≤ length b = omega (arith, s.holds.length_is, s.holds.inside, s.size_is) in
    let e : v ≡ holds_then t.call u = c_handed t (λ q. refl) in
    more t (subst (λ (w : ℕ). OneVariable b' w cs rs b'' u'') e (run_one_variable h s r))

pub c_in_one_variable : {b : List ℕ} {cs : List Request} {rs : List Answer} {b'' : List ℕ} {u'' : ℕ} (h : HistoryBy from_c b cs rs b'' u'') → OneVariable b h.given cs rs b'' u''
c_in_one_variable h = begun_one_variable h.begun h.run
