-- Demand 3 over every history of calls of the C interface: `c_demand3`; the interface is a lawful way of calling: `c_lawful`. Each such call is a turn of `archive`'s own: `c_turn`.
-- So that it says something: `c_history_can` and `c_met` in InterfacePossible; that the functions ask nothing of their caller is `asks_nothing` of
-- crate csorvelin. That a caller may hand on what one variable holds is in OneVariable.
use mathlib.Core.Path.{refl, ap, ◌∙◌}
use mathlib.Core.List.{List, []}
use Prim.Native.Nat.{ℕ}
use lib.ListN.{length}
use Rattle.emission.specs.Figures.{figures_of}
use Rattle.archive.specs.Answers.{Answer, shown}
use Rattle.archive.proofs.AnswerLaws.{of_showing}
use Rattle.history.specs.Ledger.{Request}
use Rattle.history.specs.Calls.{WorkedOut}
use Rattle.history.specs.History.{Turn, HistoryBy, After}
use Rattle.history.specs.Interface.{CCall, empties, files, shows, names, c_seen, CWorkedOut, from_c, CTurn}
use Rattle.history.proofs.Lawful.{Does, Lawful, reading, fed_map, turn_does}
use Rattle.history.proofs.Demand3.{way_demand3}
use Rattle.history.proofs.Possible.{direct_can}

c_does : (call : CCall) (u : ℕ) (f : List ℕ) → Does (c_seen call u f)
c_does (empties k) u f = record { answer_is = k.kept.0; after_is = k.kept.1 }
c_does (files k) u f = record { answer_is = k.kept.0; after_is = k.kept.1 }
c_does (shows k) u f = reading refl ((λ i. shown (k.kept.0 i) (k.kept.3 i)) ∙ of_showing k.args.0.now k.args.1.0 k.args.1.1.0)
c_does (names k) u f = reading refl k.kept

c_worked : (c f : List ℕ) → CWorkedOut c f → WorkedOut c f
c_worked c f w = (direct_can []).work_out c f (w.gave ∙ w.call.kept.1 ∙ ap figures_of w.on)

pub c_lawful : Lawful from_c
c_lawful = record { does = c_does; worked = c_worked }

pub c_turn : {c : Request} {b : List ℕ} {u : ℕ} {a : Answer} {b' : List ℕ} → CTurn c b u a b' → Turn c b u a b'
c_turn {c} {b} {u} t =
    let d = turn_does c_lawful t in
    rw (d.answer_is, d.after_is) ((direct_can []).turn c (fed_map c_worked c t.fed) b u)

-- ── the theorem

pub c_demand3 : {b : List ℕ} {cs : List Request} {rs : List Answer} {b'' : List ℕ} {u'' : ℕ} → HistoryBy from_c b cs rs b'' u'' → After (length b) cs rs b'' u''
c_demand3 h = way_demand3 c_lawful h
