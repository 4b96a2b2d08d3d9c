-- That there are such calls of the C interface, and histories of them: `c_history_can`. The functions meet the contracts that such a call goes by: `c_met`.
use mathlib.Core.Path.{◌≡◌, refl, ap}
use mathlib.Core.List.{List, []}
use Prim.Native.Nat.{ℕ, zero, suc, ◌+◌, ◌*◌, ◌≤◌}
use base.Fml.{Lft}
use lib.ListN.{length}
use Rattle.kinds.specs.Case.{refusal_of}
use Rattle.emission.specs.Figures.{figures_of}
use Rattle.records.specs.Layout.{trailer_size, used_length, record_size, bytes_at, record_at}
use Rattle.records.specs.Lines.{worst_of}
use Rattle.records.specs.Buffer.{count_at, lines_in}
use Rattle.archive.specs.Conditions.{accepted}
use Rattle.archive.specs.Answers.{start, entry, line, answering}
use Rattle.archive.specs.Archive.{empty_refusal, empty_bytes, file_refusal, file_bytes, show_refusal, show_part, worst_refusal}
use Rattle.archive.proofs.AnswerLaws.{accepted_map}
use Rattle.csorvelin.specs.Place.{start_shown, length_shown}
use Rattle.csorvelin.proofs.csorvelin_work_out.Met as work_out_met
use Rattle.csorvelin.proofs.csorvelin_work_out.Statement as work_out_statement
use Rattle.csorvelin.proofs.csorvelin_empty.Met as empty_met
use Rattle.csorvelin.proofs.csorvelin_empty.Statement as empty_statement
use Rattle.csorvelin.proofs.csorvelin_file.Met as file_met
use Rattle.csorvelin.proofs.csorvelin_file.Statement as file_statement
use Rattle.csorvelin.proofs.csorvelin_show.Met as show_met
use Rattle.csorvelin.proofs.csorvelin_show.Statement as show_statement
use Rattle.csorvelin.proofs.csorvelin_worst.Met as worst_met
use Rattle.csorvelin.proofs.csorvelin_worst.Statement as worst_statement
use Rattle.history.specs.Ledger.{Request, empty, file, show, worst}
use Rattle.history.specs.History.{FedBy, TurnBy, AllFed, HistoryOf}
use Rattle.history.specs.Interface.{empties, files, shows, names, CWorkedOut, from_c}
use Rattle.history.proofs.Possible.{told, left, made, Can, history_by, lent, lent_to_write}
use Rattle.history.proofs.Interface.{c_lawful}

-- ── that there are such calls and histories

module _ (κ : Lft) where
  shown_place : (b : List ℕ) (k r : ℕ) → bytes_at b (accepted r (record_size * k) 0) (accepted r record_size 0) ≡ accepted r (record_at record_size b k) []
  shown_place b k zero = refl
  shown_place b k (suc r) = refl

  -- each place of an answer is the number that is given without a refusal, or the one beside it
  c_turn_can : (c : Request) → FedBy CWorkedOut c → (b : List ℕ) (u : ℕ) → TurnBy from_c c b u (told c b u) (left c b u)
  unfolding lent lent_to_write start_shown length_shown show_part
  c_turn_can empty d b u =
      let r = empty_refusal b in
      let e = ap (answering r) (accepted_map start r trailer_size 0) in
      made c_lawful (empties (record { κs = (κ, (κ, tt)); args = (lent_to_write b, (lent_to_write 0, tt)); result = r; last = (empty_bytes b, (accepted r trailer_size 0, tt)); kept = (e, refl) })) u [] refl d
  c_turn_can (file o f) d b u =
      let r = file_refusal b u o in
      let n = count_at b u in
      let x : ℕ × ℕ = accepted r (n, used_length record_size (n + 1)) (0, u) in
      let e = ap (answering r) (accepted_map (λ (y : ℕ × ℕ). entry y.0 y.1) r (n, used_length record_size (n + 1)) (0, u)) in
      made c_lawful
      (files (record {
        κs = (κ, (κ, (κ, (κ, tt))));
        args = (lent_to_write b, (lent_to_write u, (lent o.case, (lent_to_write 0, tt))));
        result = r;
        last = (file_bytes b u o, (x.1, (tt, (x.0, tt))));
        kept = (e, refl);
      })) u f refl d
  c_turn_can (show k) d b u =
      let r = show_refusal b u k in
      made c_lawful
      (shows (record {
        κs = (κ, (κ, (κ, tt)));
        args = (lent b, (u, (k, (lent_to_write 0, (lent_to_write 0, tt)))));
        result = r;
        last = (tt, (tt, (tt, (start_shown b u k, (length_shown b u k, tt)))));
        kept = (refl, refl, refl, shown_place b k r);
      })) u [] refl d
  c_turn_can (worst m) d b u =
      let r = worst_refusal b u m in
      let w = worst_of m (lines_in b u) in
      let e = ap (answering r) (accepted_map line r w 0) in
      made c_lawful (names (record { κs = (κ, (κ, tt)); args = (lent b, (u, (m, (lent_to_write 0, tt)))); result = r; last = (tt, (tt, (tt, (accepted r w 0, tt)))); kept = e })) u [] refl d

  pub c_can : Can from_c
  unfolding lent lent_to_write
  c_can = record {
    turn = c_turn_can;
    work_out = λ c f e. record {
      call = record { κs = (κ, (κ, tt)); args = (lent c, (lent_to_write (figures_of c), tt)); result = refusal_of c; last = (tt, (figures_of c, tt)); kept = (refl, refl) };
      on = refl;
      gave = e;
    };
  }

  pub c_history_can : (cs : List Request) → AllFed cs → (b : List ℕ) → 16 ≤ length b → HistoryOf from_c b cs
  c_history_can = history_by c_can

-- ── the functions meet the contracts that a call goes by

pub c_met : {M : Type 1}
    → work_out_statement.statement M
    × empty_statement.statement M
    × file_statement.statement M
    × show_statement.statement M
    × worst_statement.statement M
c_met = (work_out_met.met, empty_met.met, file_met.met, show_met.met, worst_met.met)
