-- Figures read from what show lends, by calls of the very functions: `shown_figures`. A blank is told apart from figures of 0.
use mathlib.Core.Path.{◌≡◌, refl, sym, ap, ◌∙◌}
use mathlib.Core.Bool.{true, false}
use mathlib.Core.List.{List, [], ◌∷◌}
use Prim.Native.Nat.{ℕ, ◌+◌, ◌*◌}
use Rattle.std.specs.Prelude.{Option, Some, None, is_some}
use Rattle.kinds.specs.Number.{refused}
use Rattle.octets.specs.Bytes.{number_at}
use Rattle.archive.specs.Archive.{show_refusal, is_record, record_figures, told_figures}
use Rattle.archive.proofs.FiguresRead.{shown_record, shown_no_record}
use Rattle.history.specs.Calls.{ShowCall, ShowRefusalCall, FiguresCall, SameArguments}
use Rattle.history.proofs.Lawful.{told_is}

is_told : (o : Option (List ℕ)) {f : List ℕ} → is_some o ≡ true → told_figures o ≡ f → o ≡ Some f
is_told None s e = cc
is_told (Some g) s e = ap Some e

none_told : (o : Option (List ℕ)) → is_some o ≡ false → o ≡ None
none_told None s = refl
none_told (Some g) s = cc

-- Show of record k lends it, and its four figures are the numbers at 64, 72, 80 and 88 behind its first byte; beside a refusal there is no record.
pub shown_figures : (call : ShowCall) (told : ShowRefusalCall) (read : FiguresCall) → SameArguments call told → read.args.0.now ≡ call.result.now
    → let b = call.args.0.now in
    let k = call.args.1.1.0 in
    (refused told.result ≡ 0 → read.result ≡ Some (number_at b (96 * k + 64) 8 ∷ number_at b (96 * k + 72) 8 ∷ number_at b (96 * k + 80) 8 ∷ number_at b (96 * k + 88) 8 ∷ []))
    × ((refused told.result ≡ 0 → ⊥) → read.result ≡ None)
shown_figures call told read s e =
    let b = call.args.0.now in
    let u = call.args.1.0 in
    let k = call.args.1.1.0 in
    let t : refused told.result ≡ show_refusal b u k = told_is call told s in
    let p = e ∙ call.kept in
    let f = read.kept.0 ∙ ap is_record p in
    let g = read.kept.1 ∙ ap record_figures p in (
      λ (z : refused told.result ≡ 0). let r = shown_record b u k (sym t ∙ z) in is_told read.result (f ∙ r.0) (g ∙ r.1),
      λ (h : refused told.result ≡ 0 → ⊥). let r = shown_no_record b u k (λ z. h (t ∙ z)) in none_told read.result (f ∙ r.0),
    )
