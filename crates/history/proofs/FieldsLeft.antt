-- No. 3: what a call leaves in each field, by the line k of its table, which has offset and width. Of calls of the very functions, on any bytes and with any numbers.
-- `each_field`: an accepted filing leaves in field k of its record the bytes of the case at the field's own place, or the figure that work out gives, called on that case in
-- the same way; that it can be so called is `direct_can` and `c_can`. `each_trailer_field`: of the trailer behind it; `emptied_trailer_field`: of the trailer that an accepted empty leaves.
-- From C: `c_each_field`, `c_each_trailer_field`, `c_emptied_trailer_field`. The number of the record is the one that the call answers. By any lawful way of calling: `way_field`.
-- That the fields cover record and trailer, each byte once, is `fields_cover` and `trailer_fields_cover` of records; every other byte of the buffer is in BytesLeft.
use mathlib.Core.Path.{◌≡◌, refl, ap}
use mathlib.Core.List.{List, []}
use Prim.Native.Nat.{ℕ, ◌+◌, ◌*◌, ◌<◌}
use lib.ListN.{length}
use Rattle.std.specs.Prelude.{Ok}
use Rattle.emission.specs.Called.{ends}
use Rattle.records.specs.Fields.{fields, trailer_fields}
use Rattle.archive.specs.Offers.{Offer, offer}
use Rattle.archive.specs.Answers.{emptied, filed, of_emptied, of_filing}
use Rattle.archive.specs.Left.{FieldLeft, TrailerLeft}
use Rattle.history.specs.Ledger.{file}
use Rattle.history.specs.Seen.{Way}
use Rattle.history.specs.Calls.{EmptyCall, FileCall, empties, files, WorkedOut}
use Rattle.history.specs.Interface.{CEmptyCall, CFileCall, empties as c-empties, files as c-files, CWorkedOut}
use Rattle.history.proofs.Lawful.{Lawful, worked_figures, direct_lawful}
use Rattle.history.proofs.Interface.{c_lawful}
use Rattle.history.proofs.BytesLeft.{way_left, bytes_left, c_bytes_left}

pub way_field : {W : Way} (l : Lawful W) (call : W.Call) (o : Offer) → (W.seen call 0 []).request ≡ file o [] → (n v : ℕ) → (W.seen call 0 []).answer ≡ filed 0 n v
    → (f : List ℕ) → W.WorkedOut o.case f → (k : ℕ) → k < length fields → FieldLeft (96 * n) (record { case = o.case; figures = f }) (W.seen call 0 []).after k
way_field l call o q n v e f w k h = rw (worked_figures (l.worked o.case f w)) (((way_left l call 0 []).by_file o [] q n v e).1.in_record k h)

-- ── of the functions

module _ (call : FileCall) (n v : ℕ) (accepted : call.result ≡ Ok (record { number = n; used = v })) where
  abbrev case : List ℕ
  case = call.args.1.1.0.now

  answered : of_filing call.result call.args.1.0 ≡ filed 0 n v
  answered = ap (λ r. of_filing r call.args.1.0) accepted

  pub each_field : (figures : List ℕ) → WorkedOut case figures → (k : ℕ) → k < length fields
      → FieldLeft (96 * n) (record { case = case; figures = figures }) (ends call).0.now k
  each_field = way_field direct_lawful (files call) (offer case) refl n v answered

  pub each_trailer_field : (k : ℕ) → k < length trailer_fields → TrailerLeft (96 * n + 96) (n + 1) (ends call).0.now k
  each_trailer_field = ((bytes_left (files call) 0 []).by_file (offer case) [] refl n v answered).1.in_trailer

pub emptied_trailer_field : (call : EmptyCall) (v : ℕ) → call.result ≡ Ok v → (k : ℕ) → k < length trailer_fields → TrailerLeft 0 0 (ends call).0.now k
emptied_trailer_field call v e = ((bytes_left (empties call) 0 []).by_empty refl v (ap of_emptied e)).1.in_trailer

-- ── from C, where the result is 0 and the number stands in the caller's variable

module _ (call : CFileCall) (accepted : call.result ≡ 0) where
  abbrev c_case : List ℕ
  c_case = call.args.1.1.0.now

  abbrev number : ℕ
  number = (ends call).1.1.1.0.now

  abbrev used : ℕ
  used = (ends call).1.0.now

  c_answered : filed call.result number used ≡ filed 0 number used
  c_answered = ap (λ (r : ℕ). filed r number used) accepted

  pub c_each_field : (figures : List ℕ) → CWorkedOut c_case figures → (k : ℕ) → k < length fields
      → FieldLeft (96 * number) (record { case = c_case; figures = figures }) (ends call).0.now k
  c_each_field = way_field c_lawful (c-files call) (offer c_case) refl number used c_answered

  pub c_each_trailer_field : (k : ℕ) → k < length trailer_fields → TrailerLeft (96 * number + 96) (number + 1) (ends call).0.now k
  c_each_trailer_field = ((c_bytes_left (c-files call) 0 []).by_file (offer c_case) [] refl number used c_answered).1.in_trailer

pub c_emptied_trailer_field : (call : CEmptyCall) → call.result ≡ 0 → (k : ℕ) → k < length trailer_fields → TrailerLeft 0 0 (ends call).0.now k
c_emptied_trailer_field call e = let v = (ends call).1.0.now in ((c_bytes_left (c-empties call) 0 []).by_empty refl v (ap (λ (r : ℕ). emptied r v) e)).1.in_trailer
