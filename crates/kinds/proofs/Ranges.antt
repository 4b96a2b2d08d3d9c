-- `accepted_exactly`: a case is accepted exactly when it is within the ranges that are stated in plain numbers.
-- The laws of its fields are in FieldRanges and QuantityRanges.
use mathlib.Core.Path.{◌≡◌, refl}
use mathlib.Core.List.{List}
use Prim.Native.Nat.{ℕ}
use lib.ListN.{length}
use borrow.Author.Tests.{eqb-false, ne_eqb}
use Rattle.kinds.specs.Refusal.{none, later}
use Rattle.kinds.specs.Case.{kind_of, row_of, route_of, dossier_of, pattern_at, not_sixty_four, kind_unknown, refusals, refusal_of}
pub use Rattle.kinds.specs.Ranges.{WithinRanges}
use Rattle.kinds.specs.Ranges.{IsKind}
use Rattle.kinds.proofs.Refusals.{none_holds, first_is_first_of}
use Rattle.kinds.proofs.KindTable.{inside}
use Rattle.kinds.proofs.FieldRanges.{Passes, refused, equal, rows_exactly, routes_exactly, users_exactly, usages_exactly, counts_exactly}
use Rattle.kinds.proofs.QuantityRanges.{numbers_exactly, quantities_exactly, sum_exactly}

pub accepted_exactly : (b : List ℕ) → (refusal_of b ≡ 0 → WithinRanges b) × (WithinRanges b → refusal_of b ≡ 0)
unfolding refusal_of not_sixty_four kind_unknown
accepted_exactly b = (ranges, accepted)
  where
    length_exactly : Passes (not_sixty_four b) (length b ≡ 64)
    length_exactly = refused (equal (length b) 64)

    kind_exactly : Passes (kind_unknown (kind_of b)) (IsKind (kind_of b))
    kind_exactly = refused (inside _ (kind_of b))

    ranges : refusal_of b ≡ 0 → WithinRanges b
    ranges e =
        let h = none_holds (refusals b) refl e in
        let k = kind_exactly.0 (h 1) in
        let r = (rows_exactly b (kind_of b) k).0 (h 2) in
        let u = (users_exactly b (kind_of b) k).0 (h 4) in
        record {
          sixty_four = length_exactly.0 (h 0);
          kind = k;
          row = r;
          route = (routes_exactly (kind_of b) (row_of b) (route_of b)).0 (h 3);
          user = u;
          usage = (usages_exactly b (kind_of b) k r u).0 (h 5);
          count = (counts_exactly b (kind_of b) k).0 (h 6);
          dossier = eqb-false (dossier_of b) 0 (h 7);
          numbers = (numbers_exactly (pattern_at b)).0 (h 8);
          quantities = (quantities_exactly b (kind_of b) k).0 (h 9) (h 10);
          sum = (sum_exactly b (kind_of b) k).0 (h 11);
        }

    accepted : WithinRanges b → refusal_of b ≡ 0
    accepted w =
        let k = w.kind in
        let q = (quantities_exactly b (kind_of b) k).1 w.quantities in
        first_is_first_of
        (later (length_exactly.1 w.sixty_four)
        (later (kind_exactly.1 k)
        (later ((rows_exactly b (kind_of b) k).1 w.row)
        (later ((routes_exactly (kind_of b) (row_of b) (route_of b)).1 w.route)
        (later ((users_exactly b (kind_of b) k).1 w.user)
        (later ((usages_exactly b (kind_of b) k w.row w.user).1 w.usage)
        (later ((counts_exactly b (kind_of b) k).1 w.count)
        (later (ne_eqb (dossier_of b) 0 w.dossier)
        (later ((numbers_exactly (pattern_at b)).1 w.numbers)
        (later q.0
        (later q.1
        (later ((sum_exactly b (kind_of b) k).1 w.sum)
        none))))))))))))
