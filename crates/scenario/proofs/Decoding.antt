-- Laws of decoding: `refusal_of_fields` (by what was read of 64 bytes), `refused_by_head`, `by_quantities`, `decoded_accepted`, `decoded_refused`.
-- Laws of the first refusal that holds are in crate kinds, `Refusals`, of its name in `Numbers`.
use mathlib.Core.Path.{◌≡◌, refl, ap}
use mathlib.Core.List.{List, ◌++◌}
use Prim.Native.Nat.{ℕ}
use lib.ListN.{length}
use borrow.Author.Tests.{eqb-false}
use Rattle.std.proofs.Common.{Ok, Err}
use Rattle.kinds.specs.declared.refusal.Refusal.{Refusal}
use Rattle.kinds.specs.Number.{number}
use Rattle.kinds.proofs.Numbers.{refusal_of_number, number_not_zero}
use Rattle.kinds.specs.Refusal.{Condition, first_of}
use Rattle.kinds.proofs.Refusals.{first_of_some, first_of_none}
use Rattle.kinds.specs.Case.{kind_of, not_sixty_four, sum_over, head_refusals, quantity_refusals, refusal_of}
use Rattle.kinds.specs.Patterns.{patterns_of, at}
use Rattle.scenario.specs.declared.Head.{Head}
use Rattle.scenario.specs.Decoding.{head_of, case_of, decoded}

-- of 64 bytes with head h and patterns ps
pub refusal_of_fields : (b : List ℕ) (h : Head) (ps : List ℕ) (n : ℕ) → length b ≡ 64 → h ≡ head_of b → ps ≡ patterns_of b
    → n ≡ first_of (head_refusals (kind_of b) h.row h.route h.user h.count h.dossier ++ quantity_refusals (kind_of b) h.row (at ps)) → refusal_of b ≡ n
unfolding refusal_of not_sixty_four sum_over head_of
refusal_of_fields b h ps n l eh ep en = rw (en, eh, ep, l)

-- of 64 bytes by the refusals of the head, and then by those of the quantities
module _ (b : List ℕ) (h : Head) (l : length b ≡ 64) (e : h ≡ head_of b) where
  abbrev pub heads : List Condition
  heads = head_refusals (kind_of b) h.row h.route h.user h.count h.dossier

  abbrev pub quantities : List ℕ → List Condition
  quantities ps = quantity_refusals (kind_of b) h.row (at ps)

  pub refused_by_head : (r : Refusal) → number r ≡ first_of heads → refusal_of b ≡ number r
  refused_by_head r t =
      refusal_of_fields b h (patterns_of b) (number r) l e refl
      (first_of_some heads (quantities (patterns_of b)) (number r) refl t (eqb-false (number r) 0 (number_not_zero r)))

  pub by_quantities : (ps : List ℕ) (n : ℕ) → ps ≡ patterns_of b → 0 ≡ first_of heads → n ≡ first_of (quantities ps) → refusal_of b ≡ n
  by_quantities ps n p t u = refusal_of_fields b h ps n l e p (first_of_none heads (quantities ps) 0 n refl t refl u)

pub decoded_accepted : (b : List ℕ) → refusal_of b ≡ 0 → decoded b ≡ Ok (record { head = head_of b; case = case_of b })
unfolding decoded
decoded_accepted b e = rw e

pub decoded_refused : (b : List ℕ) (r : Refusal) → refusal_of b ≡ number r → decoded b ≡ Err r
unfolding decoded
decoded_refused b r e = rw (e, number_not_zero r) (ap Err (refusal_of_number r))
