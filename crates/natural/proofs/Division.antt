-- Laws on the loop from the top limb down, `over`, which divides by d; l is the list so far, l₀ the list at entry.
--   Divided                  the limbs from i on are worked on, with a remainder r of them
--   divided_start, -again    before the loop, and after a turn
use mathlib.Core.Path.{◌≡◌, refl, sym, ap, ◌∙◌}
use mathlib.Core.List.{List}
use Prim.Native.Nat.{ℕ, zero, suc, ◌+◌, ◌-◌, ◌*◌, ◌≤◌, ◌<◌}
use native.Mathlib.Nat.{le_refl}
use native.Mathlib.Omega.{arith}
use lib.ListN.{length, take, drop, get_or, set, length-set}
use lib.Seq.{get_or-take, take-set-le, take-take}
use Rattle.limbs.specs.Value.{value}
use Rattle.limbs.proofs.Value.{value_none, value_drop, value_drop_set}

pub record Divided (l l₀ : List ℕ) (d i r : ℕ) : Type 0 where
  pub within : i ≤ length l
  pub long : length l ≡ length l₀
  pub rest : take i l ≡ take i l₀
  pub whole : value (drop i l₀) ≡ value (drop i l) * d + r
  pub small : r < d

pub divided_start : (l : List ℕ) (d : ℕ) → 0 < d → Divided l l d (length l) 0
divided_start l d h = record { within = le_refl (length l); long = refl; rest = refl; whole = rw (value_none l (length l) (le_refl (length l))) (omega arith); small = h }

turn : (l l₀ : List ℕ) (d r j q s : ℕ) → j < length l → length l ≡ length l₀ → take (suc j) l ≡ take (suc j) l₀
    → value (drop (suc j) l₀) ≡ value (drop (suc j) l) * d + r → r * 4294967296 + get_or l j 0 ≡ q * d + s
    → value (drop j l₀) ≡ value (drop j (set l j q)) * d + s
turn l l₀ d r j q s h len e inv st =
    let g : get_or l j 0 ≡ get_or l₀ j 0 = sym (get_or-take (suc j) l j 0 (omega arith)) ∙ ap (λ (z : List ℕ). get_or z j 0) e ∙ get_or-take (suc j) l₀ j 0 (omega arith) in
    let a : value (drop j l₀) ≡ get_or l₀ j 0 + 4294967296 * value (drop (suc j) l₀) = value_drop l₀ j (omega arith) in
    let b : value (drop j (set l j q)) * d ≡ (q + 4294967296 * value (drop (suc j) l)) * d = ap (λ (n : ℕ). n * d) (value_drop_set l j q h) in
    omega arith

take_again : (l l₀ : List ℕ) (j x : ℕ) → take (suc j) l ≡ take (suc j) l₀ → take j (set l j x) ≡ take j l₀
take_again l l₀ j x e = take-set-le j l j x (le_refl j) ∙ sym (take-take j (suc j) l (omega arith)) ∙ ap (λ (z : List ℕ). take j z) e ∙ take-take j (suc j) l₀ (omega arith)

pub divided_again : {l l₀ : List ℕ} {d r : ℕ} (i q s : ℕ) → Divided l l₀ d i r → 0 < i → (r * 4294967296 + get_or l (i - 1) 0 ≡ q * d + s) × (s < d) → Divided (set l (i - 1) q) l₀ d (i - 1) s
divided_again {l} {l₀} {d} {r} zero q s v h st = absurd (omega arith)
divided_again {l} {l₀} {d} {r} (suc j) q s v h st =
    let z : suc j - 1 ≡ j = omega arith in
    rw z (record {
      within = rw (length-set l j q) (omega arith);
      long = length-set l j q ∙ v.long;
      rest = take_again l l₀ j q v.rest;
      whole = turn l l₀ d r j q s v.within v.long v.rest v.whole (rw z at st.0);
      small = st.1;
    })
