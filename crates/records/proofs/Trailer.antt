-- What it is that refusal 21 does not hold, as facts on numbers: `Sound`, `sound_facts`, `not_broken`.
-- A trailer that stands in a buffer, read back: `TrailerRead`, `trailer_read`, `trailer_sound`.
use mathlib.Core.Path.{◌≡◌, refl, ap, ◌∙◌}
use Rattle.std.specs.Prelude.{Some, None, if◌then◌else◌}
use mathlib.Core.Bool.{Bool, true, false}
use mathlib.Core.List.{List, ◌++◌, append_assoc}
use Prim.Native.Nat.{ℕ, ◌+◌, ◌-◌, ◌*◌, ◌^◌, ◌≤◌, ◌<◌}
use native.Mathlib.Omega.{arith}
use borrow.Author.Tests.{le-ltb, eq-eqb, ltb-false, eqb-true, not-false}
use lib.ListN.{length, length-append}
use Rattle.octets.specs.Bytes.{bytes_of, number_at}
use Rattle.octets.proofs.Numbers.{length_bytes_of}
use Rattle.octets.proofs.Bools.{neither}
use Rattle.records.specs.Layout.{trailer, trailer_size, used_length, most_records, record_size, edition}
use Rattle.records.specs.Buffer.{distance_at, count_at, edition_at, broken, records_in}
use Rattle.records.proofs.RecordLaws.{number_behind}

pub record Sound (b : List ℕ) (u : ℕ) : Type 0 where
  pub inside : u ≤ length b
  pub at_least : trailer_size ≤ u
  pub few : count_at b u ≤ most_records
  pub length_is : u ≡ used_length record_size (count_at b u)
  pub distance_is : distance_at b u ≡ record_size * count_at b u
  pub edition_is : edition_at b u ≡ edition

pub sound_facts : (b : List ℕ) (u : ℕ) → broken b u ≡ false → Sound b u
unfolding broken
sound_facts b u e =
    let e₁ = neither _ _ e in
    let e₂ = neither _ _ e₁.1 in
    let e₃ = neither _ _ e₂.1 in
    let e₄ = neither _ _ e₃.1 in
    let e₅ = neither _ _ e₄.1 in
    record {
      inside = ltb-false _ _ e₁.0;
      at_least = ltb-false _ _ e₂.0;
      few = ltb-false _ _ e₃.0;
      length_is = eqb-true _ _ (not-false _ e₄.0);
      distance_is = eqb-true _ _ (not-false _ e₅.0);
      edition_is = eqb-true _ _ (not-false _ e₅.1);
    }

pub not_broken : (b : List ℕ) (u : ℕ) → Sound b u → broken b u ≡ false
unfolding broken
not_broken b u s =
    rw (le-ltb _ _ s.inside, le-ltb _ _ s.at_least, le-ltb _ _ s.few, eq-eqb _ _ s.length_is, eq-eqb _ _ s.distance_is, eq-eqb _ _ s.edition_is)

-- ── what the number of records says of the trailer, where one is given and where none is

pub records_in_none : (b : List ℕ) (u : ℕ) → records_in b u ≡ None → broken b u ≡ true
unfolding records_in
records_in_none b u e = go (broken b u) refl e
  where
    go : (t : Bool) → broken b u ≡ t → (if t then None else Some (count_at b u)) ≡ None → t ≡ true
    go true f e = refl
    go false f e = cc

pub records_in_some : (b : List ℕ) (u : ℕ) {n : ℕ} → records_in b u ≡ Some n → (broken b u ≡ false) × (n ≡ count_at b u)
unfolding records_in
records_in_some b u {n} e = go (broken b u) refl e
  where
    go : (t : Bool) → broken b u ≡ t → (if t then None else Some (count_at b u)) ≡ Some n → (t ≡ false) × (n ≡ count_at b u)
    go true f e = cc
    go false f e = (refl, cc)

-- ── a trailer read back, of n records of any width w and edition e

pub record TrailerRead (b : List ℕ) (u w e n : ℕ) : Type 0 where
  pub distance_is : distance_at b u ≡ w * n
  pub count_is : count_at b u ≡ n
  pub edition_is : edition_at b u ≡ e

-- behind p, before q
pub trailer_read : {b : List ℕ} {u w e n : ℕ} (p q : List ℕ) → b ≡ p ++ (trailer w e n ++ q) → length p + trailer_size ≡ u → w * n < 2 ^ 64 → n < 2 ^ 32 → e < 2 ^ 32 → TrailerRead b u w e n
unfolding trailer
trailer_read {b} {u} {w} {e} {n} p q g l dw nw ew =
    let D = bytes_of 8 (w * n) in
    let N = bytes_of 4 n in
    let E = bytes_of 4 e in
    let d : b ≡ p ++ (D ++ (N ++ (E ++ q))) = g ∙ simp append_assoc in
    let c : b ≡ (p ++ D) ++ (N ++ (E ++ q)) = g ∙ simp append_assoc in
    let f : b ≡ (p ++ (D ++ N)) ++ (E ++ q) = g ∙ simp append_assoc in
    record {
      distance_is = ap (λ (r : List ℕ). number_at r (u - 16) 8) d ∙ number_behind p (N ++ (E ++ q)) (u - 16) 8 (w * n) (omega (arith, l)) dw;
      count_is = ap (λ (r : List ℕ). number_at r (u - 8) 4) c ∙ number_behind (p ++ D) (E ++ q) (u - 8) 4 n (omega (arith, l, length-append p D, length_bytes_of 8 (w * n))) nw;
      edition_is = ap (λ (r : List ℕ). number_at r (u - 4) 4) f
          ∙ number_behind (p ++ (D ++ N)) q (u - 4) 4 e (omega (arith, l, length-append p (D ++ N), length-append D N, length_bytes_of 8 (w * n), length_bytes_of 4 n)) ew;
    }

pub trailer_sound : {b : List ℕ} {u n : ℕ} → TrailerRead b u record_size edition n → u ≡ used_length record_size n → u ≤ length b → n ≤ most_records → broken b u ≡ false
trailer_sound {b} {u} t l i few =
    let c = t.count_is in
    not_broken b u (record {
      inside = i;
      at_least = omega (arith, l);
      few = rw c few;
      length_is = rw c l;
      distance_is = rw c t.distance_is;
      edition_is = t.edition_is;
    })
