-- Refusal 21 in bytes: where it does not hold, the 16 bytes before the used length are the trailer of the n that stands there, byte for byte, and n
-- is at most 1,000,000: `trailer_there`. Where those bytes stand there, it does not hold: `trailer_enough`. The bytes themselves, of one n: `trailer_bytes`.
use mathlib.Core.Path.{◌≡◌, refl, sym, ap, ◌∙◌}
use mathlib.Core.Bool.{false}
use mathlib.Core.List.{List, [], ◌∷◌, ◌++◌, append_assoc}
use Prim.Native.Nat.{ℕ, ◌+◌, ◌-◌, ◌*◌, ◌≤◌}
use native.Mathlib.Omega.{arith}
use lib.ListN.{length, take, drop, length-take, take-append-drop}
use lib.Seq.{take-add, drop-drop}
use Rattle.octets.specs.Bytes.{AreBytes, bytes_of}
use Rattle.octets.proofs.Numbers.{bytes_of_number_at}
use Rattle.records.specs.Layout.{bytes_at, trailer}
use Rattle.records.specs.Buffer.{distance_at, count_at, edition_at, broken}
use Rattle.records.proofs.Trailer.{sound_facts, trailer_read, trailer_sound}

part_add : (b : List ℕ) (at n m : ℕ) → bytes_at b at (n + m) ≡ bytes_at b at n ++ bytes_at b (at + n) m
part_add b at n m = take-add n m (drop at b) ∙ ap (λ (l : List ℕ). take n (drop at b) ++ take m l) (drop-drop n at b)

-- the 16 bytes are those of the three numbers that they hold
as_numbers : (b : List ℕ) (u : ℕ) → AreBytes b → 16 ≤ u → u ≤ length b → bytes_at b (u - 16) 16 ≡ bytes_of 8 (distance_at b u) ++ bytes_of 4 (count_at b u) ++ bytes_of 4 (edition_at b u)
as_numbers b u h l i =
    let p : u - 16 + 8 ≡ u - 8 = omega arith in
    let q : u - 8 + 4 ≡ u - 4 = omega arith in
    part_add b (u - 16) 8 8 ∙ rw (p, part_add b (u - 8) 4 4, q, bytes_of_number_at b (u - 16) 8 h (omega arith), bytes_of_number_at b (u - 8) 4 h (omega arith), bytes_of_number_at b (u - 4) 4 h (omega arith))
    (sym (append_assoc (bytes_at b (u - 16) 8) (bytes_at b (u - 8) 4) (bytes_at b (u - 4) 4)))

pub trailer_there : (b : List ℕ) (u : ℕ) → AreBytes b → broken b u ≡ false
    → (count_at b u ≤ 1000000) × (u ≡ 96 * count_at b u + 16) × (u ≤ length b) × (bytes_at b (u - 16) 16 ≡ trailer 96 1 (count_at b u))
unfolding trailer
trailer_there b u h e = let s = sound_facts b u e in (s.few, s.length_is, s.inside, as_numbers b u h s.at_least s.inside ∙ rw (s.distance_is, s.edition_is))

pub trailer_enough : (b : List ℕ) (u n : ℕ) → n ≤ 1000000 → u ≡ 96 * n + 16 → u ≤ length b → bytes_at b (u - 16) 16 ≡ trailer 96 1 n → broken b u ≡ false
trailer_enough b u n few l i t =
    let p = take (u - 16) b in
    let q = drop 16 (drop (u - 16) b) in
    let e : b ≡ p ++ (trailer 96 1 n ++ q) = sym (take-append-drop (u - 16) b) ∙ ap (λ (r : List ℕ). p ++ r) (sym (take-append-drop 16 (drop (u - 16) b)) ∙ ap (λ (r : List ℕ). r ++ q) t) in
    trailer_sound (trailer_read p q e (omega (arith, l, i, length-take (u - 16) b)) (omega arith) (omega arith) (omega arith)) l i few

-- 258 records: 24,768 bytes before the trailer, then 258, then edition 1, each with its lowest byte first
pub trailer_bytes : trailer 96 1 258 ≡ 192 ∷ 96 ∷ 0 ∷ 0 ∷ 0 ∷ 0 ∷ 0 ∷ 0 ∷ 2 ∷ 1 ∷ 0 ∷ 0 ∷ 1 ∷ 0 ∷ 0 ∷ 0 ∷ []
unfolding trailer bytes_of
trailer_bytes = refl
