-- A refusal is the first of a list of conditions that holds (paper 01, 'From the input, in this order').
use Rattle.std.specs.Prelude.{◌≡◌, Bool, true, false, not, ◌&&◌, cond, List, [], ◌∷◌, ℕ, eqb}

-- a refusal's number, and whether what it is for holds
pub record Condition : Type 0 where
  pub number : ℕ
  pub holds : Bool

infix 5 ◌when◌
abbrev pub ◌when◌ : ℕ → Bool → Condition
n when t = record { number = n; holds = t }

-- the number of the first that holds, 0 for none
abbrev pub first_of : List Condition → ℕ
first_of [] = 0
first_of (c ∷ cs) = cond c.holds c.number (first_of cs)

-- n is the number of a condition that holds while none before it does; or none holds and n is 0
pub data IsFirst : List Condition → ℕ → Type 0 where
  none : IsFirst [] 0
  here : {c : Condition} {cs : List Condition} → c.holds ≡ true → IsFirst (c ∷ cs) c.number
  later : {c : Condition} {cs : List Condition} {n : ℕ} → c.holds ≡ false → IsFirst cs n → IsFirst (c ∷ cs) n

-- no condition has number 0
abbrev pub numbered : List Condition → Bool
numbered [] = true
numbered (c ∷ cs) = not (eqb c.number 0) && numbered cs
