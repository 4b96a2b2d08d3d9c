-- Numbers as text: decimal digits, or hexadecimal ones behind 0x.
use Rattle.std.specs.Prelude.{◌&&◌, ◌||◌, cond, List, [], ◌∷◌, ℕ, ◌+◌, ◌-◌, ◌*◌, ltb, leb, eqb, length, take, drop, codes, Option, None, Some}
use Rattle.std.specs.Option.{option_and_then}
use Rattle.std.specs.Str.{bytes_eq}

-- 0 to 9 and a to f; nothing for a byte that is no digit
abbrev pub digit_of : ℕ → Option ℕ
digit_of b = cond (leb 48 b && leb b 57) (Some (b - 48)) (cond (leb 97 b && leb b 102) (Some (b - 87)) None)

-- a value with a digit more: nothing where the byte is no digit of the base, or the value has no room for a further one
abbrev pub further : ℕ → ℕ → ℕ → Option ℕ
further base x b = option_and_then (λ d. cond (leb base d || ltb 0xfffffffffffffff x) None (Some (base * x + d))) (digit_of b)

-- the value of digits in a base, behind digits whose value is x
abbrev pub value_from : ℕ → ℕ → List ℕ → Option ℕ
value_from base x [] = Some x
value_from base x (b ∷ bs) = option_and_then (λ y. value_from base y bs) (further base x b)

-- nothing where there is no digit
abbrev pub value_in : ℕ → List ℕ → Option ℕ
value_in base l = cond (eqb (length l) 0) None (value_from base 0 l)

abbrev pub number_in : List ℕ → Option ℕ
number_in l = cond (bytes_eq (take 2 l) (codes "0x")) (value_in 16 (drop 2 l)) (value_in 10 l)
