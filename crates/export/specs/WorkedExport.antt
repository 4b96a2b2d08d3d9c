-- A whole archive in plain bytes, and what is exported of it. Two records, of cases that are not looked at: what 21 does not refuse is exported as it stands.
use Rattle.std.specs.Prelude.{List, [], ◌∷◌, ◌++◌, ℕ, replicate}

-- 1, 2 ^ 53 + 1, 0 and 2 ^ 64 - 1
abbrev pub first_figures : List ℕ
first_figures =
    1 ∷ 0 ∷ 0 ∷ 0 ∷ 0 ∷ 0 ∷ 0 ∷ 0
    ∷ 1 ∷ 0 ∷ 0 ∷ 0 ∷ 0 ∷ 0 ∷ 32 ∷ 0
    ∷ 0 ∷ 0 ∷ 0 ∷ 0 ∷ 0 ∷ 0 ∷ 0 ∷ 0
    ∷ 255 ∷ 255 ∷ 255 ∷ 255 ∷ 255 ∷ 255 ∷ 255 ∷ 255
    ∷ []

-- 76923077, 5, 2 ^ 54 + 1 and 1000
abbrev pub second_figures : List ℕ
second_figures =
    197 ∷ 192 ∷ 149 ∷ 4 ∷ 0 ∷ 0 ∷ 0 ∷ 0
    ∷ 5 ∷ 0 ∷ 0 ∷ 0 ∷ 0 ∷ 0 ∷ 0 ∷ 0
    ∷ 1 ∷ 0 ∷ 0 ∷ 0 ∷ 0 ∷ 0 ∷ 64 ∷ 0
    ∷ 232 ∷ 3 ∷ 0 ∷ 0 ∷ 0 ∷ 0 ∷ 0 ∷ 0
    ∷ []

-- 192 bytes of records, two of them, edition 1
abbrev pub trailer_of_two : List ℕ
trailer_of_two =
    192 ∷ 0 ∷ 0 ∷ 0 ∷ 0 ∷ 0 ∷ 0 ∷ 0
    ∷ 2 ∷ 0 ∷ 0 ∷ 0
    ∷ 1 ∷ 0 ∷ 0 ∷ 0
    ∷ []

-- 208 bytes, and one behind them that is not looked at
abbrev pub archive : List ℕ
archive = replicate 64 7 ++ (first_figures ++ (replicate 64 9 ++ (second_figures ++ (trailer_of_two ++ (255 ∷ [])))))

-- 1, 2 ^ 53 + 2, 0 and 2 ^ 64
abbrev pub first_loads : List ℕ
first_loads =
    0 ∷ 0 ∷ 0 ∷ 0 ∷ 0 ∷ 0 ∷ 240 ∷ 63
    ∷ 1 ∷ 0 ∷ 0 ∷ 0 ∷ 0 ∷ 0 ∷ 64 ∷ 67
    ∷ 0 ∷ 0 ∷ 0 ∷ 0 ∷ 0 ∷ 0 ∷ 0 ∷ 0
    ∷ 0 ∷ 0 ∷ 0 ∷ 0 ∷ 0 ∷ 0 ∷ 240 ∷ 67
    ∷ []

-- 76923077, 5, 2 ^ 54 + 4 and 1000
abbrev pub second_loads : List ℕ
second_loads =
    0 ∷ 0 ∷ 0 ∷ 20 ∷ 3 ∷ 87 ∷ 146 ∷ 65
    ∷ 0 ∷ 0 ∷ 0 ∷ 0 ∷ 0 ∷ 0 ∷ 20 ∷ 64
    ∷ 1 ∷ 0 ∷ 0 ∷ 0 ∷ 0 ∷ 0 ∷ 80 ∷ 67
    ∷ 0 ∷ 0 ∷ 0 ∷ 0 ∷ 0 ∷ 64 ∷ 143 ∷ 64
    ∷ []
