-- A case written by its fields, and patterns of some numbers, for examples.
use Rattle.std.specs.Prelude.{List, ◌∷◌, ◌++◌, ℕ}
use Rattle.octets.specs.Bytes.{bytes_of}

-- kind, row, route, user, T, dossier number, and the patterns of a to f
unfoldable pub case_bytes : ℕ → ℕ → ℕ → ℕ → ℕ → ℕ → ℕ → ℕ → ℕ → ℕ → ℕ → ℕ → List ℕ
case_bytes kind row route user t dossier a b c d e f =
    kind ∷ row ∷ route ∷ user ∷ bytes_of 4 t ++ bytes_of 8 dossier
    ++ bytes_of 8 a ++ bytes_of 8 b ++ bytes_of 8 c ++ bytes_of 8 d ++ bytes_of 8 e ++ bytes_of 8 f

-- ── the patterns of 1,000,000, 10,000, 5000, 1000, 100, 16, 5, 1, 3/4, 1/2, 1/4, 1/8, 1/32, 1/64, and 2 to the power of -9, -10, -52, -53 and -54

abbrev pub million : ℕ
million = 0x412e848000000000

abbrev pub ten_thousand : ℕ
ten_thousand = 0x40c3880000000000

abbrev pub five_thousand : ℕ
five_thousand = 0x40b3880000000000

abbrev pub thousand : ℕ
thousand = 0x408f400000000000

abbrev pub hundred : ℕ
hundred = 0x4059000000000000

abbrev pub sixteen : ℕ
sixteen = 0x4030000000000000

abbrev pub five : ℕ
five = 0x4014000000000000

abbrev pub unit : ℕ
unit = 0x3ff0000000000000

abbrev pub three_quarters : ℕ
three_quarters = 0x3fe8000000000000

abbrev pub half : ℕ
half = 0x3fe0000000000000

abbrev pub quarter : ℕ
quarter = 0x3fd0000000000000

abbrev pub eighth : ℕ
eighth = 0x3fc0000000000000

abbrev pub thirty_second : ℕ
thirty_second = 0x3fa0000000000000

abbrev pub sixty_fourth : ℕ
sixty_fourth = 0x3f90000000000000

abbrev pub two_to_minus_9 : ℕ
two_to_minus_9 = 0x3f60000000000000

abbrev pub two_to_minus_10 : ℕ
two_to_minus_10 = 0x3f50000000000000

abbrev pub two_to_minus_52 : ℕ
two_to_minus_52 = 0x3cb0000000000000

abbrev pub two_to_minus_53 : ℕ
two_to_minus_53 = 0x3ca0000000000000

abbrev pub two_to_minus_54 : ℕ
two_to_minus_54 = 0x3c90000000000000
