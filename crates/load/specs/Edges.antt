-- Loads worked by pencil, in plain numbers: a figure, its load in micrograms, and the pattern of that.
use Rattle.std.specs.Prelude.{List, [], ◌∷◌, ℕ}

pub record Edge : Type 0 where
  pub figure : ℕ
  pub load : ℕ
  pub pattern : ℕ

infix 5 ◌gives◌written◌
abbrev pub ◌gives◌written◌ : ℕ → ℕ → ℕ → Edge
n gives v written b = record { figure = n; load = v; pattern = b }

abbrev pub edges : List Edge
edges =
    -- exact
    (0 gives 0 written 0)
    ∷ (1 gives 1 written 0x3ff0000000000000)
    ∷ (2 gives 2 written 0x4000000000000000)
    ∷ (3 gives 3 written 0x4008000000000000)
    ∷ (76923077 gives 76923077 written 0x4192570314000000)
    ∷ (9007199254740991 gives 9007199254740991 written 0x433fffffffffffff)
    -- 2 ^ 53 and behind it: every second number
    ∷ (9007199254740992 gives 9007199254740992 written 0x4340000000000000)
    ∷ (9007199254740993 gives 9007199254740994 written 0x4340000000000001)
    ∷ (9007199254740994 gives 9007199254740994 written 0x4340000000000001)
    ∷ (9007199254740995 gives 9007199254740996 written 0x4340000000000002)
    -- behind 2 ^ 54 every fourth: one above, the middle, which the nearest would round down, and one below
    ∷ (18014398509481985 gives 18014398509481988 written 0x4350000000000001)
    ∷ (18014398509481986 gives 18014398509481988 written 0x4350000000000001)
    ∷ (18014398509481987 gives 18014398509481988 written 0x4350000000000001)
    -- 10 ^ 18, which no figure of a case is above, and the next number
    ∷ (1000000000000000000 gives 1000000000000000000 written 0x43abc16d674ec800)
    ∷ (1000000000000000001 gives 1000000000000000128 written 0x43abc16d674ec801)
    -- 2 ^ 63: a carry out of the significand, exact, the next
    ∷ (9223372036854775807 gives 9223372036854775808 written 0x43e0000000000000)
    ∷ (9223372036854775808 gives 9223372036854775808 written 0x43e0000000000000)
    ∷ (9223372036854775809 gives 9223372036854777856 written 0x43e0000000000001)
    -- the last binary64 below 2 ^ 64, the number behind it, and 2 ^ 64 - 1
    ∷ (18446744073709549568 gives 18446744073709549568 written 0x43efffffffffffff)
    ∷ (18446744073709549569 gives 18446744073709551616 written 0x43f0000000000000)
    ∷ (18446744073709551615 gives 18446744073709551616 written 0x43f0000000000000)
    ∷ []
