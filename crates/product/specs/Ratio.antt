-- Exact values as fractions (paper 01, 'A case, 64 bytes'): upper over lower, where lower is not 0.
-- That it is not, of the values that the figures come from, is a theorem of crate emission (`lower_not_zero`).
use Rattle.std.specs.Prelude.{◌≡◌, ℕ, ◌+◌, ◌-◌, ◌*◌, min, Float}
use Rattle.std.specs.Float.{binary64}
use Rattle.std.specs.Float.Ieee.{to_bits}
use Rattle.natural.specs.Ceiling.{ceiling}
use Rattle.binary64.specs.Quantity.{whole, one}

pub record Ratio : Type 0 where
  pub upper : ℕ
  pub lower : ℕ

infix 72 ◌over◌
infixl 70 ◌·◌
infixl 65 ◌⊕◌
abbrev pub ◌over◌ : ℕ → ℕ → Ratio
n over d = record { upper = n; lower = d }

abbrev pub ◌·◌ : Ratio → Ratio → Ratio
p · q = (p.upper * q.upper) over (p.lower * q.lower)

abbrev pub ◌⊕◌ : Ratio → Ratio → Ratio
p ⊕ q = (p.upper * q.lower + q.upper * p.lower) over (p.lower * q.lower)

-- 1 less a value of at most 1
abbrev pub one_less : Ratio → Ratio
one_less p = (p.lower - p.upper) over p.lower

-- the value that a binary64 stands for: 2 ^ 1074 is below
abbrev pub exactly : Float → Ratio
exactly x = whole (to_bits binary64 x) over one

-- equal in value: each upper number times the other lower one
abbrev pub Same : Ratio → Ratio → Type 0
Same p q = p.upper * q.lower ≡ q.upper * p.lower

-- the least whole number that is not below
abbrev pub rounded_up : Ratio → ℕ
rounded_up p = ceiling p.upper p.lower

-- the same in a u64: its largest where that is smaller
abbrev pub rounded_u64 : Ratio → ℕ
rounded_u64 p = min 18446744073709551615 (rounded_up p)
