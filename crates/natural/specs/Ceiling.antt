-- A quotient rounded up.
use Rattle.std.specs.Prelude.{ℕ, ◌+◌, ◌-◌, ◌/◌}

-- the least whole number that is not below n over q, where q is not 0
unfoldable pub ceiling : ℕ → ℕ → ℕ
ceiling n q = (n + (q - 1)) / q
