-- What the calls of this crate and the ledger of `history` both judge by: what a refusal leaves of a result, free space, the compartments.
-- Paper 01, 'From the input, in this order', 'From the state, after those, in this order'.
use Rattle.std.specs.Prelude.{Bool, ◌||◌, ℕ, zero, suc, ◌-◌, ltb, eqb}
use Rattle.records.specs.Layout.{most_records, record_size}

-- what a call gives: a where there is no refusal, the number 0, and otherwise b
abbrev pub accepted {ℓ} : {A : Type ℓ} → ℕ → A → A → A
accepted zero a b = a
accepted (suc r) a b = b

-- Refusal 23 of a filing, "fewer than 96 bytes beyond the used length, or n = 1,000,000"; free space, the paper's term, is that it does not hold. `full_exactly` says it of plain numbers.
unfoldable pub full : ℕ → ℕ → ℕ → Bool
full size used n = ltb (size - used) record_size || eqb n most_records

-- refusal 12: a compartment that is not 1 to 4
abbrev pub not_compartment : ℕ → Bool
not_compartment m = ltb m 1 || ltb 4 m
