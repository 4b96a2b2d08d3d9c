-- The place of a shown record in the archive, for a caller who takes no slice: offset of its first byte, and length.
-- Beside a refusal both are 0. That the bytes at this place are the part that show hands out stands in the contract.
use Rattle.std.specs.Prelude.{List, ℕ, ◌*◌}
use Rattle.records.specs.Layout.{record_size}
use Rattle.archive.specs.Conditions.{accepted}
use Rattle.archive.specs.Archive.{show_refusal}

unfoldable pub start_shown : List ℕ → ℕ → ℕ → ℕ
start_shown b u k = accepted (show_refusal b u k) (record_size * k) 0

unfoldable pub length_shown : List ℕ → ℕ → ℕ → ℕ
length_shown b u k = accepted (show_refusal b u k) record_size 0
