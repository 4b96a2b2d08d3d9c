-- A record exported for the fate model: its four figures as loads, from the bytes b of the lent archive, a used length u and a number k.
-- Request No. 1: "export a whole record of an archive, by number, as four such loads in figure order, 32 bytes; it runs 21 and 24 as show does, and a refusal gives 32 zero bytes".
-- The refusals are show's own, `show_refusals` in archive/specs/Archive.
use Rattle.std.specs.Prelude.{List, [], ◌∷◌, ◌++◌, ℕ, ◌+◌, ◌*◌, ◌<◌, replicate, Result, Ok, Err}
use Rattle.octets.specs.Bytes.{number_at}
use Rattle.load.specs.Load.{LoadWithin, load_bytes}
use Rattle.kinds.specs.declared.refusal.Refusal.{Refusal}
use Rattle.records.specs.Layout.{record_size}
use Rattle.archive.specs.Conditions.{accepted}
use Rattle.archive.specs.Archive.{show_refusal, show_part, record_figures}

-- one load behind another
unfoldable pub loads_of : List ℕ → List ℕ
loads_of [] = []
loads_of (f ∷ fs) = load_bytes f ++ loads_of fs

-- those of the figures in what show hands out; beside a refusal zeros
unfoldable pub export_bytes : List ℕ → ℕ → ℕ → List ℕ
export_bytes b u k = accepted (show_refusal b u k) (loads_of (record_figures (show_part b u k))) (replicate 32 0)

-- the bytes that a result stands for: zeros beside a refusal
abbrev pub loads_in : Result (List ℕ) Refusal → List ℕ
loads_in (Ok loads) = loads
loads_in (Err r) = replicate 32 0

-- ── by values

-- figure i, from 0, of record k: a number of 8 bytes in the archive
abbrev pub figure_in : List ℕ → ℕ → ℕ → ℕ
figure_in b k i = number_at b (record_size * k + (64 + 8 * i)) 8

-- the pattern of load i, from 0, of those exported
abbrev pub pattern_in : List ℕ → ℕ → ℕ
pattern_in loads i = number_at loads (8 * i) 8

-- each is the load of its record's figure, and so never below it and at most one part in 2 ^ 52 above
abbrev pub EachWithin : List ℕ → ℕ → List ℕ → Type 0
EachWithin b k loads = (i : ℕ) → i < 4 → LoadWithin (figure_in b k i) (pattern_in loads i)
