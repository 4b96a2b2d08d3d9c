-- A history in plain numbers: requests on a buffer of 496 bytes, which holds five records, and what the ledger answers: `worked_history_lem`.
-- What archive it leaves, byte by byte: `worked_archive_lem`.
-- P1, P2, P8 and P10 are the pencil cases of paper 01, P8 with 1/8 tonne; the figures fed are those that work out gives: `worked_fed`.
use Rattle.std.specs.Prelude.{List, [], ◌∷◌, ◌++◌, ℕ}
use Rattle.kinds.specs.Builder.{case_bytes, hundred, unit, half, quarter, eighth, sixty_fourth}
use Rattle.archive.specs.Offers.{offer}
use Rattle.archive.specs.Answers.{Answer, emptied, filed, shown, named}
use Rattle.history.specs.Ledger.{Request, empty, file, show, worst}

pub record Told : Type 0 where
  pub call : Request
  pub answer : Answer

infix 3 ◌tells◌
abbrev pub ◌tells◌ : Request → Answer → Told
c tells a = record { call = c; answer = a }

-- P1 with a dossier number and b; P2 by route 2; P8 with 1/8 tonne, T, fractions to air and to soil
abbrev sanitary : ℕ → ℕ → List ℕ
sanitary dossier b = case_bytes 4 1 1 0 0 dossier hundred b unit 0 0 0

abbrev rain : List ℕ
rain = case_bytes 2 3 2 0 0 7 sixty_fourth 0 unit 0 0 0

abbrev formulation : ℕ → ℕ → ℕ → ℕ → List ℕ
formulation t dossier air soil = case_bytes 5 0 1 0 t dossier eighth eighth half air soil 0

-- kind 8: LDPE by a process, half of it active, a quarter to air and an eighth to water
abbrev plastics : ℕ → List ℕ
plastics process = case_bytes 8 1 1 process 250 7 half quarter eighth 0 0 0

abbrev four : ℕ → ℕ → ℕ → ℕ → List ℕ
four s w a g = s ∷ w ∷ a ∷ g ∷ []

-- P1's record with a dossier number under 256, byte by byte
abbrev pub record_with : ℕ → List ℕ
record_with dossier =
    4 ∷ 1 ∷ 1 ∷ 0 ∷ 0 ∷ 0 ∷ 0 ∷ 0 ∷ dossier ∷ 0 ∷ 0 ∷ 0 ∷ 0 ∷ 0 ∷ 0 ∷ 0
    ∷ 0 ∷ 0 ∷ 0 ∷ 0 ∷ 0 ∷ 0 ∷ 0x59 ∷ 0x40 ∷ 0 ∷ 0 ∷ 0 ∷ 0 ∷ 0 ∷ 0 ∷ 0 ∷ 0
    ∷ 0 ∷ 0 ∷ 0 ∷ 0 ∷ 0 ∷ 0 ∷ 0xf0 ∷ 0x3f ∷ 0 ∷ 0 ∷ 0 ∷ 0 ∷ 0 ∷ 0 ∷ 0 ∷ 0
    ∷ 0 ∷ 0 ∷ 0 ∷ 0 ∷ 0 ∷ 0 ∷ 0 ∷ 0 ∷ 0 ∷ 0 ∷ 0 ∷ 0 ∷ 0 ∷ 0 ∷ 0 ∷ 0
    ∷ 0xc5 ∷ 0xc0 ∷ 0x95 ∷ 0x04 ∷ 0 ∷ 0 ∷ 0 ∷ 0 ∷ 0 ∷ 0 ∷ 0 ∷ 0 ∷ 0 ∷ 0 ∷ 0 ∷ 0
    ∷ 0 ∷ 0 ∷ 0 ∷ 0 ∷ 0 ∷ 0 ∷ 0 ∷ 0 ∷ 0 ∷ 0 ∷ 0 ∷ 0 ∷ 0 ∷ 0 ∷ 0 ∷ 0 ∷ []

unfoldable pub worked_history : List Told
worked_history =
    (empty tells emptied 0 16)
    -- nothing is held
    ∷ (show 0 tells shown 24 [])
    ∷ (worst 1 tells named 24 0)
    -- no compartment is told before no record
    ∷ (worst 5 tells named 12 0)
    ∷ (file (offer (sanitary 7 0)) (four 76923077 0 0 0) tells filed 0 0 112)
    -- what is no case is told so, whatever figures come with it
    ∷ (file (offer []) (9 ∷ []) tells filed 1 0 112)
    -- P10: another b is the same filing
    ∷ (file (offer (sanitary 7 unit)) (four 0 0 0 0) tells filed 22 0 112)
    -- a dossier number of 2 ^ 32 more is another filing
    ∷ (file (offer (sanitary 4294967303 0)) (four 76923077 0 0 0) tells filed 0 1 208)
    ∷ (file (offer (sanitary 0 0)) (four 0 0 0 0) tells filed 7 0 208)
    ∷ (file (offer (formulation 250 7 quarter eighth)) (four 31250000 0 15625000 7812500) tells filed 0 2 304)
    -- another T is the same filing
    ∷ (file (offer (formulation 125 7 quarter eighth)) (four 62500000 0 31250000 15625000) tells filed 22 0 304)
    ∷ (file (offer (formulation 250 8 eighth quarter)) (four 31250000 0 7812500 15625000) tells filed 0 3 400)
    ∷ (file (offer rain) (four 0 1498287672 0 0) tells filed 0 4 496)
    -- full; what is held is told before that, and what is out of range before both
    ∷ (file (offer (sanitary 9 0)) (four 76923077 0 0 0) tells filed 23 0 496)
    ∷ (file (offer (sanitary 7 0)) (four 76923077 0 0 0) tells filed 22 0 496)
    ∷ (file (offer (sanitary 0 0)) (four 0 0 0 0) tells filed 7 0 496)
    ∷ (show 0 tells shown 0 (record_with 7))
    ∷ (show 5 tells shown 24 [])
    -- STP: the first of two equals; each compartment names another record
    ∷ (worst 1 tells named 0 0)
    ∷ (worst 2 tells named 0 4)
    ∷ (worst 3 tells named 0 2)
    ∷ (worst 4 tells named 0 3)
    ∷ (worst 0 tells named 12 0)
    ∷ (worst 5 tells named 12 0)
    ∷ (empty tells emptied 0 16)
    -- kind 8: without a usage for the process, and with one; another process is another filing
    ∷ (file (offer (plastics 1)) (four 0 0 0 0) tells filed 31 0 16)
    ∷ (file (offer (plastics 3)) (four 132000000000 0 264000000000 0) tells filed 0 0 112)
    ∷ (file (offer (plastics 2)) (four 5775000000000 0 11550000000000 0) tells filed 0 1 208)
    ∷ (worst 3 tells named 0 1)
    ∷ (empty tells emptied 0 16)
    ∷ (show 0 tells shown 24 [])
    ∷ (file (offer (sanitary 7 0)) (four 76923077 0 0 0) tells filed 0 0 112)
    ∷ (file (offer (sanitary 9 0)) (four 76923077 0 0 0) tells filed 0 1 208)
    -- another record than the first
    ∷ (show 1 tells shown 0 (record_with 9))
    ∷ (show 2 tells shown 24 [])
    ∷ []

-- The archive that it leaves, byte by byte: two records, and a trailer that points 192 bytes back, counts 2 and is of edition 1.
abbrev pub worked_archive : List ℕ
worked_archive = record_with 7 ++ record_with 9 ++ (192 ∷ 0 ∷ 0 ∷ 0 ∷ 0 ∷ 0 ∷ 0 ∷ 0 ∷ 2 ∷ 0 ∷ 0 ∷ 0 ∷ 1 ∷ 0 ∷ 0 ∷ 0 ∷ [])
