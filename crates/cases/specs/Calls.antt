-- What a line leaves: the buffer, the size of the archive in it, and the used length.
use Rattle.std.specs.Prelude.{Bool, ◌&&◌, cond, List, [], ◌∷◌, ◌++◌, ℕ, zero, suc, ◌+◌, ◌*◌, ◌/◌, ltb, leb, eqb, length, take, drop, set, replicate, codes, Option, None, Some}
use Rattle.kinds.specs.Builder.{case_bytes}
use Rattle.records.specs.Layout.{Line, line_of}
use Rattle.records.specs.Buffer.{written}
use Rattle.archive.specs.Offers.{offer}
use Rattle.archive.specs.Answers.{of_emptied, of_filing, used_in}
use Rattle.archive.specs.Archive.{emptying, empty_bytes, filing, file_bytes}
use Rattle.cases.specs.declared.calls.Call.{Call}
use Rattle.cases.specs.declared.calls.Call.TheVariants.{Empty, Used, Fill, File, Record, Tear, Show, Worst, Listing, WorkOut, Load, Export}
use Rattle.cases.specs.declared.fields.Fields.{Fields}
use Rattle.cases.specs.declared.state.State as declared
use Rattle.cases.specs.Words.{index_of, words_of, named_in}
use Rattle.cases.specs.Fields.{blank, with_fields, case_in}

abbrev pub call_named : List ℕ → Option Call
call_named name =
    named_in name
    ((codes "empty", Empty)
    ∷ (codes "used", Used)
    ∷ (codes "fill", Fill)
    ∷ (codes "file", File)
    ∷ (codes "record", Record)
    ∷ (codes "tear", Tear)
    ∷ (codes "show", Show)
    ∷ (codes "worst", Worst)
    ∷ (codes "list", Listing)
    ∷ (codes "work-out", WorkOut)
    ∷ (codes "load", Load)
    ∷ (codes "export", Export)
    ∷ [])

-- ── records put behind those that there are, whatever they hold

-- up to 682 of them, where there is room
abbrev pub has_room : ℕ → ℕ → Bool
has_room size u = leb (u / 96) 682 && leb (96 * (u / 96) + 112) size

abbrev pub recorded_length : ℕ → ℕ → ℕ
recorded_length size u = cond (has_room size u) (u + 96) u

abbrev pub recorded_bytes : List ℕ → ℕ → List ℕ → List ℕ
recorded_bytes b u r = cond (has_room (length b) u) (written b (u / 96) (line_of r)) b

-- ── records with dossier numbers and figures that grow

unfoldable pub grown : ℕ → Line
grown k = record { case = case_bytes 4 1 1 0 0 (7 * k + 1) 0 0 0 0 0 0; figures = (1000 * k) ∷ (1000 * k + 1) ∷ k ∷ 0 ∷ [] }

-- the first n of them
abbrev pub filled : ℕ → List ℕ → List ℕ
filled zero b = b
filled (suc n) b = written (filled n b) n (grown n)

-- up to 683 of them, where there is room
abbrev pub holds : ℕ → ℕ → Bool
holds size n = leb n 683 && leb (96 * n + 16) size

abbrev pub filled_length : ℕ → ℕ → ℕ
filled_length size n = cond (holds size n) (96 * n + 16) 0

abbrev pub filled_bytes : ℕ → List ℕ → List ℕ
filled_bytes n b = cond (holds (length b) n) (filled n b) b

-- ── the calls

-- The used length after a call with its fields, on an archive b with used length u: of empty, used, fill, file and record; the others leave it.
abbrev pub used_after : Call → Fields → List ℕ → ℕ → ℕ
used_after Empty f b u = used_in (of_emptied (emptying b)).places 0
used_after Used f b u = f.number
used_after Fill f b u = filled_length (length b) f.number
used_after File f b u = used_in (of_filing (filing b u (offer (case_in f))) u).places u
used_after Record f b u = recorded_length (length b) u
used_after _ f b u = u

-- another byte at a place
abbrev pub torn : ℕ → List ℕ → List ℕ
torn at b = cond (ltb at (length b)) (set b at 97) b

-- the archive after it: of empty, fill, file, record and tear
abbrev pub bytes_after : Call → Fields → List ℕ → ℕ → List ℕ
bytes_after Empty f b u = empty_bytes b
bytes_after Fill f b u = filled_bytes f.number b
bytes_after File f b u = file_bytes b u (offer (case_in f))
bytes_after Record f b u = recorded_bytes b u f.bytes
bytes_after Tear f b u = torn f.number b
bytes_after _ f b u = b

-- the buffer, how many bytes of it are the archive, and how many of these are used
pub record State : Type 0 where
  pub buffer : List ℕ
  pub size : ℕ
  pub used : ℕ

-- what the program's state holds, whose buffer is lent
abbrev pub held : declared.State → State
held s = record { buffer = s.buffer.now; size = s.size; used = s.used }

-- at first the buffer is sevens, and none of it the archive
abbrev pub started : State
started = record { buffer = replicate 65584 7; size = 0; used = 0 }

-- empty says how many bytes of the buffer are the archive from then on
abbrev pub size_after : Call → Fields → ℕ → ℕ
size_after Empty f size = f.number
size_after _ f size = size

-- the archive stands in front in the buffer, which may have fewer bytes than its size
abbrev pub state_after : Call → Fields → State → State
state_after k f s =
    let size = size_after k f s.size in
    record { buffer = bytes_after k f (take size s.buffer) s.used ++ drop size s.buffer; size = size; used = used_after k f (take size s.buffer) s.used }

-- ── a text: the call's name up to the first space, and words behind it

abbrev pub call_in : List ℕ → Option Call
call_in text = call_named (take (index_of 32 text) text)

abbrev pub fields_in : List ℕ → Option Fields
fields_in text = with_fields (words_of (drop (index_of 32 text + 1) text)) blank

-- Words that are no fields leave everything, as does a name that is no call's.
abbrev pub called : Option Fields → Option Call → State → State
called None k s = s
called (Some f) None s = s
called (Some f) (Some k) s = state_after k f s

abbrev pub state_by : List ℕ → State → State
state_by text s = called (fields_in text) (call_in text) s

-- ── a line: the text, and behind # a label; a comment begins with #

abbrev pub state_on : List ℕ → State → State
state_on line s = cond (eqb (index_of 35 line) 0) s (state_by (take (index_of 35 line) line) s)

-- ── lines, one after another

abbrev pub state_of : List (List ℕ) → State → State
state_of [] s = s
state_of (l ∷ ls) s = state_of ls (state_on l s)
