-- What a case of 64 bytes says: its kind with that kind's quantities, its row, route, user, T and dossier number.
-- Paper 01, 'A form for each place': "A case is an enum over kinds; each case carries that kind's f64 quantities".
use Rattle.std.specs.Prelude.{cond, List, [], ◌∷◌, ℕ, eqb, Float, get_or, Result, Ok, Err}
use Rattle.std.specs.Float.{nan}
use Rattle.kinds.specs.declared.refusal.Refusal.{Refusal}
use Rattle.kinds.specs.Number.{number, refusal_at}
use Rattle.kinds.specs.Case.{kind_of, row_of, route_of, user_of, count_of, dossier_of, pattern_at, of_six, quantity_of, refusal_of}
use Rattle.scenario.specs.declared.Site.{Site}
use Rattle.scenario.specs.declared.Case.{Case}
use Rattle.scenario.specs.declared.Case.TheVariants.{Measured, Unknown, Application, Sanitary, Formulation, Hygiene, Toilets, Plastics}
use Rattle.scenario.specs.declared.Head.{Head}
use Rattle.scenario.specs.declared.Accepted.{Accepted}

-- in row 0 a city's case brings its own site (kind 1 its area alone); what it does not list is zero
abbrev pub site_with : Float → Float → Float → Site
site_with d e f = record { area = d; volume = e; density = f }

-- the case of a kind, with its own of the six quantities
unfoldable pub case_with : ℕ → Float → Float → Float → Float → Float → Float → Case
case_with k a b c d e f =
    cond (eqb k 1) (Measured a b c (site_with d e f))
    (cond (eqb k 2) (Unknown a c (site_with d e f))
    (cond (eqb k 3) (Application a (site_with d e f))
    (cond (eqb k 4) (Sanitary a b c)
    (cond (eqb k 5) (Formulation a b c d e)
    (cond (eqb k 6) (Hygiene a b d e f)
    (cond (eqb k 7) (Toilets a b c d e)
    (Plastics a b c)))))))

-- of a list of them
abbrev pub case_of_six : ℕ → List Float → Case
case_of_six k q =
    let x : ℕ → Float = (λ i. get_or q i nan) in
    case_with k (x 0) (x 1) (x 2) (x 3) (x 4) (x 5)

-- of the patterns p of a to f
unfoldable pub case_of_patterns : ℕ → (ℕ → ℕ) → Case
case_of_patterns k p = case_with k (quantity_of (p 0)) (quantity_of (p 1)) (quantity_of (p 2)) (quantity_of (p 3)) (quantity_of (p 4)) (quantity_of (p 5))

abbrev pub case_of : List ℕ → Case
case_of b = case_of_patterns (kind_of b) (pattern_at b)

unfoldable pub head_of : List ℕ → Head
head_of b = record { row = row_of b; route = route_of b; user = user_of b; count = count_of b; dossier = dossier_of b }

-- what `decode` answers
unfoldable pub decoded : List ℕ → Result Accepted Refusal
decoded b = cond (eqb (refusal_of b) 0) (Ok (record { head = head_of b; case = case_of b })) (Err (refusal_at (refusal_of b)))

-- ── what its answer says in the paper's numbers

abbrev pub kind_in : Case → ℕ
kind_in (Measured a b c s) = 1
kind_in (Unknown a c s) = 2
kind_in (Application a s) = 3
kind_in (Sanitary a b c) = 4
kind_in (Formulation a b c d e) = 5
kind_in (Hygiene a b d e f) = 6
kind_in (Toilets a b c d e) = 7
kind_in (Plastics a b c) = 8

-- what stands for a quantity that the kind does not carry
abbrev pub nought : Float
nought = quantity_of 0

-- a to f
abbrev pub quantities_in : Case → List Float
quantities_in (Measured a b c s) = a ∷ b ∷ c ∷ s.area ∷ s.volume ∷ s.density ∷ []
quantities_in (Unknown a c s) = a ∷ nought ∷ c ∷ s.area ∷ s.volume ∷ s.density ∷ []
quantities_in (Application a s) = a ∷ nought ∷ nought ∷ s.area ∷ s.volume ∷ s.density ∷ []
quantities_in (Sanitary a b c) = a ∷ b ∷ c ∷ nought ∷ nought ∷ nought ∷ []
quantities_in (Formulation a b c d e) = a ∷ b ∷ c ∷ d ∷ e ∷ nought ∷ []
quantities_in (Hygiene a b d e f) = a ∷ b ∷ nought ∷ d ∷ e ∷ f ∷ []
quantities_in (Toilets a b c d e) = a ∷ b ∷ c ∷ d ∷ e ∷ nought ∷ []
quantities_in (Plastics a b c) = a ∷ b ∷ c ∷ nought ∷ nought ∷ nought ∷ []

-- The refusal, 0 where the case is accepted; kind, row, route, user, T and dossier number; the quantities a to f. Beside a refusal there are no fields and no quantities.
pub record Said : Type 0 where
  pub refusal : ℕ
  pub fields : List ℕ
  pub quantities : List Float

abbrev pub of_decoded : Result Accepted Refusal → Said
of_decoded (Ok a) = let h = a.head in record { refusal = 0; fields = kind_in a.case ∷ h.row ∷ h.route ∷ h.user ∷ h.count ∷ h.dossier ∷ []; quantities = quantities_in a.case }
of_decoded (Err r) = record { refusal = number r; fields = []; quantities = [] }

-- what the bytes of a case say
unfoldable pub said : List ℕ → Said
said b = record {
  refusal = refusal_of b;
  fields = cond (eqb (refusal_of b) 0) (kind_of b ∷ row_of b ∷ route_of b ∷ user_of b ∷ count_of b ∷ dossier_of b ∷ []) [];
  quantities = cond (eqb (refusal_of b) 0) (of_six (λ i. quantity_of (pattern_at b i))) [];
}
