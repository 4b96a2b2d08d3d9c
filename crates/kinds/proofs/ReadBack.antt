-- A case that is written by its fields says these fields, each at its whole width: `small_fields_back`, `count_back`, `dossier_back`, `patterns_back`.
use mathlib.Core.Path.{◌≡◌, refl, ◌∙◌}
use mathlib.Core.List.{List}
use Prim.Native.Nat.{ℕ, ◌^◌, ◌<◌}
use native.Mathlib.Nat.{mod-eq_of_lt}
use Rattle.octets.specs.Bytes.{bytes_of, number_of, number_at}
use Rattle.octets.proofs.Numbers.{number_of_bytes_of}
use Rattle.kinds.specs.Case.{kind_of, row_of, route_of, user_of, count_of, dossier_of, pattern_at}
use Rattle.kinds.specs.Builder.{case_bytes}

number_back : (k x : ℕ) → x < 256 ^ k → number_of (bytes_of k x) ≡ x
number_back k x h = number_of_bytes_of k x ∙ mod-eq_of_lt h

module _ (kind row route user t dossier a b c d e f : ℕ) where
  abbrev case : List ℕ
  case = case_bytes kind row route user t dossier a b c d e f

  pub small_fields_back : (kind_of case ≡ kind) × (row_of case ≡ row) × (route_of case ≡ route) × (user_of case ≡ user)
  unfolding case_bytes
  small_fields_back = (refl, refl, refl, refl)

  pub count_back : t < 256 ^ 4 → count_of case ≡ t
  unfolding case_bytes number_at bytes_of
  count_back h = number_back 4 t h

  pub dossier_back : dossier < 256 ^ 8 → dossier_of case ≡ dossier
  unfolding case_bytes number_at bytes_of
  dossier_back h = number_back 8 dossier h

  pub patterns_back : (a < 256 ^ 8 → pattern_at case 0 ≡ a) × (b < 256 ^ 8 → pattern_at case 1 ≡ b) × (c < 256 ^ 8 → pattern_at case 2 ≡ c)
      × (d < 256 ^ 8 → pattern_at case 3 ≡ d) × (e < 256 ^ 8 → pattern_at case 4 ≡ e) × (f < 256 ^ 8 → pattern_at case 5 ≡ f)
  unfolding case_bytes number_at bytes_of
  patterns_back = (number_back 8 a, number_back 8 b, number_back 8 c, number_back 8 d, number_back 8 e, number_back 8 f)
