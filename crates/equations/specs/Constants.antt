-- What a table of folded constants is to satisfy: each row's constant stands for all the numbers of that row's equation.
use Rattle.std.specs.Prelude.{Bool, true, ◌&&◌, List, [], ◌∷◌, ℕ, suc, ◌*◌, ◌^◌, leb, eqb}
use Rattle.product.specs.Ratio.{Ratio, ◌over◌, ◌·◌}
use Rattle.product.specs.Chain.{Factor, number, quantity, less}
use Rattle.equations.specs.Equations.{microgram}

-- the numbers of a chain, multiplied
unfoldable pub numbers : List Factor → Ratio
numbers [] = 1 over 1
numbers (number n d ∷ l) = n over d · numbers l
numbers (quantity x ∷ l) = numbers l
numbers (less x ∷ l) = numbers l

-- k over d has the value of the chain's numbers in micrograms, whose lower number is not 0
abbrev pub folds : ℕ → ℕ → List Factor → Bool
folds k d l =
    let q = microgram · numbers l in
    leb 1 q.lower && eqb (k * q.lower) (q.upper * d)

abbrev pub folds_all : ℕ → ℕ → List (List Factor) → Bool
folds_all k d [] = true
folds_all k d (l ∷ ls) = folds k d l && folds_all k d ls

-- the constants ks over d are those of the rows from i on, and at most 2 ^ 45, so that a product with one fits
unfoldable pub folded_from : (ℕ → List (List Factor)) → ℕ → ℕ → List ℕ → Bool
folded_from equation d i [] = true
folded_from equation d i (k ∷ ks) = (leb k (2 ^ 45) && folds_all k d (equation i)) && folded_from equation d (suc i) ks
