use Rattle.std.specs.Prelude.{ℕ, Bool, true, false, cond, List, [], ◌∷◌, ◌++◌, codes, nat_lt}
use Rattle.formulas.specs.Signs.{unary_sign, binary_sign}
use Rattle.formulas.specs.Formulas.{Formula, name, constant, unary, binary}

-- The letters of a name; a number past the names is shown as ?.
abbrev pub spelling : ℕ → (ℕ → List ℕ) → ℕ → List ℕ
spelling count names n = cond (nat_lt n count) (names n) (codes "?")

abbrev pub digit : Bool → List ℕ
digit true = codes "1"
digit false = codes "0"

-- A formula with every operator in brackets with its operands: `(G (num > (X dig)))`.
abbrev pub shown : ℕ → (ℕ → List ℕ) → Formula → List ℕ
shown count names (name n) = spelling count names n
shown count names (constant b) = digit b
shown count names (unary o f) = codes "(" ++ ((unary_sign o ∷ []) ++ (codes " " ++ (shown count names f ++ codes ")")))
shown count names (binary o f g) = codes "(" ++ (shown count names f ++ (codes " " ++ ((binary_sign o ∷ []) ++ (codes " " ++ (shown count names g ++ codes ")")))))
