use Rattle.std.specs.Prelude.{ℕ, cond, List, [], ◌∷◌, ◌==◌}
use Rattle.std.specs.List.{onto_first}
use Rattle.lines.specs.declared.walk.Lines.{Lines}

-- The lines of a text, each without the line feed (10) that ends it.
unfoldable pub lines_of : List ℕ → List (List ℕ)
lines_of [] = []
lines_of (b ∷ bs) = cond (b == 10) ([] ∷ lines_of bs) (onto_first b (lines_of bs))

-- The lines that are still to come.
abbrev pub lines_left : Lines → List (List ℕ)
lines_left s = lines_of s.rest.now
