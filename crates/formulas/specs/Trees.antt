use Rattle.std.specs.Prelude.{◌≡◌, ℕ, ◌+◌, ◌-◌, ◌<◌, Bool, List, [], ◌∷◌, ◌++◌, length, slice_index_or}
use Rattle.formulas.specs.declared.unary.Unary.{Unary}
use Rattle.formulas.specs.declared.binary.Binary.{Binary}
use Rattle.formulas.specs.declared.word.Word.TheVariants.{Prefix, Infix}
use Rattle.formulas.specs.declared.node.Node.{Node}
use Rattle.formulas.specs.declared.node.Node.TheVariants as node
use Rattle.formulas.specs.Formulas.{Formula, name, constant, unary, binary, temporal, one, nodes, promises}

-- The nodes of a formula in their order, operands before their operator, where n nodes and b temporal operators stand before it; the last is its root.
abbrev pub laid : ℕ → ℕ → Formula → List Node
laid n b (name m) = node.Name m ∷ []
laid n b (constant c) = node.Constant c ∷ []
laid n b (unary o f) = laid n (b + one temporal (Prefix o)) f ++ node.Prefix o b (n + nodes f - 1) ∷ []
laid n b (binary o f g) =
    laid n b f
    ++ (laid (n + nodes f) (b + promises f + one temporal (Infix o)) g
    ++ node.Infix o (b + promises f) (n + nodes f - 1) (n + nodes f + nodes g - 1) ∷ [])

-- The node x stands at the index i.
abbrev pub At : List Node → ℕ → Node → Type 0
At ns i x = (i < length ns) × (slice_index_or ns i x ≡ x)

-- The node at i is the root of the formula f; every operand stands before its operator, and b temporal operators stand before f in the text.
pub data Rooted (ns : List Node) : ℕ → ℕ → Formula → Type 0 where
  a_name : {i b n : ℕ} → At ns i (node.Name n) → Rooted ns i b (name n)
  a_constant : {i b : ℕ} {c : Bool} → At ns i (node.Constant c) → Rooted ns i b (constant c)
  a_prefix : {i b j : ℕ} {o : Unary} {f : Formula} → At ns i (node.Prefix o b j) → j < i → Rooted ns j (b + one temporal (Prefix o)) f → Rooted ns i b (unary o f)
  an_infix : {i b j k : ℕ} {o : Binary} {f g : Formula} → At ns i (node.Infix o (b + promises f) j k) → j < i → k < i → Rooted ns j b f → Rooted ns k (b + promises f + one temporal (Infix o)) g → Rooted ns i b (binary o f g)

-- Some formula is rooted at the node.
abbrev pub Standing : List Node → ℕ → Type 0
Standing ns i = ∥ ((b : ℕ) × (f : Formula) × Rooted ns i b f) ∥₁

-- The formula of a node, from those of the nodes before it.
abbrev pub made : Node → List Formula → Formula
made (node.Name n) fs = name n
made (node.Constant c) fs = constant c
made (node.Prefix o b i) fs = unary o (slice_index_or fs i (name 0))
made (node.Infix o b i j) fs = binary o (slice_index_or fs i (name 0)) (slice_index_or fs j (name 0))

-- The formulas of the nodes, in their order, after those that are done.
abbrev pub formulas : List Node → List Formula → List Formula
formulas [] done = done
formulas (x ∷ xs) done = formulas xs (done ++ made x done ∷ [])

-- The formula of the node at an index.
unfoldable pub formula_at : List Node → ℕ → Formula
formula_at ns i = slice_index_or (formulas ns []) i (name 0)
