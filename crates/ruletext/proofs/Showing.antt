-- What is shown of a node that is read, and where its operands stand.
use Rattle.std.proofs.Common.{◌≡◌, ℕ, ◌<◌, List, [], ◌∷◌, ◌++◌, length, get_or, codes, refl, ap, append_assoc, length-append}
use Rattle.formulas.specs.declared.node.Node.{Node}
use Rattle.formulas.specs.declared.node.Node.TheVariants.{Name, Constant, Prefix, Infix}
use Rattle.formulas.specs.Signs.{unary_sign, binary_sign}
use Rattle.formulas.specs.Trees.{At, Standing, formula_at}
use Rattle.formulas.proofs.Roots.{read_node, name_formula, constant_formula, prefix_formula, infix_formula, prefix_below, prefix_stands, left_below, left_stands, right_below, right_stands}
use Rattle.ruletext.specs.Shown.{spelling, digit, shown}

-- What is shown of a node, by what is shown of its operands.
abbrev pub shown_of : (ns : List Node) (count : ℕ) (names : ℕ → List ℕ) → Node → List ℕ
shown_of ns count names (Name n) = spelling count names n
shown_of ns count names (Constant b) = digit b
shown_of ns count names (Prefix o b j) = codes "(" ++ ((unary_sign o ∷ []) ++ (codes " " ++ (shown count names (formula_at ns j) ++ codes ")")))
shown_of ns count names (Infix o b j k) =
    codes "(" ++ (shown count names (formula_at ns j) ++ (codes " " ++ ((binary_sign o ∷ []) ++ (codes " " ++ (shown count names (formula_at ns k) ++ codes ")")))))

-- The operands of a node at i stand below it.
abbrev pub Operands : (ns : List Node) (i : ℕ) → Node → Type 0
Operands ns i (Name n) = Unit
Operands ns i (Constant b) = Unit
Operands ns i (Prefix o b j) = (j < i) × Standing ns j
Operands ns i (Infix o b j k) = (j < i) × Standing ns j × (k < i) × Standing ns k

module _ (ns : List Node) (i : ℕ) (s : Standing ns i) where
  operands_of : (x : Node) → At ns i x → Operands ns i x
  operands_of (Name n) h = tt
  operands_of (Constant b) h = tt
  operands_of (Prefix o b j) h = (prefix_below ns i o b j h s, prefix_stands ns i o b j h s)
  operands_of (Infix o b j k) h = (left_below ns i o b j k h s, left_stands ns i o b j k h s, right_below ns i o b j k h s, right_stands ns i o b j k h s)

  shown_as : (count : ℕ) (names : ℕ → List ℕ) (x : Node) → At ns i x → shown count names (formula_at ns i) ≡ shown_of ns count names x
  shown_as count names (Name n) h = ap (shown count names) (name_formula ns i n h)
  shown_as count names (Constant b) h = ap (shown count names) (constant_formula ns i b h)
  shown_as count names (Prefix o b j) h = ap (shown count names) (prefix_formula ns i o b j h (prefix_below ns i o b j h s))
  shown_as count names (Infix o b j k) h = ap (shown count names) (infix_formula ns i o b j k h (left_below ns i o b j k h s) (right_below ns i o b j k h s))

pub operands : (ns : List Node) (i : ℕ) → i < length ns → Standing ns i → Operands ns i (get_or ns i (Name 0))
operands ns i inside s = operands_of ns i s _ (read_node ns i (Name 0) _ inside refl)

pub shown_here : (ns : List Node) (i count : ℕ) (names : ℕ → List ℕ) → i < length ns → Standing ns i → shown count names (formula_at ns i) ≡ shown_of ns count names (get_or ns i (Name 0))
shown_here ns i count names inside s = shown_as ns i s count names _ (read_node ns i (Name 0) _ inside refl)

pub ruleset showing = (shown_here, operands, append_assoc, length-append)
