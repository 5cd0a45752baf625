use Rattle.std.specs.Prelude.{List}
use Rattle.formulas.specs.declared.node.Node.{Node}
use Rattle.grammar.specs.declared.tree.Tree.{Tree}

-- The nodes of a tree.
abbrev pub front : Tree → List Node
front t = t.nodes.items
