-- Chains of operators over the lists of their links. (The trees themselves are nested.)
use Rattle.std.specs.Prelude.{List, [], ◌∷◌}
use Rattle.v_syntax.specs.declared.tree.BinaryLink.{BinaryLink}
use Rattle.v_syntax.specs.declared.tree.TestLink.{TestLink}
use Rattle.v_syntax.specs.declared.tree.Choice.{Choice}
use Rattle.verilog_trees.specs.Syntax as pure
use Rattle.verilog_trees.specs.Syntax.{conditional}
use Rattle.v_syntax.specs.Tree.{tree_of, combined, tested}

-- the tree of links behind an operand
abbrev pub linked : List BinaryLink → pure.Expression → pure.Expression
linked [] x = x
linked (l ∷ ls) x = linked ls (combined l.operator x (tree_of l.operand))

abbrev pub test_linked : List TestLink → pure.Expression → pure.Expression
test_linked [] x = x
test_linked (l ∷ ls) x = test_linked ls (tested l.operator x (tree_of l.operand))

-- the tree of conditions with values before a last value
abbrev pub chosen : List Choice → pure.Expression → pure.Expression
chosen [] y = y
chosen (c ∷ cs) y = conditional (tree_of c.condition) (tree_of c.value) (chosen cs y)
