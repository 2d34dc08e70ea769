-- Trees that fit words in every scope.
use Rattle.verilog_meaning.specs.Expression.{Scope}
use Rattle.v_syntax.specs.declared.tree.Expression.{Expression}
use Rattle.v_syntax.specs.declared.tree.Statement.{Statement}
use Rattle.v_syntax.specs.Tree.{tree_of, statement_of}
use Rattle.v_value.specs.Narrow.{IsNarrow, HasNarrowObjects}
use Rattle.v_statement.specs.Statements.{IsNarrowStatement}

abbrev pub IsSmall : Expression → Type 0
IsSmall e = (s : Scope) → IsNarrow s (tree_of e)

abbrev pub IsSmallStatement : Statement → Type 0
IsSmallStatement x = (s : Scope) → HasNarrowObjects s → IsNarrowStatement s (statement_of x)
