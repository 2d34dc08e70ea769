use Rattle.v_syntax.specs.Tree.{statement_of}
use Rattle.emitted_names.proofs.Turns.{pushed_view}
use Rattle.emitted_trees.proofs.statements.with_statement.Goals as goal

pub returns : goal.returns
returns c = pushed_view statement_of c.args.statements.items _ c.args.statement c.in_ok-all.ensures
