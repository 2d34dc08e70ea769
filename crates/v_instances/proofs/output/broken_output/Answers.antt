use Rattle.std.proofs.Common.{◌∙◌, sym}
use Rattle.v_value.specs.Scope.{scope_at}
use Rattle.v_syntax.specs.Tree.{tree_of}
use Rattle.v_instances.proofs.Written.{output-target, output-other}
use Rattle.v_instances.proofs.output.broken_output.Goals as goal

pub returns-in-Some : goal.returns-in-Some
returns-in-Some c = c.in_net.ensures ∙ output-target (scope_at c.args.names.scope.now) (tree_of c.args.expression.now) c.in-Some.target (sym c.found_in.ensures ∙ c.in-Some.is)

pub returns-in-None : goal.returns-in-None
returns-in-None c = c.broken_in.ensures ∙ output-other (scope_at c.args.names.scope.now) (tree_of c.args.expression.now) (sym c.found_in.ensures ∙ c.in-None.is)
