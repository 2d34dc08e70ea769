use Rattle.std.proofs.Common.{sym, ◌∙◌, true}
use Rattle.v_syntax.specs.Tree.{tree_of}
use Rattle.v_hier.proofs.Mentions.{read-expression, read-then, read-stop}
use Rattle.v_hier.proofs.reading.is_value_known.Goals as goal

pub returns-then-not-is_expression_known : goal.returns-then-not-is_expression_known
returns-then-not-is_expression_known c =
    read-stop c.args.names.now c.args.names.now c.args.names.now _ _
    (read-expression c.args.names.now (tree_of c.args.value.now.value) _ (sym c.if-not-is_expression_known.true ∙ c.is_expression_known.ensures))

pub returns : goal.returns
returns c =
    read-then c.args.names.now c.args.names.now c.declare.new.names _ _ true
    (read-expression c.args.names.now (tree_of c.args.value.now.value) _ (sym c.if-not-is_expression_known.false ∙ c.is_expression_known.ensures)) c.in_ok-declare.ensures
