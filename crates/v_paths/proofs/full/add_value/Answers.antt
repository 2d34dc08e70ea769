use Rattle.v_syntax.specs.Tree.{tree_of}
use Rattle.v_value.specs.Scope.{scope_at}
use Rattle.v_paths.specs.Cases.{has_number}
use Rattle.v_paths.proofs.Labels.{passed-over, value-added}
use Rattle.v_paths.proofs.full.add_value.Goals as goal

pub returns-then-not-is_constant : goal.returns-then-not-is_constant
returns-then-not-is_constant c = λ x.
    passed-over (scope_at c.args.scope.now) c.args.context.width c.args.context.signed x (tree_of c.args.label.now) c.is_constant.result (has_number c.args.values.now x)
    c.is_constant.ensures c.if-not-is_constant.true

pub returns : goal.returns
returns c =
    value-added (scope_at c.args.scope.now) c.args.context.width c.args.context.signed c.args.values.now c.insert.new.self (tree_of c.args.label.now) c.is_constant.result c.value_in_context-value.result
    c.is_constant.ensures c.if-not-is_constant.false c.value_in_context-value.ensures.value c.in_ok-insert.ensures.updates
