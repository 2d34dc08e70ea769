use Rattle.std.proofs.Common.{arith}
use Rattle.v_syntax.specs.Tree.{tree_of}
use Rattle.v_value.specs.Scope.{scope_at}
use Rattle.v_paths.specs.Cases.{has_number}
use Rattle.v_paths.proofs.Labels.{too-wide, all-values, items-within}
use Rattle.v_paths.proofs.full.has_all_values.Goals as goal

pub values_of-requires-clause-within : goal.values_of-requires-clause-within
values_of-requires-clause-within c =
    items-within (scope_at c.args.scope.now) (tree_of c.args.value.now) c.args.items.now c.case_context-context.result.width c.case_context-context.ensures.width

pub returns-then-context-gt8 : goal.returns-then-context-gt8
returns-then-context-gt8 c =
    too-wide (scope_at c.args.scope.now) (tree_of c.args.value.now) c.args.items.now c.case_context-context.result.width c.case_context-context.result.signed
    c.case_context-context.ensures.width c.case_context-context.ensures.signed (omega arith)

pub returns : goal.returns
returns c =
    all-values (scope_at c.args.scope.now) (tree_of c.args.value.now) c.args.items.now c.case_context-context.result.width c.case_context-context.result.signed
    c.case_context-context.ensures.width c.case_context-context.ensures.signed (has_number c.in_ok-values.values) _ _ c.in_ok-values.ensures (omega arith) c.count_of.ensures c.has_all_below.ensures
