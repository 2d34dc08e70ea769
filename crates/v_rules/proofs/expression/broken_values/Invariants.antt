use Rattle.std.proofs.Common.{◌≡◌, drop}
use Rattle.v_value.specs.Scope.{scope_at}
use Rattle.v_syntax.specs.Tree.{case_kind_of}
use Rattle.v_rules.specs.Judging.{none, values_from}
use Rattle.v_rules.proofs.expression.broken_values.Given as goal

abbrev pub invariant-loop-value : goal.invariant-loop-value
invariant-loop-value l = values_from (scope_at l.names.scope.now) (case_kind_of l.kind) none l.values ≡ values_from (scope_at l.names.scope.now) (case_kind_of l.kind) l.all (drop l.value-index l.values)
