use Rattle.std.proofs.Common.{◌≡◌, drop, map}
use Rattle.v_value.specs.Scope.{scope_at}
use Rattle.v_syntax.specs.Tree.{tree_of}
use Rattle.v_instances.specs.Outputs.{none}
use Rattle.v_instances.specs.Parameters.{values_from}
use Rattle.v_instances.proofs.parameter.broken_values.Given as goal

abbrev pub invariant-loop-value : goal.invariant-loop-value
invariant-loop-value l = values_from (scope_at l.names.scope.now) l.width none (map (λ v. (v.name.now, tree_of v.value)) l.values) ≡ values_from (scope_at l.names.scope.now) l.width l.all (map (λ v. (v.name.now, tree_of v.value)) (drop l.value-index l.values))
