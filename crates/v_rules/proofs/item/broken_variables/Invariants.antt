use Rattle.std.proofs.Common.{◌≡◌, drop, map}
use Rattle.v_value.specs.Scope.{scope_at}
use Rattle.v_rules.specs.Judging.{none}
use Rattle.v_syntax.specs.Source.{optional_range_of}
use Rattle.v_rules.specs.Items.{variables_from}
use Rattle.v_rules.proofs.item.broken_variables.Given as goal

abbrev pub invariant-loop-variable : goal.invariant-loop-variable
invariant-loop-variable l = variables_from (scope_at l.names.scope.now) none (map (λ v. (v.name.now, optional_range_of v.addresses)) l.variables) ≡ variables_from (scope_at l.names.scope.now) l.all (map (λ v. (v.name.now, optional_range_of v.addresses)) (drop l.variable-index l.variables))
