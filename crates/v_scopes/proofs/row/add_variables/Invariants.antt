use Rattle.std.proofs.Common.{◌≡◌, ◌++◌, drop, map}
use Rattle.v_syntax.specs.declared.module.Variable.{Variable}
use Rattle.v_syntax.specs.Source.{optional_range_of}
use Rattle.v_value.specs.Scope.{scope_at}
use Rattle.v_scopes.specs.Rows.{rows_of, placed}
use Rattle.v_scopes.proofs.row.add_variables.Given as goal

abbrev pub invariant-loop-variable : goal.invariant-loop-variable
invariant-loop-variable l =
    rows_of l.list.items ++ placed (scope_at l.constants.scope.now) l.form (map (λ (v : Variable). (v.name.now, optional_range_of v.addresses)) (drop l.variable-index l.variables))
    ≡ rows_of l.initial.list.items ++ placed (scope_at l.constants.scope.now) l.form (map (λ (v : Variable). (v.name.now, optional_range_of v.addresses)) l.variables)
