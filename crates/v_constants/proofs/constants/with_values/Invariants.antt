use Rattle.std.proofs.Common.{◌≡◌, drop, map}
use Rattle.v_syntax.specs.declared.module.ParameterValue.{ParameterValue}
use Rattle.v_syntax.specs.Tree.{tree_of}
use Rattle.v_value.specs.Scope.{objects_of}
use Rattle.v_constants.specs.Given.{given_at}
use Rattle.v_constants.specs.Values.{values_by}
use Rattle.v_constants.proofs.constants.with_values.Given as goal

abbrev pub invariant-loop-value : goal.invariant-loop-value
invariant-loop-value l =
    values_by l.form.is_local l.form.signed l.form.range (given_at l.given) (map (λ (v : ParameterValue). (v.name.now, tree_of v.value)) (drop l.value-index l.values)) (objects_of l.known.scope.declarations.items)
    ≡ values_by l.form.is_local l.form.signed l.form.range (given_at l.given) (map (λ (v : ParameterValue). (v.name.now, tree_of v.value)) l.values) (objects_of l.initial.known.scope.declarations.items)
