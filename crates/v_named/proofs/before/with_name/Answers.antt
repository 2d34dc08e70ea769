use Rattle.std.proofs.Common.{◌∙◌, ◌||◌, ap, sym, subst}
use Rattle.wb_values.specs.Value.{same_name}
use Rattle.verilog_meaning.specs.Expression.{scope_of}
use Rattle.v_value.specs.Scope.{objects_of, object_of, scope_at}
use Rattle.v_value.specs.Narrow.{IsNarrowObject, HasNarrowObjects}
use Rattle.v_named.specs.Before.{IsBefore}
use Rattle.v_named.proofs.Earlier.{objects_append, more_narrow, one_more}
use Rattle.v_named.proofs.before.with_name.Goals as goal

pub invariant_of-result : goal.invariant_of-result
invariant_of-result c =
    record {
      narrow = subst (λ es. HasNarrowObjects (scope_of es)) (sym (ap objects_of c.in_ok-scope.ensures ∙ objects_append c.args.before.scope.declarations.items _))
          (more_narrow (objects_of c.args.before.scope.declarations.items) c.args.name.now (object_of c.object-object.result) c.args.before.narrow
          (subst IsNarrowObject (sym c.object-object.ensures) (c.args.constants.narrow c.args.name.now)));
    }

pub returns : goal.returns
returns c = λ b h.
    subst (λ es. IsBefore es (scope_at c.args.constants.scope.now) (λ n. same_name c.args.name.now n || b n)) (sym (ap objects_of c.in_ok-scope.ensures ∙ objects_append c.args.before.scope.declarations.items _))
    (one_more (objects_of c.args.before.scope.declarations.items) (scope_at c.args.constants.scope.now) b c.args.name.now (object_of c.object-object.result) c.object-object.ensures h)
