use Rattle.std.proofs.Common.{◌∙◌, ap, sym, subst}
use Rattle.verilog_meaning.specs.Expression.{scope_of}
use Rattle.v_value.specs.Scope.{objects_of, object_of}
use Rattle.v_value.specs.Narrow.{HasNarrowObjects}
use Rattle.v_constants.proofs.Narrow.{more_narrow, objects_append}
use Rattle.v_constants.proofs.constants.with_object.Goals as goal

pub invariant_of-result : goal.invariant_of-result
invariant_of-result c =
    record {
      narrow = subst (λ es. HasNarrowObjects (scope_of es)) (sym (ap objects_of c.in_ok-scope.ensures ∙ objects_append c.args.before.scope.declarations.items _))
          (more_narrow (objects_of c.args.before.scope.declarations.items) c.args.name.now (object_of c.args.object) c.args.before.narrow c.requires);
    }

pub returns : goal.returns
returns c = ap objects_of c.in_ok-scope.ensures ∙ objects_append c.args.before.scope.declarations.items _
