use Rattle.std.proofs.Common.{◌∙◌, map}
use Rattle.v_syntax.specs.Source.{parameter_of}
use Rattle.v_syntax.specs.declared.module.ParameterValue.{ParameterValue}
use Rattle.v_syntax.specs.Tree.{tree_of}
use Rattle.v_value.specs.Scope.{objects_of}
use Rattle.v_constants.specs.Given.{given_at}
use Rattle.v_constants.specs.Values.{values_by}
use Rattle.v_constants.proofs.Ranges.{values_so}
use Rattle.v_constants.proofs.constants.with_declaration.Goals as goal

pub returns : goal.returns
returns c =
    let known = objects_of c.args.before.scope.declarations.items in
    let given = given_at c.args.given.now in
    let d = parameter_of c.args.declaration.now in
    c.in_ok-known.ensures
    ∙ (λ i. values_by (c.form_of-form.ensures.is_local i) (c.form_of-form.ensures.signed i) (c.form_of-form.ensures.range i) given (map (λ (v : ParameterValue). (v.name.now, tree_of v.value)) (c.deref.ensures.value i)) known)
    ∙ values_so d given known
