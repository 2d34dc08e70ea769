use Rattle.std.proofs.Common.{ap, ◌∙◌, ◌++◌}
use Rattle.v_value.specs.Scope.{objects_of}
use Rattle.v_scopes.specs.Rows.{rows_of, objects_by}
use Rattle.v_scopes.specs.Scopes.{scope_in}
use Rattle.v_scopes.proofs.Objects.{whole_so}
use Rattle.v_scopes.proofs.scope.placed_scope.Goals as goal

pub returns : goal.returns
returns c = λ m e.
    whole_so m (objects_of c.args.constants.now.declarations.items) (rows_of c.args.names.now.declared.items) (objects_of c.in_ok-scope.scope.declarations.items) e
    (ap objects_of c.in_ok-scope.ensures
    ∙ (c.in_ok-add_objects.ensures
    ∙ (ap (λ ds. objects_of c.add_declarations.new.list.items ++ objects_by (scope_in c.args.names.now) (rows_of ds)) c.deref.ensures.value
    ∙ ap (λ ds. objects_of ds ++ objects_by (scope_in c.args.names.now) (rows_of c.args.names.now.declared.items))
    (c.in_ok-add_declarations.ensures ∙ (ap (λ xs. xs ++ c.declarations.result.now) c.new-list.ensures.items ∙ c.declarations.ensures)))))
