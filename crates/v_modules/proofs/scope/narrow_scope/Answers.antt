use Rattle.std.proofs.Common.{ap, ◌∙◌, ◌++◌}
use Rattle.v_value.specs.Scope.{objects_of, scope_at}
use Rattle.v_scopes.specs.Rows.{rows_of, objects_by}
use Rattle.v_modules.specs.Combined.{narrowed}
use Rattle.v_modules.proofs.scope.narrow_scope.Goals as goal

pub returns : goal.returns
returns c =
    ap objects_of c.in_ok-scope.ensures
    ∙ (c.in_ok-add_narrowed.ensures
    ∙ ap (λ ds. objects_of ds ++ objects_by (λ n. narrowed (scope_at c.args.names.now n)) (rows_of c.args.declared.now))
    (c.in_ok-add_constants.ensures ∙ (ap (λ xs. xs ++ c.declarations.result.now) c.new-list.ensures.items ∙ c.declarations.ensures)))
