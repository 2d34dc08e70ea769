use Rattle.std.proofs.Common.{ap, sym, ◌∙◌, ◌++◌, append_assoc}
use Rattle.v_hier.specs.Tables.{has_name}
use Rattle.v_value.specs.Scope.{objects_of, scope_at}
use Rattle.v_scopes.specs.Rows.{rows_of, objects_by}
use Rattle.v_modules.specs.Combined.{narrowed, nets_by}
use Rattle.v_modules.proofs.Nets.{constants-added}
use Rattle.v_modules.proofs.scope.net_scope.Goals as goal

pub returns : goal.returns
returns c =
    let s = scope_at c.args.names.now in
    let others = objects_by (λ n. narrowed (s n)) (rows_of c.args.declared.now) in
    let nets = nets_by (has_name c.args.parameters.now) s (rows_of c.args.declared.now) in
    let constants = c.args.constants.now.declarations.items in
    ap objects_of c.in_ok-scope.ensures
    ∙ (c.in_ok-add_narrowed.ensures
    ∙ (ap (λ xs. xs ++ others)
    (constants-added c.add_nets.new.list.items c.add_constants.new.list.items c.declarations.result.now c.in_ok-add_constants.ensures
    ∙ (ap (λ cs. objects_of c.add_nets.new.list.items ++ objects_of cs) c.declarations.ensures
    ∙ ap (λ xs. xs ++ objects_of constants) (c.in_ok-add_nets.ensures ∙ ap (λ xs. objects_of xs ++ nets) c.new-list.ensures.items)))
    ∙ append_assoc nets (objects_of constants) others))
