use Rattle.std.proofs.Common.{ap, ◌∙◌, ◌++◌, map, Bor, List, ℕ}
use Rattle.v_value.specs.Scope.{scope_at}
use Rattle.v_scopes.specs.Rows.{rows_of}
use Rattle.v_scopes.proofs.Listed.{port-rows}
use Rattle.v_scopes.proofs.row.add_port.Goals as goal

pub returns : goal.returns
returns c =
    c.in_ok-add_names.ensures
    ∙ ap (λ xs. rows_of c.args.list.now.items ++ xs)
    (port-rows (scope_at c.args.constants.scope.now) c.args.port.now c.port_form-form.result _ _ c.port_form-form.ensures.direction c.port_form-form.ensures.kind c.port_form-form.ensures.signed
    c.port_form-form.ensures.range (ap (λ ns. map (λ (n : Bor (List ℕ)). n.now) ns) c.deref.ensures.value))
