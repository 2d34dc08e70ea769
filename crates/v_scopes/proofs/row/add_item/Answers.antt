use Rattle.std.proofs.Common.{ap, ◌∙◌, ◌++◌, ◌∷◌, map, sym}
use Rattle.verilog_meaning.specs.Hierarchy.{each_port, wire_declarations, variable_declarations, item_declarations}
use Rattle.v_syntax.specs.declared.module.Wire.{Wire}
use Rattle.v_syntax.specs.declared.module.Variable.{Variable}
use Rattle.v_syntax.specs.Source.{boxed_tree_of, optional_range_of, port_of, item_of}
use Rattle.v_value.specs.Scope.{scope_at}
use Rattle.v_scopes.specs.Rows.{rows, rows_of}
use Rattle.v_scopes.proofs.Listed.{put_before, rows-append, before_others, wire-rows, variable-rows}
use Rattle.v_scopes.proofs.row.add_item.Goals as goal

pub returns-in_ok-add_port-in-Port : goal.returns-in_ok-add_port-in-Port
returns-in_ok-add_port-in-Port c = λ rest.
    let s = scope_at c.args.constants.scope.now in
    ap (λ i. rows_of c.args.list.now.items ++ rows s (item_declarations (item_of i ∷ rest))) c.in-Port.is
    ∙ put_before _ _ _ _ _ c.in_ok-add_port-in-Port.ensures (rows-append s (each_port (port_of c.in-Port.port) (port_of c.in-Port.port).names) (item_declarations rest))

pub returns-in_ok-add_wires-in-Wires : goal.returns-in_ok-add_wires-in-Wires
returns-in_ok-add_wires-in-Wires c = λ rest.
    let s = scope_at c.args.constants.scope.now in
    ap (λ i. rows_of c.args.list.now.items ++ rows s (item_declarations (item_of i ∷ rest))) c.in-Wires.is
    ∙ put_before _ _ _ _ _ c.in_ok-add_wires-in-Wires.ensures
    (before_others s _ (wire_declarations c.in-Wires.signed (optional_range_of c.in-Wires.range) (map (λ (w : Wire). (w.name.now, boxed_tree_of w.value)) c.in-Wires.wires.items)) (item_declarations rest)
    (wire-rows s c.in-Wires.signed (optional_range_of c.in-Wires.range) _ c.in-Wires.wires.items _ c.net_form-form.ensures c.deref.ensures.value))

pub returns-in_ok-add_variables-in-Variables : goal.returns-in_ok-add_variables-in-Variables
returns-in_ok-add_variables-in-Variables c = λ rest.
    let s = scope_at c.args.constants.scope.now in
    ap (λ i. rows_of c.args.list.now.items ++ rows s (item_declarations (item_of i ∷ rest))) c.in-Variables.is
    ∙ put_before _ _ _ _ _ c.in_ok-add_variables-in-Variables.ensures
    (before_others s _ (variable_declarations c.in-Variables.signed (optional_range_of c.in-Variables.range) (map (λ (v : Variable). (v.name.now, optional_range_of v.addresses)) c.in-Variables.variables.items)) (item_declarations rest)
    (variable-rows s c.in-Variables.signed (optional_range_of c.in-Variables.range) _ (map (λ (v : Variable). (v.name.now, optional_range_of v.addresses)) c.in-Variables.variables.items) _ c.net_form-form-in-Variables.ensures
    (ap (λ vs. map (λ (v : Variable). (v.name.now, optional_range_of v.addresses)) vs) c.deref-in-Variables.ensures.value)))
