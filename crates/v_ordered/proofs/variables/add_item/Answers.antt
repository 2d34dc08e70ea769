use Rattle.std.proofs.Common.{◌∙◌, ◌∷◌, [], ap, map}
use Rattle.verilog_meaning.specs.Hierarchy.{item_declarations}
use Rattle.verilog_registers.specs.Order.{is_variable_among}
use Rattle.v_hier.specs.Tables.{has_name}
use Rattle.v_syntax.specs.Source.{port_of, boxed_tree_of, optional_range_of, item_of}
use Rattle.v_ordered.proofs.Texts.{kept, no_port_item, no_wires_item}
use Rattle.v_ordered.proofs.variables.add_item.Goals as goal

pub returns-in-Port : goal.returns-in-Port
returns-in-Port c = λ q.
    kept (has_name c.args.names.now q) _
    (ap (λ i. is_variable_among (item_declarations (item_of i ∷ [])) q) c.in-Port.is ∙ no_port_item (port_of c.in-Port.field-0) q)

pub returns-in-Wires : goal.returns-in-Wires
returns-in-Wires c = λ q.
    kept (has_name c.args.names.now q) _
    (ap (λ i. is_variable_among (item_declarations (item_of i ∷ [])) q) c.in-Wires.is
    ∙ no_wires_item c.in-Wires.field-0 (optional_range_of c.in-Wires.field-1) (map (λ w. (w.name.now, boxed_tree_of w.value)) c.in-Wires.field-2.items) q)
