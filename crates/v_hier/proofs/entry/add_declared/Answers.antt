use Rattle.std.proofs.Common.{◌∙◌, ap, ◌++◌, ◌∷◌, map}
use Rattle.verilog_meaning.specs.Hierarchy.{item_declarations}
use Rattle.v_syntax.specs.declared.module.Wire.{Wire}
use Rattle.v_syntax.specs.declared.module.Variable.{Variable}
use Rattle.v_syntax.specs.Source.{port_of, optional_range_of, item_of}
use Rattle.v_hier.specs.Entries.{entries_of, declaration_entries}
use Rattle.v_hier.proofs.Declared.{put-before, port-entries, wire-entries, variable-entries, wire-names, variable-names}
use Rattle.v_hier.proofs.entry.add_declared.Goals as goal

pub returns-in_ok-add_port-in-Port : goal.returns-in_ok-add_port-in-Port
returns-in_ok-add_port-in-Port c = λ rest.
    ap (λ i. entries_of c.args.entries.now.items ++ declaration_entries (item_declarations (item_of i ∷ rest))) c.in-Port.is
    ∙ put-before _ _ _ _ _ c.in_ok-add_port-in-Port.ensures (port-entries (port_of c.in-Port.port) (port_of c.in-Port.port).names (item_declarations rest))

pub returns-in_ok-add_wires-in-Wires : goal.returns-in_ok-add_wires-in-Wires
returns-in_ok-add_wires-in-Wires c = λ rest.
    ap (λ i. entries_of c.args.entries.now.items ++ declaration_entries (item_declarations (item_of i ∷ rest))) c.in-Wires.is
    ∙ put-before _ _ _ _ _ c.in_ok-add_wires-in-Wires.ensures
    (wire-entries c.in-Wires.field-0 (optional_range_of c.in-Wires.field-1) _ _ (ap (λ ws. map (λ (w : Wire). w.name.now) ws) c.deref.ensures.value ∙ wire-names c.in-Wires.wires.items) (item_declarations rest))

pub returns-in_ok-add_variables-in-Variables : goal.returns-in_ok-add_variables-in-Variables
returns-in_ok-add_variables-in-Variables c = λ rest.
    ap (λ i. entries_of c.args.entries.now.items ++ declaration_entries (item_declarations (item_of i ∷ rest))) c.in-Variables.is
    ∙ put-before _ _ _ _ _ c.in_ok-add_variables-in-Variables.ensures
    (variable-entries c.in-Variables.field-0 (optional_range_of c.in-Variables.field-1) _ _ (ap (λ vs. map (λ (v : Variable). v.name.now) vs) c.deref-in-Variables.ensures.value ∙ variable-names c.in-Variables.variables.items) (item_declarations rest))
