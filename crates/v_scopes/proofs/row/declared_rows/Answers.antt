use Rattle.std.proofs.Common.{ap, ◌∙◌, ◌++◌, map, sym, List, []}
use Rattle.verilog_meaning.specs.Hierarchy.{port_declarations, header_ports, item_declarations}
use Rattle.v_syntax.specs.Source.{ports_of, item_of}
use Rattle.v_value.specs.Scope.{scope_at}
use Rattle.v_scopes.specs.declared.row.Declared.{Declared}
use Rattle.v_scopes.specs.Rows.{rows, rows_of}
use Rattle.v_scopes.proofs.Listed.{two_parts, rows-append}
use Rattle.v_scopes.proofs.row.declared_rows.Goals as goal

pub returns : goal.returns
returns c =
    let s = scope_at c.args.constants.scope.now in
    let ports = port_declarations (header_ports (ports_of c.args.within.now.ports)) in
    let own = item_declarations (map item_of c.args.within.now.items.items) in
    two_parts [] _ _ _ _ _ (c.in_ok-add_header.ensures ∙ ap (λ (ds : List Declared). rows_of ds ++ rows s ports) c.new-all.ensures.items) c.in_ok-add_items.ensures
    (rows-append s ports own ∙ ap (λ is. rows s ports ++ rows s (item_declarations (map item_of is))) (sym c.deref.ensures.value))
