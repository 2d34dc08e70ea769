use Rattle.std.proofs.Common.{map, ap, sym, ◌∙◌, ◌++◌}
use Rattle.verilog_meaning.specs.Hierarchy.{port_declarations, header_ports, item_declarations}
use Rattle.v_syntax.specs.Source.{ports_of, item_of}
use Rattle.v_hier.specs.Entries.{declaration_entries}
use Rattle.v_hier.proofs.Declared.{two-parts, declared-append}
use Rattle.v_hier.proofs.entry.add_nets.Goals as goal

pub returns : goal.returns
returns c =
    let ports = port_declarations (header_ports (ports_of c.args.within.now.ports)) in
    two-parts _ _ _ _ _ _ c.in_ok-add_header.ensures c.in_ok-add_all_declared.ensures
    (declared-append ports (item_declarations (map item_of c.args.within.now.items.items))
    ∙ ap (λ is. declaration_entries ports ++ declaration_entries (item_declarations (map item_of is))) (sym c.deref.ensures.value))
