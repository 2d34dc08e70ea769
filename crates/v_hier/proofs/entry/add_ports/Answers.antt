use Rattle.std.proofs.Common.{map, List, arith}
use Rattle.wb_values.specs.Value.{Name}
use Rattle.verilog_meaning.specs.Hierarchy.{port_declarations}
use Rattle.v_syntax.specs.declared.module.PortDeclaration.{PortDeclaration}
use Rattle.v_syntax.specs.Source.{port_of}
use Rattle.v_hier.specs.declared.entry.Tag.{Tag}
use Rattle.v_hier.specs.Entries.{entries_of, declaration_entries, port_tag, tagged}
use Rattle.v_hier.proofs.Declared.{entries-more, port-entries}
use Rattle.v_hier.proofs.entry.add_ports.Goals as goal

abbrev all : List PortDeclaration → List (Name × Tag)
all ps = declaration_entries (port_declarations (map port_of ps))

abbrev part : PortDeclaration → List (Name × Tag)
part p = tagged (port_tag (port_of p).kind) (port_of p).names

pub loop-port-preserved : goal.loop-port-preserved
loop-port-preserved c =
    entries-more all part (λ p ps. port-entries (port_of p) (port_of p).names (port_declarations (map port_of ps)))
    c.args.ports.now c.loop-port.port-index c.port-item.result (entries_of c.loop-port.entries.items) (entries_of c.add_port.new.entries.items) _ (omega arith) c.port-item.is
    c.in_ok-add_port.ensures c.loop-port.invariant
