use Rattle.std.proofs.Common.{◌≡◌, ◌++◌, drop, map}
use Rattle.verilog_meaning.specs.Hierarchy.{port_declarations}
use Rattle.v_syntax.specs.Source.{port_of}
use Rattle.v_hier.specs.Entries.{entries_of, declaration_entries}
use Rattle.v_hier.proofs.entry.add_ports.Given as goal

abbrev pub invariant-loop-port : goal.invariant-loop-port
invariant-loop-port l =
    entries_of l.entries.items ++ declaration_entries (port_declarations (map port_of (drop l.port-index l.ports))) ≡ entries_of l.initial.entries.items ++ declaration_entries (port_declarations (map port_of l.ports))
