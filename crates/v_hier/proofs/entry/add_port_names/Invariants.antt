use Rattle.std.proofs.Common.{◌≡◌, ◌++◌, drop, map}
use Rattle.verilog_meaning.specs.Settled.{names_of, declared_ports}
use Rattle.v_syntax.specs.Source.{port_of}
use Rattle.v_hier.specs.declared.entry.Tag.TheVariants.{Other}
use Rattle.v_hier.specs.Entries.{entries_of, tagged}
use Rattle.v_hier.proofs.entry.add_port_names.Given as goal

abbrev pub invariant-loop-port : goal.invariant-loop-port
invariant-loop-port l =
    entries_of l.entries.items ++ tagged Other (names_of (declared_ports (map port_of (drop l.port-index l.ports)))) ≡ entries_of l.initial.entries.items ++ tagged Other (names_of (declared_ports (map port_of l.ports)))
