use Rattle.std.proofs.Common.{◌≡◌, ◌++◌, drop, map}
use Rattle.verilog_meaning.specs.Hierarchy.{port_declarations}
use Rattle.v_syntax.specs.Source.{port_of}
use Rattle.v_value.specs.Scope.{scope_at}
use Rattle.v_scopes.specs.Rows.{rows, rows_of}
use Rattle.v_scopes.proofs.row.add_ports.Given as goal

abbrev pub invariant-loop-port : goal.invariant-loop-port
invariant-loop-port l =
    rows_of l.list.items ++ rows (scope_at l.constants.scope.now) (port_declarations (map port_of (drop l.port-index l.ports)))
    ≡ rows_of l.initial.list.items ++ rows (scope_at l.constants.scope.now) (port_declarations (map port_of l.ports))
