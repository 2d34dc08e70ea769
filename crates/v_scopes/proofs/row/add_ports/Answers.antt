use Rattle.std.proofs.Common.{map, arith}
use Rattle.verilog_meaning.specs.Hierarchy.{each_port, port_declarations}
use Rattle.v_syntax.specs.Source.{port_of}
use Rattle.v_value.specs.Scope.{scope_at}
use Rattle.v_scopes.specs.Rows.{rows, rows_of}
use Rattle.v_scopes.proofs.Listed.{rows-append, entries_more}
use Rattle.v_scopes.proofs.row.add_ports.Goals as goal

pub loop-port-preserved : goal.loop-port-preserved
loop-port-preserved c =
    let s = scope_at c.args.constants.scope.now in
    entries_more (λ ps. rows s (port_declarations (map port_of ps))) (λ p. rows s (each_port (port_of p) (port_of p).names))
    (λ p ps. rows-append s (each_port (port_of p) (port_of p).names) (port_declarations (map port_of ps)))
    c.args.ports.now c.loop-port.port-index c.port-item.result (rows_of c.loop-port.list.items) (rows_of c.add_port.new.list.items) _ (omega arith) c.port-item.is
    c.in_ok-add_port.ensures c.loop-port.invariant
