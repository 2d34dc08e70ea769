use Rattle.std.proofs.Common.{◌≡◌, drop}
use Rattle.std.specs.Prelude.{not}
use Rattle.v_hier.specs.Tables.{has_name}
use Rattle.v_scopes.specs.Rows.{rows_of}
use Rattle.v_ports.specs.Ports.{some_port_is}
use Rattle.v_ports.proofs.ports.lacks_port.Given as goal

abbrev pub invariant-loop-row : goal.invariant-loop-row
invariant-loop-row l =
    some_port_is (λ n. not (has_name l.listed n)) (rows_of l.declared) ≡ some_port_is (λ n. not (has_name l.listed n)) (rows_of (drop l.row-index l.declared))
