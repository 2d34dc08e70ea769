use Rattle.std.proofs.Common.{◌≡◌, ◌++◌, List, map, drop}
use Rattle.verilog_registers.specs.Order.{Member}
use Rattle.v_syntax.specs.Source.{port_of}
use Rattle.v_hier.specs.Tables.{has_name}
use Rattle.v_ordered.specs.Membership.{with_new, header_nets}
use Rattle.v_ordered.proofs.members.add_header.Given as goal

abbrev pub invariant-loop-port : goal.invariant-loop-port
invariant-loop-port l =
    (rest : List Member) → with_new l.initial.members (header_nets (has_name l.variables) (map port_of l.ports) ++ rest)
    ≡ with_new l.members (header_nets (has_name l.variables) (map port_of (drop l.port-index l.ports)) ++ rest)
