use Rattle.std.proofs.Common.{◌≡◌, ◌++◌, List, map, drop}
use Rattle.verilog_registers.specs.Order.{Member}
use Rattle.v_hier.specs.Tables.{has_name}
use Rattle.v_ordered.specs.Membership.{with_new, port_nets}
use Rattle.v_ordered.proofs.members.add_ports.Given as goal

abbrev pub invariant-loop-name : goal.invariant-loop-name
invariant-loop-name l =
    (rest : List Member) → with_new l.initial.members (port_nets (has_name l.variables) (map (λ n. n.now) l.names) ++ rest)
    ≡ with_new l.members (port_nets (has_name l.variables) (map (λ n. n.now) (drop l.name-index l.names)) ++ rest)
