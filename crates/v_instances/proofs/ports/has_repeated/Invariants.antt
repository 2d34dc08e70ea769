use Rattle.std.proofs.Common.{◌≡◌, ◌||◌, drop, map}
use Rattle.std.specs.List.{list_any}
use Rattle.verilog_designs.specs.Ports.{connected_names}
use Rattle.v_syntax.specs.Source.{optional_tree_of}
use Rattle.v_hier.specs.Tables.{has_name}
use Rattle.v_instances.specs.Connections.{repeats}
use Rattle.v_instances.proofs.ports.has_repeated.Given as goal

abbrev pub invariant-loop-connection : goal.invariant-loop-connection
invariant-loop-connection l = repeats (connected_names (map (λ c. (c.name.now, optional_tree_of c.value)) l.connections)) ≡ (list_any (has_name l.seen) (connected_names (map (λ c. (c.name.now, optional_tree_of c.value)) (drop l.connection-index l.connections))) || repeats (connected_names (map (λ c. (c.name.now, optional_tree_of c.value)) (drop l.connection-index l.connections))))
