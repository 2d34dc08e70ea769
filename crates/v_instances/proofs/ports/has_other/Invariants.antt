use Rattle.std.proofs.Common.{◌≡◌, not, drop, map}
use Rattle.std.specs.List.{list_any}
use Rattle.verilog_designs.specs.Names.{is_among}
use Rattle.verilog_designs.specs.Ports.{connected_names}
use Rattle.v_syntax.specs.Source.{optional_tree_of}
use Rattle.v_instances.specs.Texts.{texts}
use Rattle.v_instances.proofs.ports.has_other.Given as goal

abbrev pub invariant-loop-connection : goal.invariant-loop-connection
invariant-loop-connection l = list_any (λ n. not (is_among (texts l.listing.order.items) n)) (connected_names (map (λ c. (c.name.now, optional_tree_of c.value)) l.connections)) ≡ list_any (λ n. not (is_among (texts l.listing.order.items) n)) (connected_names (map (λ c. (c.name.now, optional_tree_of c.value)) (drop l.connection-index l.connections)))
