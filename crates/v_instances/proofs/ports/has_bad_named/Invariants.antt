use Rattle.std.proofs.Common.{◌≡◌, drop, map}
use Rattle.v_syntax.specs.Source.{optional_tree_of}
use Rattle.v_instances.specs.Connections.{one_bad_named}
use Rattle.v_instances.proofs.ports.has_bad_named.Given as goal

abbrev pub invariant-loop-connection : goal.invariant-loop-connection
invariant-loop-connection l = one_bad_named l.interface (map (λ c. (c.name.now, optional_tree_of c.value)) l.connections) ≡ one_bad_named l.interface (map (λ c. (c.name.now, optional_tree_of c.value)) (drop l.connection-index l.connections))
