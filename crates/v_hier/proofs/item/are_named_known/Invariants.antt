use Rattle.std.proofs.Common.{◌≡◌, drop, map}
use Rattle.v_syntax.specs.Source.{optional_tree_of}
use Rattle.v_hier.specs.Reading.{knows, named_known}
use Rattle.v_hier.proofs.item.are_named_known.Given as goal

abbrev pub invariant-loop-connection : goal.invariant-loop-connection
invariant-loop-connection l = named_known (knows l.names) (map (λ c. (c.name.now, optional_tree_of c.value)) l.connections) ≡ named_known (knows l.names) (map (λ c. (c.name.now, optional_tree_of c.value)) (drop l.connection-index l.connections))
