use Rattle.std.proofs.Common.{◌≡◌, drop, map}
use Rattle.v_syntax.specs.Source.{optional_tree_of}
use Rattle.v_hier.specs.Reading.{knows, ordered_known}
use Rattle.v_hier.proofs.item.are_ordered_known.Given as goal

abbrev pub invariant-loop-connection : goal.invariant-loop-connection
invariant-loop-connection l = ordered_known (knows l.names) (map optional_tree_of l.connections) ≡ ordered_known (knows l.names) (map optional_tree_of (drop l.connection-index l.connections))
