use Rattle.std.proofs.Common.{◌≡◌, drop, map}
use Rattle.v_syntax.specs.Source.{optional_tree_of}
use Rattle.v_instances.specs.Connections.{one_bad_ordered}
use Rattle.v_instances.proofs.ports.has_bad_ordered.Given as goal

abbrev pub invariant-loop-place : goal.invariant-loop-place
invariant-loop-place l = one_bad_ordered l.interface 0 (map optional_tree_of l.entries) ≡ one_bad_ordered l.interface l.place (map optional_tree_of (drop l.place l.entries))
